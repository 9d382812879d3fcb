-- What is kept where nothing is renamed.
use Rattle.std.proofs.Common.{◌≡◌, ℕ, List, [], ◌∷◌, length, Ok, refl, sym, ◌∙◌, subst}
use Rattle.wasm_shapes.specs.Tree.{Tree, visits}
use Rattle.wasm_shapes.specs.Spells.{Spells}
use Rattle.wasm_shapes.specs.Module.{core_module}
use Rattle.reencode_core.specs.Kept.{Kept}
use Rattle.reencode_core.specs.Pieces.{Range}
use Rattle.reencode_hooks.specs.Run.{accepted, run}
use Rattle.reencode_run.specs.declared.renamers.Renamers.{Renamers}
use Rattle.reencode_hooks.specs.Renamings.{Renaming, no_renaming}
use Rattle.reencode_core.specs.Clauses.{BytesClauses}
use Rattle.reencode_run.specs.declared.renamers.Renamers.TheVariants.{Alone}
use Rattle.reencode_run.specs.declared.binary_taken.Taken.TheVariants.{Modules}
use Rattle.reencode_run.specs.Kept.{Keeps, kept_report}
use Rattle.reencode_run.specs.Renamers.{State, asks_of, begun, hooks_of}
use Rattle.reencode_run.specs.Reencoded.{IsReencoded}
use Rattle.reencode_run.proofs.ByRule.{keeps_begun, ran}
use Rattle.reencode_run.proofs.Outcomes.{given, one_answer, plain_of, still_counts}

-- what is kept under the answers of a run is kept under those of the output
pub kept_of : {c : ℕ} (rs : Renamers) {bytes output : List ℕ} {counts : List (List ℕ)} (m : State rs) (ranges : List Range) (p : IsReencoded Modules c rs bytes output counts)
    → ((t : Tree) → Spells core_module bytes t → (given : List ℕ) × (run (asks_of rs) (begun rs) (visits t) ≡ accepted given m) × Kept bytes t given ranges)
    → Kept bytes p.tree p.answers ranges
kept_of rs {bytes} m ranges p h =
    let k = h p.tree p.reading in
    let same : k.0 ≡ p.answers = one_answer k.0 p.answers (sym (ran rs (visits p.tree) (begun rs) (keeps_begun rs) k.1).answers ∙ p.answered) in
    let P : List ℕ → Type 0 = λ z. Kept bytes p.tree z ranges in
    subst P same k.2

-- what is kept where a renamer without entries gave pieces
pub keeps_given : {A : Type 0} (c : ℕ) (bytes : List ℕ) (r m : Renaming) (out : A) (view : A → List ℕ) (text : List ℕ) (ranges : List Range) → r ≡ no_renaming
    → BytesClauses (hooks_of (Alone no_renaming)) c bytes r m (Ok out) view
    → ((t : Tree) → Spells core_module bytes t → (given : List ℕ) × (run (asks_of (Alone no_renaming)) r (visits t) ≡ accepted given m) × Kept bytes t given ranges)
    → (length m.counts ≡ 19 → text ≡ kept_report ranges (length (view out)) (m.counts ∷ [])) → Keeps c bytes text
keeps_given c bytes r m out view text ranges same g k told =
    let P : Renaming → Type 0 = λ z. BytesClauses (hooks_of (Alone no_renaming)) c bytes z m (Ok out) view in
    let Q : Renaming → Type 0 = λ z.
    (t : Tree) → Spells core_module bytes t → (given : List ℕ) × (run (asks_of (Alone no_renaming)) z (visits t) ≡ accepted given m) × Kept bytes t given ranges in
    let p = given Modules c (Alone no_renaming) bytes m out view (subst P same g) in record {
      output = view out;
      counts = m.counts ∷ [];
      reencoded = p;
      plain = plain_of p;
      ranges = ranges;
      kept = kept_of (Alone no_renaming) m ranges p (subst Q same k);
      told = told (still_counts m p refl);
    }
