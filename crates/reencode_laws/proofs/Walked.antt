-- Walks one after the other, and of a chain.
use Rattle.std.proofs.Common.{◌≡◌, ◌≤◌, ◌-◌, ◌^◌, true, ℕ, List, Result, None, refl, sym, ap, ◌∙◌, subst}
use Rattle.wasm_shapes.specs.declared.Visit.{Visit}
use Rattle.wasm_shapes.specs.Tree.{Tree, visits, fill, normal, frames}
use Rattle.wasm_shapes.specs.Own.{own}
use Rattle.wasm_shapes.specs.Shape.{Shape}
use Rattle.wasm_shapes.specs.Sound.{sound}
use Rattle.wasm_shapes.specs.Spells.{Spelled, Spells}
use Rattle.wasm_shapes.specs.Fits.{Fits}
use Rattle.wasm_shapes.proofs.Laws.{filled_read_back, one_tree}
use Rattle.wasm_shapes.proofs.ReadBack.{spelled_in_range}
use Rattle.reencode_hooks.specs.Run.{accepted, ask, run}
use Rattle.reencode_hooks.specs.Walk.{walk}
use Rattle.reencode_hooks.specs.Hooks.{KeepsAnswers}
use Rattle.reencode_hooks.specs.Chains.{chain_reply, chain_next}
use Rattle.reencode_hooks.proofs.Agrees.{given}
use Rattle.reencode_hooks.proofs.Walks.{walk_is_run}
use Rattle.reencode_hooks.proofs.InRange.{all_small, answers_small, below, visits_in_range}
use Rattle.reencode_laws.specs.Chained.{written, KeepsFirstTable, AfterEachOther}
use Rattle.reencode_laws.specs.Chained as statements
use Rattle.reencode_laws.specs.Own.{ReadsAs}
use Rattle.reencode_laws.proofs.Twice.{fill-fill, filled_twice}
use Rattle.reencode_laws.proofs.Runs.{chain_is_both}
use Rattle.reencode_laws.proofs.Written.{fits}

module _ {A B X Y : Type 0} (f : A → Visit → Result ℕ X) (f' : A → Visit → A) (g : B → Visit → Result ℕ Y) (g' : B → Visit → B) (keeps : KeepsAnswers f) where
  read : (shape : Shape) → sound shape ≡ true → (c : ℕ) → c ≤ 2 ^ 32 - 1 → (a m : A) (bytes : List ℕ) (t u : Tree) → Spells shape bytes t
      → walk (ask f f') c a t ≡ accepted u m → ReadsAs shape (normal u) u
  read shape k c bound a m bytes t u p h =
      let w = (walk_is_run (ask f f')).forth c a m t u h in
      let small = all_small w.given (answers_small f f' keeps a m (visits t) w.given (visits_in_range None t (spelled_in_range t bytes p.spelled)) w.ran) in
      let F : Tree → Type 0 = λ z. Fits z c in
      let inner : Fits (fill t w.given) c = subst F (sym w.filled) w.fits in
      let reads = filled_read_back shape bytes t w.given small p (below c (2 ^ 32 - 1) (frames (fill t w.given)) bound inner) in
      let S : Tree → Type 0 = λ z. Spells shape (normal z) z in
      let here : Spells shape (normal u) u = subst S w.filled reads in
      (here, λ v q. one_tree shape k (normal u) v u q here)

  chained : (c d : ℕ) (a m : A) (b n : B) (bytes : List ℕ) (t u v : Tree) → Spelled t bytes → walk (ask f f') c a t ≡ accepted u m
      → walk (ask g g') d b u ≡ accepted v n → AfterEachOther f f' g g' d a m b n t u v
  chained c d a m b n bytes t u v p h q =
      let one = (walk_is_run (ask f f')).forth c a m t u h in
      let two = (walk_is_run (ask g g')).forth d b n u v q in
      let R : Tree → Type 0 = λ z. run (ask g g') b (visits z) ≡ accepted two.given n in
      let V : Tree → Type 0 = λ z. fill z two.given ≡ v in
      let again : run (ask g g') b (visits (fill t one.given)) ≡ accepted two.given n = subst R (sym one.filled) two.ran in
      let filled : fill (fill t one.given) two.given ≡ v = subst V (sym one.filled) two.filled in
      let same : v ≡ written (fill t two.given) one.given = sym filled ∙ fill-fill t one.given two.given in
      let F : Tree → Type 0 = λ z. Fits z d in
      let both = (chain_is_both f f' g g').back a m b n t one.given two.given one.ran again in record {
        first = one.given;
        second = two.given;
        ran = one.ran;
        then_ran = two.ran;
        chained = (walk_is_run (ask (chain_reply f g) (chain_next f f' g'))).back d _ _ t (fill t two.given) bytes p
            (record { given = two.given; ran = both; filled = refl; fits = fits d (fill t two.given) one.given (subst F same two.fits) });
        same = same;
        alike = λ k. sym filled ∙ filled_twice.alike t one.given two.given k;
      }

  undone : (c d : ℕ) (a m : A) (b n k : B) (t u v : Tree) → walk (ask f f') c a t ≡ accepted u m → walk (ask g g') d b u ≡ accepted v n
      → run (ask g g') b (visits u) ≡ accepted (own t) k
      → (first : List ℕ) × (run (ask f f') a (visits t) ≡ accepted first m) × (v ≡ written t first) × (KeepsFirstTable (visits t) first → v ≡ t)
  undone c d a m b n k t u v h q r =
      let one = (walk_is_run (ask f f')).forth c a m t u h in
      let two = (walk_is_run (ask g g')).forth d b n u v q in
      let own_given : two.given ≡ own t = (given (sym two.ran ∙ r)).0 in
      let filled : v ≡ fill (fill t one.given) (own t) = sym two.filled ∙ ap (fill u) own_given ∙ ap (λ (z : Tree). fill z (own t)) (sym one.filled) in
      let same : v ≡ written t one.given = filled ∙ filled_twice.undone t one.given in
      (one.given, one.ran, same, λ kept. same ∙ filled_twice.undone_alike t one.given kept)

  pub chained_walks : statements.ChainedWalks f f' g g'
  chained_walks = record { read = read; chained = chained; undone = undone }
