-- What comes out of a reencoder whose state stays, and whose section hooks add.
use Rattle.std.proofs.Common.{◌≡◌, ℕ, zero, suc, List, [], ◌∷◌, ◌++◌, length, map, drop, get_or, Option, Some, None, Result, Ok, Err, IfErr, IfOk, refl, sym, ap, ap₂, ◌∙◌, subst}
use Rattle.wasm_shapes.specs.declared.SectionId.{SectionId}
use Rattle.wasm_shapes.specs.declared.Visit.{Visit}
use Rattle.wasm_shapes.specs.declared.Visit.TheVariants.{Index, Outer, Section, Closed}
use Rattle.wasm_shapes.specs.Own.{asked_index}
use Rattle.wasm_shapes.specs.Tree.{Tree, Listed, kind, before, behind, visits, visits_from, after, past, fill, aimed_at, normal}
use Rattle.wasm_shapes.specs.Fits.{Fits}
use Rattle.wasm_shapes.specs.Module.{alsos}
use Rattle.wasm_shapes.proofs.OwnAnswers.{fill_own}
use Rattle.wasm_write.specs.Sections.{SectionRow}
use Rattle.reencode_hooks.specs.declared.error.Error.{Error}
use Rattle.reencode_hooks.specs.Hooks.{HasTooLarge, index_of}
use Rattle.reencode_hooks.specs.Run.{accepted, run, state_after}
use Rattle.reencode_core.specs.Rows.{Asks}
use Rattle.reencode_core.specs.Weave.{Puts, added, put_at, put_behind, weave, woven, woven_from}
use Rattle.reencode_core.specs.Woven.{GivesWovenBytes}
use Rattle.reencode_core.specs.Interspersed.{IsInterspersed, IsMadeBetween, interspersed, interspersed_from}
use Rattle.reencode_core.proofs.weave.Completeness.{accepted_is_answered}
use Rattle.reencode_core.proofs.weave.Weaves.{weave_is_run}

-- ---- a filled section is told of as it was

kind-aimed : (w : Listed) (n : ℕ) (o t : Tree) (last : Option SectionId) → kind last (aimed_at w n o t) ≡ last
kind-aimed w zero o t last = refl
kind-aimed w (suc n) o t last = refl

kind-fill : (t : Tree) (answers : List ℕ) (last : Option SectionId) → kind last (fill t answers) ≡ kind last t
kind-fill (Tree.row k t) answers last = kind-fill t answers last
kind-fill (Tree.left w o t) answers last = kind-aimed w (get_or (after t answers) 0 0) (fill o (drop 1 (after t answers))) (fill t answers) last
kind-fill _ answers last = refl

module _ {S : Type 0} (put : Puts S Tree) (s : S) where
  put_at-aimed : (visit : SectionId → Visit) (w : Listed) (n : ℕ) (o t : Tree) → put_at (λ (_ : Unit {0}). put s) visit tt (aimed_at w n o t) ≡ []
  put_at-aimed visit w zero o t = refl
  put_at-aimed visit w (suc n) o t = refl

  put_at-fill : (visit : SectionId → Visit) (t : Tree) (answers : List ℕ) → put_at (λ (_ : Unit {0}). put s) visit tt (fill t answers) ≡ put_at put visit s t
  put_at-fill visit (Tree.row k t) answers = put_at-fill visit t answers
  put_at-fill visit (Tree.left w o t) answers = put_at-aimed visit w (get_or (after t answers) 0 0) (fill o (drop 1 (after t answers))) (fill t answers)
  put_at-fill visit _ answers = refl

  interspersed-aimed : (w : Listed) (n : ℕ) (o t : Tree) (last : Option SectionId) → aimed_at w n o t ≡ interspersed_from (put s) last (aimed_at w n o t)
  interspersed-aimed w zero o t last = refl
  interspersed-aimed w (suc n) o t last = refl

-- ---- each index is its own answer, and the state stays

asked_is : (v : Visit) → index_of v ≡ asked_index v
asked_is (Index p i) = refl
asked_is (Outer p k i) = refl
asked_is _ = refl

module _ {S E : Type 0} (asked : Asks S E) (same : (s : S) (v : Visit) → asked s v ≡ accepted (index_of v) s) where
  own_answer : (s : S) (v : Visit) → asked s v ≡ accepted (asked_index v) s
  own_answer s v = same s v ∙ ap (λ (n : ℕ). accepted n s) (asked_is v)

  runs : (s : S) (vs : List Visit) → run asked s vs ≡ accepted (map asked_index vs) s
  runs s [] = refl
  runs s (v ∷ vs) = rw (own_answer s v, runs s vs) refl

  run_stays : (s : S) (vs : List Visit) → state_after (run asked s vs) ≡ s
  run_stays s vs = ap state_after (runs s vs)

  module _ (put : Puts S Tree) where
    -- what is put is put in the one state
    woven_stays : (s : S) (t : Tree) (answers : List ℕ) (last : Option SectionId) → woven_from asked put last s t answers ≡ interspersed_from (put s) last (fill t answers)
    woven_stays s (Tree.pair t u) answers last =
        ap₂ Tree.pair (woven_stays s t answers None)
        (ap (λ z. woven_from asked put None z u (after t answers)) (run_stays s (visits_from None t)) ∙ woven_stays s u (after t answers) None)
    woven_stays s Tree.finish answers last = refl
    woven_stays s (Tree.also t u) answers last =
        let own : List ℕ = drop (length (before None t)) answers in
        ap₂ (λ vs z. alsos vs (Tree.also (fill t own) z)) (sym (put_at-fill put s (λ k. Section last (Some k)) t own))
        (ap₂ alsos (ap (λ z. put_behind put z t) (run_stays s (before last t ++ visits_from None t)) ∙ sym (put_at-fill put s (λ k. Closed k) t own))
        (ap (λ z. woven_from asked put (kind last t) z u (past t own)) (run_stays s (before last t ++ (visits_from None t ++ behind t))) ∙ woven_stays s u (past t own) (kind last t)
        ∙ ap (λ z. interspersed_from (put s) z (fill u (past t own))) (sym (kind-fill t own last))))
    woven_stays s (Tree.left w o t) answers last = interspersed-aimed put s w (get_or (after t answers) 0 0) (fill o (drop 1 (after t answers))) (fill t answers) last
    woven_stays s t answers last = refl

-- What comes out is the reading, and between its sections what is added.
pub only_added : {S E A : Type 0} {asked : Asks S E} {adds : Puts S SectionRow} {ceiling : ℕ} {bytes : List ℕ} {s m : S} {view : A → List ℕ} →
    ((k : S) (v : Visit) → asked k v ≡ accepted (index_of v) k) → (r : Result A (Error E)) → GivesWovenBytes asked adds ceiling bytes s m r view →
    IfOk r (λ out. IsInterspersed (adds s) bytes (view out))
only_added {asked = asked} {adds = adds} {ceiling = ceiling} {s = s} {m = m} same (Ok out) g =
    let p = g.readable in
    let q = g.reading p.0 p.1 in
    let a = (weave_is_run asked).forth (added adds) ceiling s m p.0 q.0 q.1 in
    let ran : accepted (map asked_index (visits p.0)) s ≡ accepted a.given m = sym (runs asked same s (visits p.0)) ∙ a.ran in
    let own : map asked_index (visits p.0) ≡ a.given = cc in
    let filled : fill p.0 a.given ≡ p.0 = ap (fill p.0) (sym own) ∙ fill_own p.0 in
    record {
      tree = p.0;
      reading = p.1;
      spelled = q.2 ∙ ap normal (sym a.wove ∙ (woven_stays asked same (added adds) s p.0 a.given None ∙ ap (interspersed (adds s)) filled));
    }
only_added same (Err e) g = tt

-- Where nothing that is added is too large, memory alone may run out.
pub made_between : {S E A : Type 0} {asked : Asks S E} {adds : Puts S SectionRow} {ceiling : ℕ} {bytes : List ℕ} {s m : S} {view : A → List ℕ} →
    ((k : S) (v : Visit) → asked k v ≡ accepted (index_of v) k) → (r : Result A (Error E)) → GivesWovenBytes asked adds ceiling bytes s m r view →
    IfErr r (IsMadeBetween (adds s) ceiling bytes)
made_between same (Ok out) g = tt
made_between {S = S} {asked = asked} {adds = adds} {ceiling = ceiling} {bytes = bytes} {s = s} {m = m} {view = view} same (Err e) g = λ t p fits small.
    let own : List ℕ = map asked_index (visits t) in
    let P : Tree → Type 0 = λ u. Fits u ceiling in
    let accepts : weave asked (added adds) ceiling s t ≡ accepted (woven asked (added adds) s t own) s =
    (weave_is_run asked).back (added adds) ceiling s s t (woven asked (added adds) s t own) bytes p.spelled
    (record { given = own; ran = runs asked same s (visits t); wove = refl; fits = subst P (sym (fill_own t)) fits }) in
    accepted_is_answered asked adds view ceiling bytes s m (Err e) g t (woven asked (added adds) s t own) s p
    (λ front v rest may parts size. let Q : S → Type 0 = λ k. ¬ HasTooLarge ceiling (adds k v) size in subst Q (sym (run_stays asked same s front)) (small v may size))
    accepts
