-- Rows one behind another up to the end of some bytes.
use Rattle.std.proofs.Common.{◌≡◌, ◌≢◌, ℕ, List, [], ◌∷◌, ◌++◌, true, false, refl, sym, ap, ◌∙◌, append-nil, subst, inl}
use Rattle.std.proofs.lemmas.List.{append_cancel_left}
use Rattle.wasm_shapes.specs.Tree.{Tree}
use Rattle.wasm_shapes.specs.Shape.{Shape, closed}
use Rattle.wasm_shapes.specs.Sound.{sound, nullable}
use Rattle.wasm_shapes.specs.Spells.{Is, Spelled, Spells}
use Rattle.wasm_shapes.specs.Place.{Begins, BeginsNone}
use Rattle.wasm_shapes.specs.Rows.{rows_then}
use Rattle.wasm_shapes.specs.Types.{rows_tree}
use Rattle.wasm_shapes.proofs.Unique.{unique}
use Rattle.wasm_shapes.proofs.Begins.{none_at_end}
use Rattle.wasm_shapes.proofs.Rows.{rows_then-append}
use Rattle.reencode_hooks.specs.declared.error.Error.{Error}
use Rattle.reencode_hooks.specs.Run.{Step, accepted, refused, and_then}
use Rattle.reencode_hooks.specs.Walk.{walk}
use Rattle.reencode_core.specs.Rows.{Asks, onto_rows, AcceptsRows, RowsBefore}
use Rattle.reencode_core.proofs.rows_walked.RowLoop.{before_more, onto_nothing, one_onto}

-- where a row begins, the others stand behind it
pub first_of_many : {row : Shape} {bytes left : List ℕ} {t : Tree} → sound row ≡ true → closed row ≡ true → nullable row ≡ false → Begins row bytes t left →
    (rows : Tree) → Spells (Shape.many row) bytes rows → (others : Tree) × (rows ≡ Tree.cons t others) × Spells (Shape.many row) left others
first_of_many {row = row} {bytes = bytes} {left = left} {t = t} k h n there rows r = go rows r.shaped r.spelled
  where
    go : (rows : Tree) → Is (Shape.many row) rows → Spelled rows bytes → (others : Tree) × (rows ≡ Tree.cons t others) × Spells (Shape.many row) left others
    go rows Is.nil p = let none : BeginsNone row [] = none_at_end n in absurd (none.none there.text left t there.spells (sym p ∙ there.reads))
    go rows (Is.cons {t = v} {u = u} d d') p =
        let both_ways : there.text ++ left ≡ p.0 ++ p.1 = sym there.reads ∙ p.2 in
        let same : (there.text ≡ p.0) × (t ≡ v) = unique there.spells.shaped d there.text p.0 left p.1 k (inl h) there.spells.spelled p.3 both_ways in
        let shifted : p.0 ++ left ≡ p.0 ++ p.1 = ap (λ (z : List ℕ). z ++ left) (sym same.0) ∙ both_ways in
        let behind : left ≡ p.1 = append_cancel_left p.0 left p.1 shifted in
        let P : List ℕ → Type 0 = λ z. Spelled u z in
        (u, ap (λ (w : Tree). Tree.cons w u) (sym same.1), record { shaped = d'; spelled = subst P (sym behind) p.4 })

-- none where no row begins and bytes are left
pub none_of_many : {row : Shape} {bytes : List ℕ} → BeginsNone row bytes → bytes ≢ [] → (rows : Tree) → Spells (Shape.many row) bytes rows → ⊥
none_of_many {row = row} {bytes = bytes} none some rows r = go rows r.shaped r.spelled
  where
    go : (rows : Tree) → Is (Shape.many row) rows → Spelled rows bytes → ⊥
    go rows Is.nil p = some p
    go rows (Is.cons {t = v} d d') p = none.none p.0 p.1 v (record { shaped = d; spelled = p.3 }) p.2

-- no row is left where no bytes are
pub end_of_many : {row : Shape} {bytes : List ℕ} → nullable row ≡ false → bytes ≡ [] → (rows : Tree) → Spells (Shape.many row) bytes rows → rows ≡ Tree.nil
end_of_many {row = row} {bytes = bytes} n empty rows r = go rows r.shaped r.spelled
  where
    go : (rows : Tree) → Is (Shape.many row) rows → Spelled rows bytes → rows ≡ Tree.nil
    go rows Is.nil p = refl
    go rows (Is.cons {t = v} d d') p =
        let none : BeginsNone row [] = none_at_end n in absurd (none.none p.0 p.1 v (record { shaped = d; spelled = p.3 }) (sym empty ∙ p.2))

-- Rows were read and walked, and the others are read and walked from here.
pub record ManyDone {S E : Type 0} (asked : Asks S E) (c : ℕ) (row : Shape) (start : List ℕ) (s0 : S) (rest : List ℕ) (s : S) (made : List Tree) : Type 0 where
  pub read : List Tree
  pub before : RowsBefore row start read rest
  pub back : (rows : Tree) → Spells (Shape.many row) start rows → (others : Tree) × (rows ≡ rows_then read others) × Spells (Shape.many row) rest others
  pub accepts : AcceptsRows asked c s0 read made s

module _ {S E : Type 0} (asked : Asks S E) (c : ℕ) where
  pub many_begun : (row : Shape) (start : List ℕ) (s : S) → ManyDone asked c row start s start s []
  many_begun row start s = record {
    read = [];
    before = record { text = []; shaped = Is.nil; spelled = refl; stands = refl };
    back = λ rows r. (rows, refl, r);
    accepts = λ others. onto_nothing asked (walk asked c s others);
  }

  module _ {row : Shape} (k : sound row ≡ true) (h : closed row ≡ true) (n : nullable row ≡ false) {start rest : List ℕ} {s0 s : S} {made : List Tree}
      (d : ManyDone asked c row start s0 rest s made) where
    pub many_more : {left : List ℕ} {m : S} {t v : Tree} → Begins row rest t left → walk asked c s t ≡ accepted v m → ManyDone asked c row start s0 left m (made ++ v ∷ [])
    many_more {m = m} {t = t} {v = v} there e = record {
      read = d.read ++ t ∷ [];
      before = before_more d.before there;
      back = λ rows r.
          let b = d.back rows r in
          let f = first_of_many k h n there b.0 b.2 in
          (f.0, b.1 ∙ ap (rows_then d.read) f.1 ∙ sym (rows_then-append d.read t f.0), f.2);
      accepts = λ others.
          let step : walk asked c s (Tree.cons t others) ≡ and_then (walk asked c m others) (λ u n. accepted (Tree.cons v u) n) = rw e refl in
          rw (rows_then-append d.read t others)
          (d.accepts (Tree.cons t others) ∙ ap (λ (r : Step S (Error E) Tree). onto_rows made r) step ∙ one_onto asked made v (walk asked c m others));
    }

    -- ---- all rows

    pub many_walked : rest ≡ [] → (rows : Tree) → Spells (Shape.many row) start rows → walk asked c s0 rows ≡ accepted (rows_tree made) s
    many_walked empty rows r = let b = d.back rows r in rw (b.1, end_of_many n empty b.0 b.2) (d.accepts Tree.nil)

    pub many_read : rest ≡ [] → (rows : Tree) × Spells (Shape.many row) start rows
    many_read empty =
        let all : start ≡ d.before.text = d.before.stands ∙ ap (λ (z : List ℕ). d.before.text ++ z) empty ∙ append-nil d.before.text in
        let P : List ℕ → Type 0 = λ z. Spelled (rows_tree d.read) z in
        (rows_tree d.read, record { shaped = d.before.shaped; spelled = subst P (sym all) d.before.spelled })

    -- ---- the next one

    -- it is refused
    pub many_refused : {left : List ℕ} {m : S} {t : Tree} (e : Error E) → Begins row rest t left → walk asked c s t ≡ refused e m →
        (rows : Tree) → Spells (Shape.many row) start rows → walk asked c s0 rows ≡ refused e m
    many_refused {m = m} {t = t} e there stops rows r =
        let b = d.back rows r in
        let f = first_of_many k h n there b.0 b.2 in
        let first : walk asked c s (Tree.cons t f.0) ≡ refused e m = rw stops refl in
        let here : walk asked c s b.0 ≡ refused e m = rw f.1 first in
        rw b.1 (d.accepts b.0 ∙ ap (λ (r : Step S (Error E) Tree). onto_rows made r) here)

    -- none is there
    pub many_stuck : BeginsNone row rest → rest ≢ [] → (rows : Tree) → Spells (Shape.many row) start rows → ⊥
    many_stuck none some rows r = let b = d.back rows r in none_of_many none some b.0 b.2
