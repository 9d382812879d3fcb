-- Maps of names whose indices are asked for.
use Rattle.std.proofs.Common.{◌≡◌, ℕ, suc, List, [], ◌∷◌, ◌++◌, map, refl, ap, ap₂}
use Rattle.wasm_shapes.specs.declared.Space.{Space}
use Rattle.wasm_shapes.specs.Tree.{Tree, count, normal, frames}
use Rattle.wasm_shapes.specs.Shape.{Shape}
use Rattle.wasm_shapes.specs.Spells.{Is, Spelled}
use Rattle.wasm_shapes.specs.Fits.{InRange}
use Rattle.wasm_shapes.specs.Types.{rows_tree}
use Rattle.wasm_shapes.specs.Namings.{asked_in}

-- an entry, and the same whose index is asked for
pub record AskedOne (s : Space) (behind : Shape) (t : Tree) : Type 0 where
  pub shaped : Is (Shape.seq (Shape.ix s) behind) (asked_in s t)
  pub spelled : (x : List ℕ) → Spelled t x → Spelled (asked_in s t) x
  pub normally : normal (asked_in s t) ≡ normal t
  pub framed : frames (asked_in s t) ≡ frames t
  pub in_range : InRange t → InRange (asked_in s t)

pub asked_one : (s : Space) {behind : Shape} {t : Tree} → Is (Shape.seq Shape.u32 behind) t → AskedOne s behind t
asked_one s (Is.seq Is.u32 d) = record { shaped = Is.seq Is.ix d; spelled = λ x p. p; normally = refl; framed = refl; in_range = λ r. r }

-- entries, and the same whose indices are asked for
pub record Asked (s : Space) (behind : Shape) (rows : List Tree) : Type 0 where
  pub shaped : Is (Shape.many (Shape.seq (Shape.ix s) behind)) (rows_tree (map (asked_in s) rows))
  pub spelled : (x : List ℕ) → Spelled (rows_tree rows) x → Spelled (rows_tree (map (asked_in s) rows)) x
  pub normally : normal (rows_tree (map (asked_in s) rows)) ≡ normal (rows_tree rows)
  pub counted : count (rows_tree (map (asked_in s) rows)) ≡ count (rows_tree rows)
  pub framed : frames (rows_tree (map (asked_in s) rows)) ≡ frames (rows_tree rows)
  pub in_range : InRange (rows_tree rows) → InRange (rows_tree (map (asked_in s) rows))

pub asked : (s : Space) (behind : Shape) (rows : List Tree) → Is (Shape.many (Shape.seq Shape.u32 behind)) (rows_tree rows) → Asked s behind rows
asked s behind [] d = record { shaped = Is.nil; spelled = λ x p. p; normally = refl; counted = refl; framed = refl; in_range = λ r. r }
asked s behind (t ∷ rows) (Is.cons d d') =
    let one = asked_one s d in
    let rest = asked s behind rows d' in record {
      shaped = Is.cons one.shaped rest.shaped;
      spelled = λ x p. (p.0, p.1, p.2, one.spelled p.0 p.3, rest.spelled p.1 p.4);
      normally = ap₂ (λ (y z : List ℕ). y ++ z) one.normally rest.normally;
      counted = ap suc rest.counted;
      framed = ap₂ (λ (y z : List ℕ). y ++ z) one.framed rest.framed;
      in_range = λ r. (one.in_range r.0, rest.in_range r.1);
    }
