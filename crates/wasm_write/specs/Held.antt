-- The rows that some bytes spell.
use Rattle.std.specs.Prelude.{◌≡◌, ℕ, ◌+◌, ◌^◌, ◌<◌, Bool, List, [], ◌∷◌, ◌++◌, length, true, false}
use Rattle.std.specs.Coded.{Coded-set}
use Rattle.std.proofs.Common.{sym, ap, ◌∙◌}
use mathlib.Core.HLevel.{Σ_prop_path}
use mathlib.Core.Logic.{∥∥₁_elim, ∥∥₁_prop}
use Rattle.wasm_shapes.specs.Tree.{Tree, normal}
use Rattle.wasm_shapes.specs.TreeCode.{trees_code}
use Rattle.wasm_shapes.specs.Shape.{Shape}
use Rattle.wasm_shapes.specs.Sound.{sound}
use Rattle.wasm_shapes.specs.Spells.{Is, Spelled, Spells}
use Rattle.wasm_shapes.specs.Types.{rows_tree, vector_tree, listed, listed_rows}
use Rattle.wasm_shapes.proofs.Laws.{one_tree}

-- The body of a section spells a vector of rows of a shape, and whatever other shape it has, as that of the rows in force.
pub record BodySpells (row : Shape) (rows : List Tree) : Type 0 where
  pub spells : ∥ Spells (Shape.vec row) (normal (vector_tree rows)) (vector_tree rows) ∥₁
  pub reads_back : (shape : Shape) → Is shape (vector_tree rows) →
      ∥ Spells shape (normal (vector_tree rows)) (vector_tree rows) ∥₁

-- so many rows of a shape, whose normal spelling these bytes are
pub record AreHeld (shape : Shape) (count : ℕ) (bytes : List ℕ) (rows : List Tree) : Type 0 where
  pub shaped : Is (Shape.many shape) (rows_tree rows)
  pub counted : length rows ≡ count
  pub spelled : Spelled (rows_tree rows) bytes
  pub normally : normal (rows_tree rows) ≡ bytes

-- there are such rows
abbrev pub Held : Shape → ℕ → List ℕ → Type 0
Held shape count bytes = (rows : List Tree) × ∥ AreHeld shape count bytes rows ∥₁

-- A row of which a fact holds was added; or it is one too many, and nothing was.
abbrev pub AddsIf : (Tree → Type 0) → List Tree → List Tree → Bool → Type 0
AddsIf P old new true = (t : Tree) × P t × (new ≡ old ++ t ∷ []) × (length old + 1 < 2 ^ 32)
AddsIf P old new false = (t : Tree) × P t × (new ≡ old) × (length old + 1 ≡ 2 ^ 32)

-- where a shape passes the test, its rows are told apart by their bytes
pub rows_are_one : {shape : Shape} {n m : ℕ} {bytes : List ℕ} {rows others : List Tree} → sound (Shape.many shape) ≡ true →
    AreHeld shape n bytes rows → AreHeld shape m bytes others → rows ≡ others
rows_are_one {shape = shape} {bytes = bytes} {rows = rows} {others = others} passes p q =
    sym (listed_rows rows) ∙ ap listed (one_tree (Shape.many shape) passes bytes (rows_tree rows) (rows_tree others)
    (record { shaped = p.shaped; spelled = p.spelled }) (record { shaped = q.shaped; spelled = q.spelled })) ∙ listed_rows others

module _ (shape : Shape) (passes : sound (Shape.many shape) ≡ true) (count : ℕ) (bytes : List ℕ) where
  pub Held-one : (p q : Held shape count bytes) → p.0 ≡ q.0
  Held-one p q =
      ∥∥₁_elim p.1 (Coded-set trees_code p.0 q.0) (λ r.
      ∥∥₁_elim q.1 (Coded-set trees_code p.0 q.0) (λ s. rows_are_one passes r s))

  pub Held-prop : IsProp (Held shape count bytes)
  Held-prop p q = Σ_prop_path (λ rows. ∥∥₁_prop) (Held-one p q)

unfoldable pub held_rows : (shape : Shape) (count : ℕ) (bytes : List ℕ) → Held shape count bytes → List Tree
held_rows shape count bytes h = h.0

-- ---- rows without their number

-- rows of a shape one behind another, without their number, whose normal spelling these bytes are
abbrev pub HeldMany : Shape → List ℕ → Type 0
HeldMany shape bytes = (rows : List Tree) × ∥ AreHeld shape (length rows) bytes rows ∥₁

module _ (shape : Shape) (passes : sound (Shape.many shape) ≡ true) (bytes : List ℕ) where
  pub HeldMany-one : (p q : HeldMany shape bytes) → p.0 ≡ q.0
  HeldMany-one p q =
      ∥∥₁_elim p.1 (Coded-set trees_code p.0 q.0) (λ r.
      ∥∥₁_elim q.1 (Coded-set trees_code p.0 q.0) (λ s. rows_are_one passes r s))

  pub HeldMany-prop : IsProp (HeldMany shape bytes)
  HeldMany-prop p q = Σ_prop_path (λ rows. ∥∥₁_prop) (HeldMany-one p q)

unfoldable pub held_many : (shape : Shape) (bytes : List ℕ) → HeldMany shape bytes → List Tree
held_many shape bytes h = h.0
