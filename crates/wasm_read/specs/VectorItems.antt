-- Vectors that are held as the bytes that spell them: the items of compact imports.
use Rattle.std.specs.Prelude.{◌≡◌, ◌⊎◌, ℕ, ◌+◌, ◌-◌, ◌<◌, List, [], ◌++◌, length, true}
use Rattle.std.specs.Coded.{Coded-set}
use Rattle.std.proofs.Common.{sym, ap, ◌∙◌}
use mathlib.Core.HLevel.{Σ_prop_path}
use mathlib.Core.Logic.{∥∥₁_elim, ∥∥₁_prop}
use Rattle.wasm_leb.specs.Place.{BeginsNumber, BeginsNoNumber}
use Rattle.wasm_shapes.specs.Tree.{Tree}
use Rattle.wasm_shapes.specs.TreeCode.{trees_code}
use Rattle.wasm_shapes.specs.Shape.{Shape}
use Rattle.wasm_shapes.specs.Sound.{sound}
use Rattle.wasm_shapes.specs.Spells.{Spells}
use Rattle.wasm_shapes.specs.Place.{BeginsNone}
use Rattle.wasm_shapes.specs.Rows.{RowsLeft}
use Rattle.wasm_shapes.specs.Types.{rows_tree, listed, listed_rows}
use Rattle.wasm_shapes.proofs.Rows.{rows_one}
use Rattle.wasm_read.specs.VectorRows.{items_closed, items_sound}

-- ---- items side by side

-- so many items of a shape stand at the front of the bytes, and these are left behind them
pub record Items (row : Shape) (bytes : List ℕ) (n : ℕ) (left : List ℕ) : Type 0 where
  pub items : List Tree
  pub text : List ℕ
  pub spells : RowsLeft row n text (rows_tree items)
  pub reads : bytes ≡ text ++ left

-- a vector stands at the front of the bytes: its count, and then its items
pub record Passed (row : Shape) (bytes : List ℕ) (n : ℕ) (start left : List ℕ) : Type 0 where
  pub counted : BeginsNumber 128 32 32 bytes n start
  pub begins : Items row start n left

-- some of the items of a vector stand at the front of the bytes, and so many more are due where these are left
pub record PassedSome (row : Shape) (bytes : List ℕ) (due : ℕ) (left : List ℕ) : Type 0 where
  pub before : ℕ
  pub start : List ℕ
  pub counted : BeginsNumber 128 32 32 bytes (before + due) start
  pub begins : Items row start before left

-- where a reader of a vector stops: no count begins, or no item begins where one is due
pub record Stuck (row : Shape) (bytes stuck : List ℕ) : Type 0 where
  pub here : ((stuck ≡ bytes) × BeginsNoNumber 128 32 32 bytes)
      ⊎ ((due : ℕ) × PassedSome row bytes due stuck × (0 < due) × BeginsNone row stuck)
  pub none : BeginsNone (Shape.vec row) bytes

-- the bytes are no such vector, and this is the place where no count or item begins, or where the bytes behind it do
pub record NoVector (row : Shape) (bytes : List ℕ) (at : ℕ) : Type 0 where
  pub rest : List ℕ
  pub place : at ≡ length bytes - length rest
  pub here : Stuck row bytes rest ⊎ (PassedSome row bytes 0 rest × (rest ≡ [] → ⊥))
  pub none : (t : Tree) → Spells (Shape.vec row) bytes t → ⊥

-- ---- held items

-- so many items of a shape are what the bytes spell
abbrev pub HeldItems : Shape → ℕ → List ℕ → Type 0
HeldItems row n bytes = (items : List Tree) × ∥ RowsLeft row n bytes (rows_tree items) ∥₁

module _ (row : Shape) (passes : sound (Shape.many row) ≡ true) (n : ℕ) (bytes : List ℕ) where
  pub HeldItems-one : (p q : HeldItems row n bytes) → p.0 ≡ q.0
  HeldItems-one p q =
      ∥∥₁_elim p.1 (Coded-set trees_code p.0 q.0) (λ r.
      ∥∥₁_elim q.1 (Coded-set trees_code p.0 q.0) (λ s.
      sym (listed_rows p.0) ∙ ap listed (rows_one (items_sound row passes) (items_closed row passes) r s) ∙ listed_rows q.0))

  pub HeldItems-prop : IsProp (HeldItems row n bytes)
  HeldItems-prop p q = Σ_prop_path (λ items. ∥∥₁_prop) (HeldItems-one p q)

unfoldable pub held_items : (row : Shape) (n : ℕ) (bytes : List ℕ) → HeldItems row n bytes → List Tree
held_items row n bytes h = h.0
