-- The rows that a reader has left.
use Rattle.std.specs.Prelude.{◌≡◌, ℕ, List, [], ◌∷◌}
use Rattle.wasm_shapes.specs.Tree.{Tree, count}
use Rattle.wasm_shapes.specs.Shape.{Shape}
use Rattle.wasm_shapes.specs.Spells.{Is, Spelled}

-- so many rows of a shape, spelled by all of the bytes
pub record RowsLeft (shape : Shape) (left : ℕ) (bytes : List ℕ) (rows : Tree) : Type 0 where
  pub shaped : Is (Shape.many shape) rows
  pub counted : count rows ≡ left
  pub spelled : Spelled rows bytes

-- the bytes are no such rows
pub record NoRows (shape : Shape) (left : ℕ) (bytes : List ℕ) : Type 0 where
  pub none : (rows : Tree) → RowsLeft shape left bytes rows → ⊥

-- rows, and others behind them
abbrev pub rows_then : List Tree → Tree → Tree
rows_then [] others = others
rows_then (t ∷ ts) others = Tree.cons t (rows_then ts others)
