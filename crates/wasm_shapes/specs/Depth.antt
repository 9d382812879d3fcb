-- How many scopes a tree opens within each other, and readings below a depth.
use Rattle.std.specs.Prelude.{◌≡◌, ℕ, zero, suc, ◌+◌, ◌≤◌, max, List}
use Rattle.wasm_shapes.specs.Tree.{Tree, count}
use Rattle.wasm_shapes.specs.Shape.{Shape}
use Rattle.wasm_shapes.specs.Place.{Begins}

-- the most scopes that are open within each other
abbrev pub opens : Tree → ℕ
opens (Tree.pair t u) = max (opens t) (opens u)
opens (Tree.swap t u) = max (opens t) (opens u)
opens (Tree.cons t u) = max (opens t) (opens u)
opens (Tree.vec t) = opens t
opens (Tree.present t) = opens t
opens (Tree.sized t) = opens t
opens (Tree.row k t) = opens t
opens (Tree.scope t) = suc (opens t)
opens (Tree.spare b t) = opens t
opens (Tree.kept b t) = opens t
opens (Tree.final t u) = max (opens t) (opens u)
opens (Tree.until b t) = opens t
opens (Tree.op c t) = opens t
opens (Tree.left w o t) = max (opens o) (opens t)
opens (Tree.aimed w i o t) = max (opens o) (opens t)
opens (Tree.placed i o t) = max (opens o) (opens t)
opens (Tree.told k t) = opens t
opens (Tree.also t u) = max (opens t) (opens u)
opens _ = zero

-- With so many scopes open round it, the tree opens none too many.
pub record Shallow (depth : ℕ) (tree : Tree) : Type 0 where
  pub most : opens tree + depth ≤ 200

-- the bytes begin with a spelling of the tree, which opens no scope too many at the depth
pub record BeginsAt (shape : Shape) (depth : ℕ) (bytes : List ℕ) (tree : Tree) (left : List ℕ) : Type 0 where
  pub begins : Begins shape bytes tree left
  pub shallow : Shallow depth tree

-- they begin with no such tree
pub record BeginsNoneAt (shape : Shape) (depth : ℕ) (bytes : List ℕ) : Type 0 where
  pub none : (left : List ℕ) (tree : Tree) → BeginsAt shape depth bytes tree left → ⊥

-- ---- rows with bytes behind them

-- the bytes begin with so many rows
pub record BeginsRows (shape : Shape) (n : ℕ) (bytes : List ℕ) (rows : Tree) (left : List ℕ) : Type 0 where
  pub counted : count rows ≡ n
  pub begins : Begins (Shape.many shape) bytes rows left

-- they begin with no such rows that open no scope too many at the depth
pub record NoRowsAt (shape : Shape) (n depth : ℕ) (bytes : List ℕ) : Type 0 where
  pub none : (left : List ℕ) (rows : Tree) → BeginsRows shape n bytes rows left → Shallow depth rows → ⊥
