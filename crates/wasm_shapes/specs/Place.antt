-- Where in some bytes a text stands.
use Rattle.std.specs.Prelude.{◌≡◌, ℕ, List, ◌++◌}
use Rattle.wasm_shapes.specs.Tree.{Tree}
use Rattle.wasm_shapes.specs.Shape.{Shape}
use Rattle.wasm_shapes.specs.Spells.{Spells}

-- the bytes begin with a spelling of the tree, and these are left behind it
pub record Begins (shape : Shape) (bytes : List ℕ) (tree : Tree) (left : List ℕ) : Type 0 where
  pub text : List ℕ
  pub spells : Spells shape text tree
  pub reads : bytes ≡ text ++ left

-- they begin with nothing of the shape
pub record BeginsNone (shape : Shape) (bytes : List ℕ) : Type 0 where
  pub none : (text left : List ℕ) (tree : Tree) → Spells shape text tree → bytes ≡ text ++ left → ⊥
