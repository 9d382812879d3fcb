-- Laws of the lengths of what is written.
use Rattle.std.specs.Prelude.{◌≤◌, ℕ, List, length}
use Rattle.wasm_shapes.specs.Tree.{Tree, normal}
use Rattle.wasm_shapes.specs.Spells.{Spelled}
use Rattle.wasm_shapes.specs.Fits.{Fits}

-- No bytes that spell a tree are shorter than its normal spelling; no frame of it is longer than they are, or than 2^32 - 1.
pub record IsShortest : Type 0 where
  pub shortest : (t : Tree) (bytes : List ℕ) → Spelled t bytes → length (normal t) ≤ length bytes
  pub within : (c : ℕ) (t : Tree) (bytes : List ℕ) → Spelled t bytes → length bytes ≤ c → Fits t c
  pub sized : (t : Tree) (bytes : List ℕ) → Spelled t bytes → Fits t 4294967295
