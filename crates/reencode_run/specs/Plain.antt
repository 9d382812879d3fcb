-- What the re-encoding that renames nothing makes of some bytes.
use Rattle.std.specs.Prelude.{◌≡◌, ℕ, List, [], ◌∷◌, replicate}
use Rattle.wasm_shapes.specs.Tree.{Tree, normal, visits}
use Rattle.reencode_run.specs.Counts.{counted}
use Rattle.reencode_run.specs.Taken.{Reads}
use Rattle.reencode_run.specs.declared.binary_taken.Taken.{Taken}

-- The bytes have a reading, the output is its normal spelling, and the counts are the numbers of its visits.
pub record IsPlain (k : Taken) (bytes output : List ℕ) (counts : List (List ℕ)) : Type 0 where
  pub tree : Tree
  pub reading : Reads k bytes tree
  pub spelled : output ≡ normal tree
  pub asked : counts ≡ counted (replicate 19 0) (visits tree) ∷ []
