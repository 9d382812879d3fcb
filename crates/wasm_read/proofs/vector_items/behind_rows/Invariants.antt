use Rattle.std.proofs.Common.{List}
use Rattle.wasm_shapes.specs.Tree.{Tree}
use Rattle.wasm_read.proofs.Vectors.{ItemsSoFar}
use Rattle.wasm_read.proofs.vector_items.behind_rows.Given as goal

abbrev pub invariant-rows : goal.invariant-rows
invariant-rows g l = (rows : List Tree) × ItemsSoFar g.K.RowKind.shape l.initial.left l.initial.rest rows l.left l.rest

abbrev pub decreases-rows : goal.decreases-rows
decreases-rows g l = l.left
