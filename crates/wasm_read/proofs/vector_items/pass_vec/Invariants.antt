use Rattle.std.proofs.Common.{List}
use Rattle.wasm_shapes.specs.Tree.{Tree}
use Rattle.wasm_read.proofs.VectorItems.{ItemsBefore}
use Rattle.wasm_read.proofs.Vectors.{ItemsSoFar}
use Rattle.wasm_read.proofs.vector_items.pass_vec.Given as goal

abbrev pub invariant-entries : goal.invariant-entries
invariant-entries g l =
    (items : List Tree) × ItemsSoFar g.T.Entry.shape l.initial.left l.initial.rest items l.left l.rest
    × ItemsBefore g.T.Entry.shape l.initial.left l.initial.rest l.left l.rest

abbrev pub decreases-entries : goal.decreases-entries
decreases-entries g l = l.left
