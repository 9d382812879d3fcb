use Rattle.std.proofs.Common.{List}
use Rattle.wasm_shapes.specs.Shape.{Named, Shape}
use Rattle.wasm_shapes.specs.Tree.{Tree}
use Rattle.wasm_read.proofs.Vectors.{ItemsSoFar}
use Rattle.wasm_read.proofs.behind_groups.behind_sub_types.Given as goal

abbrev pub invariant-types : goal.invariant-types
invariant-types l = (rows : List Tree) × ItemsSoFar (Shape.ref Named.sub) l.initial.left l.initial.rest rows l.left l.rest

abbrev pub decreases-types : goal.decreases-types
decreases-types l = l.left
