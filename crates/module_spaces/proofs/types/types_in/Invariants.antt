use Rattle.wasm_shapes.specs.Shape.{Named, Shape}
use Rattle.module_spaces.specs.Spaces.{group_types}
use Rattle.module_spaces.proofs.RowSums.{RowsSummed}
use Rattle.module_spaces.proofs.types.types_in.Given as goal

-- the groups so far are added up
abbrev pub invariant-rows : goal.invariant-rows
invariant-rows l = RowsSummed (Shape.ref Named.group) group_types l.body l.rows l.sum

abbrev pub decreases-rows : goal.decreases-rows
decreases-rows l = l.rows.left
