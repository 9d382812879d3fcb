use Rattle.wasm_shapes.specs.declared.SectionId.TheVariants as ids
use Rattle.wasm_shapes.specs.Module.{code_row}
use Rattle.reencode_c.proofs.RowsPlaced.{RowsSoFar}
use Rattle.reencode_c.proofs.rows.list_bodies.Given as goal

abbrev pub invariant-bodies : goal.invariant-bodies
invariant-bodies l = RowsSoFar code_row ids.Code l.body l.fn.lister l.lister l.bodies

abbrev pub decreases-bodies : goal.decreases-bodies
decreases-bodies l = l.bodies.left
