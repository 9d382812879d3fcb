use Rattle.wasm_shapes.specs.declared.SectionId.TheVariants as ids
use Rattle.wasm_shapes.specs.Module.{code_row}
use Rattle.wasm_visits.proofs.RowsListed.{ReaderSoFar}
use Rattle.wasm_visits.proofs.rows.list_bodies.Given as goal

abbrev pub invariant-bodies : goal.invariant-bodies
invariant-bodies l = ReaderSoFar ids.Code code_row l.end l.start l.body l.fn.lister.visits l.lister.visits l.bodies

abbrev pub decreases-bodies : goal.decreases-bodies
decreases-bodies l = l.bodies.left
