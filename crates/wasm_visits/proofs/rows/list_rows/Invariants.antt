use Rattle.wasm_visits.proofs.RowsListed.{ReaderSoFar}
use Rattle.wasm_visits.proofs.rows.list_rows.Given as goal

abbrev pub invariant-rows : goal.invariant-rows
invariant-rows g l = ReaderSoFar l.id g.K.RowKind.shape l.end l.start l.body l.fn.lister.visits l.lister.visits l.rows

abbrev pub decreases-rows : goal.decreases-rows
decreases-rows g l = l.rows.left
