use Rattle.reencode_c.proofs.RowsPlaced.{RowsSoFar}
use Rattle.reencode_c.proofs.rows.list_rows.Given as goal

abbrev pub invariant-rows : goal.invariant-rows
invariant-rows g l = RowsSoFar g.K.RowKind.shape l.id l.body l.fn.lister l.lister l.rows

abbrev pub decreases-rows : goal.decreases-rows
decreases-rows g l = l.rows.left
