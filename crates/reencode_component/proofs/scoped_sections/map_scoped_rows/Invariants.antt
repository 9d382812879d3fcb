use Rattle.reencode_component.proofs.rows_walked.EachShallowRow.{ShallowKept}
use Rattle.reencode_component.proofs.scoped_sections.map_scoped_rows.Given as goal

-- the rows so far are walked and added
abbrev pub invariant-rows : goal.invariant-rows
invariant-rows g l = ShallowKept g.T.ReencodeIndices g.K.RowKind.shape l.initial.rows l.initial.reencoder l.initial.sink l.rows l.reencoder l.sink

abbrev pub decreases-rows : goal.decreases-rows
decreases-rows g l = l.rows.rows.left
