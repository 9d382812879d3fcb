use Rattle.reencode_core.proofs.rows_walked.EachRow.{RowsKept}
use Rattle.reencode_core.proofs.rows_walked.TypeRow.{group}
use Rattle.reencode_core.proofs.direct.parse_type_section.Given as goal

-- the rows so far are walked and added
abbrev pub invariant-rows : goal.invariant-rows
invariant-rows g l = RowsKept g.R.ReencodeIndices group l.initial.rows l.initial.reencoder l.initial.types l.rows l.reencoder l.types

abbrev pub decreases-rows : goal.decreases-rows
decreases-rows g l = l.rows.left
