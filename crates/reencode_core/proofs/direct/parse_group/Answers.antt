use Rattle.reencode_core.proofs.rows_walked.TypeRow.{row_added, row_refused, row_too_many}
use Rattle.reencode_core.proofs.direct.parse_group.Goals as goal

pub returns-in-Ok-true : goal.returns-in-Ok-true
returns-in-Ok-true g c = λ t left p. row_added g.R.ReencodeIndices t left p (rw c.in-Ok-true.field-0-test at c.in-Ok-true.ensures.ok)

pub returns-in-Ok-false : goal.returns-in-Ok-false
returns-in-Ok-false g c = λ t left p. row_too_many g.R.ReencodeIndices t left p (rw c.in-Ok-false.field-0-test at c.in-Ok-false.ensures.ok)

pub returns-in-Err : goal.returns-in-Err
returns-in-Err g c = λ t left p. row_refused g.R.ReencodeIndices t left p c.in-Err.e c.in-Err.ensures.err c.in-Err.ensures.refused
