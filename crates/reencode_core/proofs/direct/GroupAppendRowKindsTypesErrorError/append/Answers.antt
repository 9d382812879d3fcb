use Rattle.reencode_core.proofs.rows_walked.TypeRow.{group_absent}
use Rattle.reencode_core.proofs.direct.GroupAppendRowKindsTypesErrorError.append.Goals as goal

pub returns-in-Ok-None-clause-refused : goal.returns-in-Ok-None-clause-refused
returns-in-Ok-None-clause-refused g c = group_absent g.R.ReencodeIndices _ (rw c.in-Ok-None.field-0-is at c.in-Ok-None.ensures)
