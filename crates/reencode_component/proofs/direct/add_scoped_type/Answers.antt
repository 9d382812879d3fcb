use Rattle.reencode_component.proofs.types_walked.StreamedScopes.{declared_added, declared_refused, declared_too_many}
use Rattle.reencode_component.proofs.direct.add_scoped_type.Goals as goal

pub returns-in-Ok-true : goal.returns-in-Ok-true
returns-in-Ok-true g c = λ t left p. declared_added g.T.ReencodeIndices _ t left p (rw c.in-Ok-true.field-0-test at c.in-Ok-true.ensures.ok)

pub returns-in-Ok-false : goal.returns-in-Ok-false
returns-in-Ok-false g c = λ t left p. declared_too_many g.T.ReencodeIndices _ t left p (rw c.in-Ok-false.field-0-test at c.in-Ok-false.ensures.ok)

pub returns-in-Err : goal.returns-in-Err
returns-in-Err g c = λ t left p. declared_refused g.T.ReencodeIndices _ t left p c.in-Err.e c.in-Err.ensures.err c.in-Err.ensures.refused
