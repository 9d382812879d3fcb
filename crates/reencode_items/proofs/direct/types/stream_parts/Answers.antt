use Rattle.reencode_items.proofs.Streaming.{counted_second, first_err, first_of}
use Rattle.reencode_items.proofs.direct.types.stream_parts.Goals as goal

pub returns-in-Ok-Some : goal.returns-in-Ok-Some
returns-in-Ok-Some g c = counted_second g.R.ReencodeIndices _ _ (rw c.in-Ok-Some.field-0-is at c.in-Ok-Some.ensures) _ c.stream_composite.ensures

pub returns-in-Ok-None : goal.returns-in-Ok-None
returns-in-Ok-None g c = first_of g.R.ReencodeIndices (rw c.in-Ok-None.field-0-is at c.in-Ok-None.ensures)

pub returns-in-Err : goal.returns-in-Err
returns-in-Err g c = first_err g.R.ReencodeIndices _ c.in-Err.ensures
