use Rattle.reencode_items.proofs.Streaming.{first_none, first_stops, second_streams, uncounted}
use Rattle.reencode_items.proofs.direct.types.stream_func_type.Goals as goal

pub returns-in-Ok-Some : goal.returns-in-Ok-Some
returns-in-Ok-Some g c =
    let i = g.R.ReencodeIndices in
    second_streams i _ _ (uncounted i _ (rw c.in-Ok-Some.field-0-is at c.in-Ok-Some.ensures)) _ (uncounted i _ c.stream_vec-in-Ok-Some.ensures)

pub returns-in-Ok-None : goal.returns-in-Ok-None
returns-in-Ok-None g c = let i = g.R.ReencodeIndices in first_none i (uncounted i _ (rw c.in-Ok-None.field-0-is at c.in-Ok-None.ensures))

pub returns-in-Err : goal.returns-in-Err
returns-in-Err g c = let i = g.R.ReencodeIndices in first_stops i _ (uncounted i _ c.in-Err.ensures)
