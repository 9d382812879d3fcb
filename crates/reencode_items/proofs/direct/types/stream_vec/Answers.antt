use Rattle.std.proofs.Common.{refl}
use Rattle.std.proofs.Math.Seq.{take-length}
use Rattle.wasm_read.proofs.Vectors.{none_vec_count}
use Rattle.reencode_items.proofs.Streaming.{kept_same, none_streams, unasked_stops, vec_streams}
use Rattle.reencode_items.proofs.direct.types.stream_vec.Goals as goal

pub returns-in_default : goal.returns-in_default
returns-in_default g c = none_streams g.R.ReencodeIndices (take-length _) (none_vec_count c.in_default.ensures.none)

pub returns-in-Ok : goal.returns-in-Ok
returns-in-Ok g c = let small = c.in-Some.ensures.some.1.fits in vec_streams g.R.ReencodeIndices _ small c.in-Some.ensures.some c.in-Ok.ensures.ok _ c.stream_items.ensures

pub returns-in-Err : goal.returns-in-Err
returns-in-Err g c = unasked_stops g.R.ReencodeIndices (kept_same c.args.out.now.items c.in-Err.ensures.err) refl
