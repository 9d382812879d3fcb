use Rattle.std.proofs.Common.{ℕ, refl, subst}
use Rattle.std.proofs.Math.Seq.{take-length}
use Rattle.wasm_leb.specs.Place.{BeginsNumber}
use Rattle.wasm_shapes.proofs.Begins.{none_seq_first}
use Rattle.wasm_read.proofs.TypeRows.{final_none}
use Rattle.wasm_read.proofs.Vectors.{none_vec_count}
use Rattle.reencode_items.proofs.Streaming.{bare_final_streams, final_streams, kept_same, none_streams, unasked_stops}
use Rattle.reencode_items.proofs.direct.types.stream_final.Goals as goal

pub returns-in_default : goal.returns-in_default
returns-in_default g c = none_streams g.R.ReencodeIndices (take-length _) (final_none refl (none_seq_first (none_vec_count c.in_default.ensures.none)))

pub returns-then-count-eq0 : goal.returns-then-count-eq0
returns-then-count-eq0 g c =
    let P : ℕ → Type 0 = λ n. BeginsNumber 128 32 32 c.args.bytes.now n c.in-Some.start.now in
    bare_final_streams g.R.ReencodeIndices (subst P c.if-count-eq0.true c.in-Some.ensures.some) _ c.stream_composite.ensures

pub returns-in-Ok : goal.returns-in-Ok
returns-in-Ok g c = final_streams g.R.ReencodeIndices c.in-Some.ensures.some c.if-count-eq0.false _ c.in-Ok.ensures.ok _ c.stream_parts.ensures

pub returns-in-Err : goal.returns-in-Err
returns-in-Err g c = unasked_stops g.R.ReencodeIndices (kept_same c.args.out.now.items c.in-Err.ensures.err) refl
