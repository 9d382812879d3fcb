use Rattle.std.proofs.Common.{◌≢◌, arith, refl}
use Rattle.std.proofs.Math.Seq.{take-length}
use Rattle.wasm_shapes.specs.Shape.{Named, sub_rows}
use Rattle.wasm_shapes.proofs.Begins.{at_byte, none_at_end, none_here}
use Rattle.reencode_items.proofs.Streaming.{alone_streams, kept_same, led_streams, named_streams, none_streams, unasked_stops, uncounted}
use Rattle.reencode_items.proofs.TypeParts.{parts}
use Rattle.reencode_items.proofs.direct.types.stream_sub_type.Goals as goal

pub returns-in_default : goal.returns-in_default
returns-in_default g c = none_streams g.R.ReencodeIndices (take-length _) (none_here c.in_default.ensures.none (none_at_end refl))

pub returns-in-Ok : goal.returns-in-Ok
returns-in-Ok g c =
    let i = g.R.ReencodeIndices in
    named_streams i Named.sub _
    (led_streams i sub_rows 1 0x50 parts refl refl (at_byte c.in-Some.ensures.some c.in-80.is) _ c.in-Ok.ensures.ok _ (uncounted i _ c.stream_parts.ensures))

pub returns-in-Err : goal.returns-in-Err
returns-in-Err g c = unasked_stops g.R.ReencodeIndices (kept_same c.args.out.now.items c.in-Err.ensures.err) refl

pub returns-in-79 : goal.returns-in-79
returns-in-79 g c =
    let here = at_byte c.in-Some.ensures.some c.in-79.is in
    rw here c.stream_final.ensures

pub returns-in_default-first : goal.returns-in_default-first
returns-in_default-first g c =
    let other : c.in-Some.first ≢ 0x4f = omega arith in
    let another : c.in-Some.first ≢ 0x50 = omega arith in
    alone_streams g.R.ReencodeIndices c.in-Some.ensures.some other another _ c.stream_composite.ensures
