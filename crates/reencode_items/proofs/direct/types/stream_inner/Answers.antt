use Rattle.std.proofs.Common.{◌≡◌, arith, false, refl}
use Rattle.std.proofs.lemmas.Bool.Decides.{nat_tests}
use Rattle.std.proofs.Math.Seq.{take-length}
use Rattle.wasm_shapes.specs.declared.Space.TheVariants as space
use Rattle.wasm_shapes.specs.Shape.{Shape, choice, field, inner_rows, values}
use Rattle.wasm_shapes.specs.Sound.{contains, first_bytes}
use Rattle.wasm_shapes.proofs.Begins.{at_byte, none_at_end, none_by_front, none_here}
use Rattle.reencode_items.proofs.Streaming.{byte_grown, grown_front, kept_same, led_streams, none_streams, unasked_stops, uncounted}
use Rattle.reencode_items.proofs.direct.types.stream_inner.Goals as goal

pub returns-in_default : goal.returns-in_default
returns-in_default g c = none_streams g.R.ReencodeIndices (take-length _) (none_here c.in_default.ensures.none (none_at_end refl))

pub returns-in-96 : goal.returns-in-96
returns-in-96 g c =
    led_streams g.R.ReencodeIndices inner_rows 0 0x60 (Shape.seq values values) refl refl (at_byte c.in-Some.ensures.some c.in-96.is) _ (byte_grown _ c.in-Ok.ensures.ok c.in-96.is) _ c.stream_func_type.ensures

pub returns-in-94 : goal.returns-in-94
returns-in-94 g c =
    led_streams g.R.ReencodeIndices inner_rows 1 0x5e field refl refl (at_byte c.in-Some.ensures.some c.in-94.is) _ (byte_grown _ c.in-Ok.ensures.ok c.in-94.is) _ c.stream_field.ensures

pub returns-in-95 : goal.returns-in-95
returns-in-95 g c =
    let i = g.R.ReencodeIndices in
    led_streams i inner_rows 2 0x5f (Shape.vec field) refl refl (at_byte c.in-Some.ensures.some c.in-95.is) _ (byte_grown _ c.in-Ok.ensures.ok c.in-95.is) _ (uncounted i _ c.stream_vec.ensures)

pub returns-in-93 : goal.returns-in-93
returns-in-93 g c =
    led_streams g.R.ReencodeIndices inner_rows 3 0x5d (Shape.sx space.Type_) refl refl (at_byte c.in-Some.ensures.some c.in-93.is) _ (byte_grown _ c.in-Ok.ensures.ok c.in-93.is) _ c.stream_cont.ensures

pub returns-in_default-first : goal.returns-in_default-first
returns-in_default-first g c =
    let other : contains (first_bytes (choice inner_rows)) c.in-Some.first ≡ false = grind (arith, nat_tests) in
    none_streams g.R.ReencodeIndices (grown_front _ _ _ c.in-Ok.ensures.ok (take-length _)) (none_here c.in-Some.ensures.some (none_by_front refl other))

pub returns-in-Err : goal.returns-in-Err
returns-in-Err g c = unasked_stops g.R.ReencodeIndices (kept_same c.args.out.now.items c.in-Err.ensures.err) refl
