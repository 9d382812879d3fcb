use Rattle.std.proofs.Common.{◌∷◌, [], refl}
use Rattle.std.proofs.Math.Seq.{take-length}
use Rattle.wasm_shapes.specs.Shape.{Named, Shape, group_rows, lead, sub_rows}
use Rattle.wasm_shapes.specs.Spells.{Is}
use Rattle.wasm_shapes.proofs.Begins.{at_byte, begins_ref, none_at_end, none_here}
use Rattle.wasm_shapes.proofs.Parts.{among}
use Rattle.reencode_items.proofs.Streaming.{kept_same, led_streams, named_streams, none_streams, renamed, unasked_stops, uncounted}
use Rattle.reencode_items.proofs.TypeParts.{bare_back, sub_rows_of}
use Rattle.reencode_items.proofs.direct.types.stream_group.Goals as goal

pub returns-in_default : goal.returns-in_default
returns-in_default g c = none_streams g.R.ReencodeIndices (take-length _) (none_here c.in_default.ensures.none (none_at_end refl))

pub returns-then-first-ne78 : goal.returns-then-first-ne78
returns-then-first-ne78 g c =
    renamed g.R.ReencodeIndices (λ t l p. begins_ref (bare_back c.in-Some.ensures.some t l c.if-first-ne78.true p))
    (λ u w. record { shaped = Is.ref (among sub_rows (lead 0x4e (Shape.vec (Shape.ref Named.sub)) ∷ []) (sub_rows_of u w.shaped)); spelled = w.spelled }) _ c.stream_sub_type.ensures

pub returns-in-Ok : goal.returns-in-Ok
returns-in-Ok g c =
    let i = g.R.ReencodeIndices in
    named_streams i Named.group _
    (led_streams i group_rows 2 0x4e (Shape.vec (Shape.ref Named.sub)) refl refl (at_byte c.in-Some.ensures.some c.if-first-ne78.false) _ c.in-Ok.ensures.ok _ (uncounted i _ c.stream_vec.ensures))

pub returns-in-Err : goal.returns-in-Err
returns-in-Err g c = unasked_stops g.R.ReencodeIndices (kept_same c.args.out.now.items c.in-Err.ensures.err) refl
