use Rattle.std.proofs.Common.{◌∷◌, [], refl}
use Rattle.std.proofs.Math.Seq.{take-length}
use Rattle.wasm_shapes.specs.Shape.{Named, choice, composite_rows, describing_rows, lead}
use Rattle.wasm_shapes.specs.Spells.{Is}
use Rattle.wasm_shapes.proofs.Begins.{at_byte, none_at_end, none_here}
use Rattle.wasm_shapes.proofs.Parts.{among}
use Rattle.reencode_items.proofs.Streaming.{kept_same, led_streams, named_streams, none_streams, renamed, unasked_stops}
use Rattle.reencode_items.proofs.TypeParts.{unshared_back}
use Rattle.reencode_items.proofs.direct.types.stream_composite.Goals as goal

pub returns-in_default : goal.returns-in_default
returns-in_default g c = none_streams g.R.ReencodeIndices (take-length _) (none_here c.in_default.ensures.none (none_at_end refl))

pub returns-then-first-ne101 : goal.returns-then-first-ne101
returns-then-first-ne101 g c =
    renamed g.R.ReencodeIndices (λ t l p. unshared_back c.in-Some.ensures.some t l c.if-first-ne101.true p)
    (λ u w. record { shaped = Is.ref (among describing_rows (lead 0x65 (choice describing_rows) ∷ []) w.shaped); spelled = w.spelled }) _ c.stream_describing.ensures

pub returns-in-Ok : goal.returns-in-Ok
returns-in-Ok g c =
    let i = g.R.ReencodeIndices in
    named_streams i Named.composite _
    (led_streams i composite_rows 6 0x65 (choice describing_rows) refl refl (at_byte c.in-Some.ensures.some c.if-first-ne101.false) _ c.in-Ok.ensures.ok _ c.stream_describing-in-Ok.ensures)

pub returns-in-Err : goal.returns-in-Err
returns-in-Err g c = unasked_stops g.R.ReencodeIndices (kept_same c.args.out.now.items c.in-Err.ensures.err) refl
