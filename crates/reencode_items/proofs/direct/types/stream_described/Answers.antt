use Rattle.std.proofs.Common.{◌∷◌, [], ◌∙◌, arith, refl}
use Rattle.std.proofs.Math.Seq.{take-length}
use Rattle.wasm_shapes.specs.declared.Space.TheVariants as space
use Rattle.wasm_shapes.specs.Shape.{Shape, choice, inner_rows, described_rows, lead}
use Rattle.wasm_shapes.proofs.Begins.{at_byte, none_at_end, none_here}
use Rattle.wasm_read.proofs.TypeRows.{described_no_index}
use Rattle.reencode_items.proofs.Streaming.{among_streams, behind_front, mark_stops, marked_none, marked_stops, marked_streams, none_streams}
use Rattle.reencode_items.proofs.TypeParts.{undescribed_back}
use Rattle.reencode_items.proofs.direct.types.stream_described.Goals as goal

pub returns-in_default : goal.returns-in_default
returns-in_default g c = none_streams g.R.ReencodeIndices (take-length _) (none_here c.in_default.ensures.none (none_at_end refl))

pub returns-then-first-ne77 : goal.returns-then-first-ne77
returns-then-first-ne77 g c =
    among_streams g.R.ReencodeIndices inner_rows (Shape.swap (lead 0x4d (Shape.ix space.Type_)) (choice inner_rows) ∷ [])
    (λ t l p. undescribed_back c.in-Some.ensures.some t l c.if-first-ne77.true p) _ c.stream_inner.ensures

pub returns-in_default-front_u32 : goal.returns-in_default-front_u32
returns-in_default-front_u32 g c =
    none_streams g.R.ReencodeIndices (take-length _) (described_no_index (at_byte c.in-Some.ensures.some c.if-first-ne77.false) c.in_default-front_u32.ensures.none)

pub mark-requires : goal.mark-requires
mark-requires g c =
    let there = at_byte c.in-Some.ensures.some c.if-first-ne77.false in
    let front = behind_front g.R.ReencodeIndices described_rows 4 0x4d _ (choice inner_rows) refl refl there c.in-Some-front_u32.ensures.some _ _ (rw c.in-Ok-Some.field-0-is at c.in-Ok-Some.ensures) in
    omega (arith, front, c.len-at.ensures, c.args.out.now.ok.0, c.stream_inner-2.new.out.ok.0)

pub returns-in-Ok : goal.returns-in-Ok
returns-in-Ok g c =
    let there = at_byte c.in-Some.ensures.some c.if-first-ne77.false in
    marked_streams g.R.ReencodeIndices described_rows 4 0x4d _ (choice inner_rows) refl refl there c.in-Some-front_u32.ensures.some _ _ (rw c.in-Ok-Some.field-0-is at c.in-Ok-Some.ensures) (c.len-at.ensures ∙ c.args.out.now.ok.0) c.in-Ok.ensures

pub returns-in-Err-mark : goal.returns-in-Err-mark
returns-in-Err-mark g c =
    let there = at_byte c.in-Some.ensures.some c.if-first-ne77.false in
    mark_stops g.R.ReencodeIndices described_rows 4 0x4d _ (choice inner_rows) refl refl there c.in-Some-front_u32.ensures.some _ _ (rw c.in-Ok-Some.field-0-is at c.in-Ok-Some.ensures) _ (c.len-at.ensures ∙ c.args.out.now.ok.0) c.in-Err-mark.ensures

pub returns-in-Ok-None : goal.returns-in-Ok-None
returns-in-Ok-None g c =
    let there = at_byte c.in-Some.ensures.some c.if-first-ne77.false in
    marked_none g.R.ReencodeIndices described_rows 4 0x4d _ (choice inner_rows) refl refl there c.in-Some-front_u32.ensures.some (rw c.in-Ok-None.field-0-is at c.in-Ok-None.ensures)

pub returns-in-Err : goal.returns-in-Err
returns-in-Err g c =
    let there = at_byte c.in-Some.ensures.some c.if-first-ne77.false in
    marked_stops g.R.ReencodeIndices described_rows 4 0x4d _ (choice inner_rows) refl refl there c.in-Some-front_u32.ensures.some _ c.in-Err.ensures
