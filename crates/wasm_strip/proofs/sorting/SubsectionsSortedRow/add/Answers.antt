use Rattle.std.proofs.Common.{inl, inr, refl}
use Rattle.std.proofs.lemmas.Result.{on_ok_weaker}
use Rattle.wasm_shapes.proofs.Begins.{none_at_end, none_here}
use Rattle.wasm_read.proofs.Subsections.{frame_begins, frame_none, none_begins}
use Rattle.wasm_strip.proofs.SortedRows.{holds_map, row_begins, subsection_sorted}
use Rattle.wasm_strip.proofs.sorting.SubsectionsSortedRow.add.Goals as goal

pub unreachable-requires : goal.unreachable-requires
unreachable-requires c = row_begins c.args.row c.requires (none_here c.in_default.ensures.none (none_at_end refl))

pub unreachable-requires-in_default-front_sized : goal.unreachable-requires-in_default-front_sized
unreachable-requires-in_default-front_sized c = row_begins c.args.row c.requires (none_begins (inl (frame_none c.in-Some.ensures.is_byte c.in-Some.ensures.some c.in_default-front_sized.ensures.none)))

pub unreachable-requires-in_default-of_body : goal.unreachable-requires-in_default-of_body
unreachable-requires-in_default-of_body c =
    let none = c.in_default-of_body.ensures.none in
    let frame = frame_begins c.in-Some.ensures.is_byte c.in-Some.ensures.some c.in-Some-front_sized.ensures.some in
    row_begins c.args.row c.requires (none_begins (inr (c.in-Some-front_sized.body.now, c.in-Some-front_sized.field-0-1.now, rw (← none.0) frame, none.1)))

pub add_body-requires : goal.add_body-requires
add_body-requires c =
    holds_map _ c.requires.1 (frame_begins c.in-Some.ensures.is_byte c.in-Some.ensures.some c.in-Some-front_sized.ensures.some) c.in-Some-of_body.ensures.some

pub returns : goal.returns
returns c =
    let frame = frame_begins c.in-Some.ensures.is_byte c.in-Some.ensures.some c.in-Some-front_sized.ensures.some in
    on_ok_weaker c.add_body.result (λ added. subsection_sorted c.args.row _ _ c.requires frame c.in-Some-of_body.ensures.some c.split_at.ensures.front c.in_ok-add_text.ensures added) c.add_body.ensures
