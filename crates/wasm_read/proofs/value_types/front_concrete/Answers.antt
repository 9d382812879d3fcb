use Rattle.std.proofs.Common.{refl}
use Rattle.wasm_shapes.specs.Shape.{concrete_rows}
use Rattle.wasm_shapes.proofs.Begins.{begins_row, begins_seq, begins_byte, begins_ix, begins_sx, at_byte, none_here, none_at_end, none_choice, none_lead, none_seq_first, none_byte, none_ix, none_sx, none_or, none_row}
use Rattle.wasm_read.proofs.value_types.front_concrete.Goals as goal

pub returns-in_default-clause-none : goal.returns-in_default-clause-none
returns-in_default-clause-none c = none_here c.in_default.ensures.none (none_at_end refl)

pub returns-in-Some-front_index-clause-some : goal.returns-in-Some-front_index-clause-some
returns-in-Some-front_index-clause-some c = begins_row {k = 1} (begins_sx c.in-Some-front_index.ensures.some)

pub returns-in-None-clause-none : goal.returns-in-None-clause-none
returns-in-None-clause-none c =
    none_or (none_here c.in-Some.ensures.some (none_seq_first (none_byte c.if-first-ne98.true))) (none_or (none_sx c.in-None.ensures.none) none_row)

pub returns-in-Some-front_u32-clause-some : goal.returns-in-Some-front_u32-clause-some
returns-in-Some-front_u32-clause-some c =
    begins_row {k = 0} (begins_seq (begins_byte (at_byte c.in-Some.ensures.some c.if-first-ne98.false)) (begins_ix c.in-Some-front_u32.ensures.some))

pub returns-in-None-front_u32-clause-none : goal.returns-in-None-front_u32-clause-none
returns-in-None-front_u32-clause-none c =
    none_here (at_byte c.in-Some.ensures.some c.if-first-ne98.false)
    (none_choice concrete_rows 0x62 _ refl (none_lead refl (none_ix c.in-None-front_u32.ensures.none), tt))
