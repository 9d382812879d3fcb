use Rattle.std.proofs.Common.{refl}
use Rattle.wasm_shapes.proofs.Begins.{at_byte, begins_byte, begins_ix, begins_seq, none_at_end, none_byte, none_here, none_ix, none_lead, none_seq_first, none_seq_second}
use Rattle.wasm_read_component.proofs.rows.front_instantiation_arg.Goals as goal

pub returns-in_default-front_byte-clause-none : goal.returns-in_default-front_byte-clause-none
returns-in_default-front_byte-clause-none c = none_seq_second refl refl c.in-Some.ensures.some (none_here c.in_default-front_byte.ensures.none (none_at_end refl))

pub returns-then-sort-ne18-clause-none : goal.returns-then-sort-ne18-clause-none
returns-then-sort-ne18-clause-none c =
    none_seq_second refl refl c.in-Some.ensures.some (none_here c.in-Some-front_byte.ensures.some (none_seq_first (none_byte c.if-sort-ne18.true)))

pub returns-in-Some-front_u32-clause-some : goal.returns-in-Some-front_u32-clause-some
returns-in-Some-front_u32-clause-some c = begins_seq c.in-Some.ensures.some (begins_seq (begins_byte (at_byte c.in-Some-front_byte.ensures.some c.if-sort-ne18.false)) (begins_ix c.in-Some-front_u32.ensures.some))

pub returns-in-None-clause-none : goal.returns-in-None-clause-none
returns-in-None-clause-none c = none_seq_second refl refl c.in-Some.ensures.some (none_here (at_byte c.in-Some-front_byte.ensures.some c.if-sort-ne18.false) (none_lead refl (none_ix c.in-None.ensures.none)))
