use Rattle.std.proofs.Common.{refl}
use Rattle.wasm_shapes.proofs.Begins.{begins_seq, begins_byte, begins_ix, at_byte, none_here, none_lead, none_ix, none_seq_first, none_seq_second}
use Rattle.wasm_read_component.proofs.aliases.front_instance_export.Goals as goal

pub returns-in_default-front_u32-clause-none : goal.returns-in_default-front_u32-clause-none
returns-in_default-front_u32-clause-none c =
    none_here (at_byte c.in-Some.ensures.some c.if-byte-ne0.false) (none_lead refl (none_seq_first (none_ix c.in_default-front_u32.ensures.none)))

pub returns-in-Some-front_name-clause-some : goal.returns-in-Some-front_name-clause-some
returns-in-Some-front_name-clause-some c =
    begins_seq (begins_byte (at_byte c.in-Some.ensures.some c.if-byte-ne0.false))
    (begins_seq (begins_ix c.in-Some-front_u32.ensures.some) c.in-Some-front_name.ensures.some)

pub returns-in-None-clause-none : goal.returns-in-None-clause-none
returns-in-None-clause-none c =
    none_here (at_byte c.in-Some.ensures.some c.if-byte-ne0.false)
    (none_lead refl (none_seq_second refl refl (begins_ix c.in-Some-front_u32.ensures.some) c.in-None.ensures.none))
