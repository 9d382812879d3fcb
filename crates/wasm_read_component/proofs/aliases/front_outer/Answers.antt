use Rattle.std.proofs.Common.{refl}
use Rattle.wasm_shapes.proofs.Begins.{begins_seq, begins_byte, begins_ix, at_byte, none_here, none_lead, none_ix, none_seq_first, none_seq_second}
use Rattle.wasm_shapes.proofs.ComponentParts.{begins_outer, none_outer}
use Rattle.wasm_read_component.proofs.aliases.front_outer.Goals as goal

pub returns-in_default-front_u32-clause-none : goal.returns-in_default-front_u32-clause-none
returns-in_default-front_u32-clause-none c s =
    none_here (at_byte c.in-Some.ensures.some c.if-byte-ne2.false) (none_lead refl (none_outer (none_seq_first (none_ix c.in_default-front_u32.ensures.none))))

pub returns-in-Some-front_u32-2-clause-some : goal.returns-in-Some-front_u32-2-clause-some
returns-in-Some-front_u32-2-clause-some c s =
    begins_seq (begins_byte (at_byte c.in-Some.ensures.some c.if-byte-ne2.false)) (begins_outer c.in-Some-front_u32.ensures.some c.in-Some-front_u32-2.ensures.some)

pub returns-in-None-clause-none : goal.returns-in-None-clause-none
returns-in-None-clause-none c s =
    none_here (at_byte c.in-Some.ensures.some c.if-byte-ne2.false)
    (none_lead refl (none_outer (none_seq_second refl refl (begins_ix c.in-Some-front_u32.ensures.some) (none_ix c.in-None.ensures.none))))
