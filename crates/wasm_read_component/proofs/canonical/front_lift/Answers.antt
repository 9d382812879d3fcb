use Rattle.std.proofs.Common.{refl}
use Rattle.wasm_shapes.specs.declared.Space.TheVariants as space
use Rattle.wasm_shapes.proofs.Begins.{at_byte, begins_byte, begins_ix, begins_seq, none_here, none_ix, none_lead, none_seq_first, none_seq_second}
use Rattle.wasm_shapes.proofs.Parts.{begins_swap, none_swap}
use Rattle.wasm_read_component.proofs.canonical.front_lift.Goals as goal

pub returns-in_default-front_u32-clause-none : goal.returns-in_default-front_u32-clause-none
returns-in_default-front_u32-clause-none c =
    none_here (at_byte c.in-Some.ensures.some c.if-second-ne0.false) (none_lead refl (none_seq_first (none_ix c.in_default-front_u32.ensures.none)))

pub returns-in-Some-front_u32-2-clause-some : goal.returns-in-Some-front_u32-2-clause-some
returns-in-Some-front_u32-2-clause-some c =
    begins_seq (begins_byte (at_byte c.in-Some.ensures.some c.if-second-ne0.false))
    (begins_seq (begins_ix c.in-Some-front_u32.ensures.some) (begins_swap (rw c.in-Ok-Some.field-0-is at c.in-Ok-Some.ensures.some) (begins_ix c.in-Some-front_u32-2.ensures.some)))

pub returns-in-None-clause-none : goal.returns-in-None-clause-none
returns-in-None-clause-none c =
    none_here (at_byte c.in-Some.ensures.some c.if-second-ne0.false)
    (none_lead refl (none_seq_second refl refl (begins_ix {s = space.Function} c.in-Some-front_u32.ensures.some)
    (none_swap (none_seq_second refl refl (rw c.in-Ok-Some.field-0-is at c.in-Ok-Some.ensures.some) (none_ix c.in-None.ensures.none)))))

pub returns-in-Ok-None-clause-none : goal.returns-in-Ok-None-clause-none
returns-in-Ok-None-clause-none c =
    none_here (at_byte c.in-Some.ensures.some c.if-second-ne0.false)
    (none_lead refl (none_seq_second refl refl (begins_ix {s = space.Function} c.in-Some-front_u32.ensures.some) (none_swap (none_seq_first (rw c.in-Ok-None.field-0-is at c.in-Ok-None.ensures.none)))))
