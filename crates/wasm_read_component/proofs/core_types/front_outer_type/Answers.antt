use Rattle.std.proofs.Common.{refl}
use Rattle.wasm_shapes.specs.declared.Space.TheVariants as space
use Rattle.wasm_shapes.proofs.Begins.{at_byte, begins_byte, begins_ix, begins_seq, none_at_end, none_byte, none_here, none_ix, none_lead, none_seq_first, none_seq_second}
use Rattle.wasm_shapes.proofs.ComponentParts.{begins_outer, none_outer}
use Rattle.wasm_read_component.proofs.core_types.front_outer_type.Goals as goal

pub returns-in_default-clause-none : goal.returns-in_default-clause-none
returns-in_default-clause-none c = none_here c.in_default.ensures.none (none_at_end refl)

pub returns-then-sort-ne16-clause-none : goal.returns-then-sort-ne16-clause-none
returns-then-sort-ne16-clause-none c = none_here c.in-Some.ensures.some (none_seq_first (none_byte c.if-sort-ne16.true))

pub returns-in_default-front_byte-clause-none : goal.returns-in_default-front_byte-clause-none
returns-in_default-front_byte-clause-none c =
    none_here (at_byte c.in-Some.ensures.some c.if-sort-ne16.false) (none_lead refl (none_here c.in_default-front_byte.ensures.none (none_at_end refl)))

pub returns-then-target-ne1-clause-none : goal.returns-then-target-ne1-clause-none
returns-then-target-ne1-clause-none c =
    none_here (at_byte c.in-Some.ensures.some c.if-sort-ne16.false)
    (none_lead refl (none_here c.in-Some-front_byte.ensures.some (none_seq_first (none_byte c.if-target-ne1.true))))

pub returns-in_default-front_u32-clause-none : goal.returns-in_default-front_u32-clause-none
returns-in_default-front_u32-clause-none c =
    none_here (at_byte c.in-Some.ensures.some c.if-sort-ne16.false)
    (none_lead refl (none_here (at_byte c.in-Some-front_byte.ensures.some c.if-target-ne1.false) (none_lead refl (none_outer (none_seq_first (none_ix c.in_default-front_u32.ensures.none))))))

pub returns-in-Some-front_u32-2-clause-some : goal.returns-in-Some-front_u32-2-clause-some
returns-in-Some-front_u32-2-clause-some c =
    begins_seq (begins_byte (at_byte c.in-Some.ensures.some c.if-sort-ne16.false))
    (begins_seq (begins_byte (at_byte c.in-Some-front_byte.ensures.some c.if-target-ne1.false)) (begins_outer c.in-Some-front_u32.ensures.some c.in-Some-front_u32-2.ensures.some))

pub returns-in-None-clause-none : goal.returns-in-None-clause-none
returns-in-None-clause-none c =
    none_here (at_byte c.in-Some.ensures.some c.if-sort-ne16.false)
    (none_lead refl (none_here (at_byte c.in-Some-front_byte.ensures.some c.if-target-ne1.false)
    (none_lead refl (none_outer (none_seq_second refl refl (begins_ix {s = space.Type_} c.in-Some-front_u32.ensures.some) (none_ix c.in-None.ensures.none))))))
