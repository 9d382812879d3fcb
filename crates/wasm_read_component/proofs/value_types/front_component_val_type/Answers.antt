use Rattle.std.proofs.Common.{refl}
use Rattle.wasm_shapes.proofs.Begins.{at_byte, begins_ref, begins_row, begins_sx, none_at_end, none_here, none_or, none_ref, none_row, none_sx}
use Rattle.wasm_read_component.proofs.ComponentValues.{primitive_begins, primitive_none}
use Rattle.wasm_read_component.proofs.value_types.front_component_val_type.Goals as goal

pub returns-in_default-clause-none : goal.returns-in_default-clause-none
returns-in_default-clause-none c = none_here c.in_default.ensures.none (none_at_end refl)

pub returns-in-Some-primitive_of-clause-some : goal.returns-in-Some-primitive_of-clause-some
returns-in-Some-primitive_of-clause-some c =
    begins_ref (begins_row {k = 0} (primitive_begins c.in-Some-primitive_of.ty (at_byte c.in-Some.ensures.some c.in-Some-primitive_of.ensures.some)))

pub returns-in-Some-front_index-clause-some : goal.returns-in-Some-front_index-clause-some
returns-in-Some-front_index-clause-some c = begins_ref (begins_row {k = 1} (begins_sx c.in-Some-front_index.ensures.some))

pub returns-in-None-front_index-clause-none : goal.returns-in-None-front_index-clause-none
returns-in-None-front_index-clause-none c =
    none_ref (none_or (none_here c.in-Some.ensures.some (primitive_none c.in-None.ensures.none)) (none_or (none_sx c.in-None-front_index.ensures.none) none_row))
