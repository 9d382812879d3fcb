use Rattle.std.proofs.Common.{◌≡◌, refl, false, arith}
use Rattle.std.proofs.lemmas.Bool.Decides.{nat_tests}
use Rattle.wasm_shapes.specs.Component.{module_declaration}
use Rattle.wasm_shapes.specs.Sound.{contains, first_bytes}
use Rattle.wasm_shapes.proofs.Begins.{at_byte, begins_byte, begins_row, begins_seq, none_at_end, none_by_front, none_choice, none_here, none_lead, none_seq_first, none_seq_second}
use Rattle.wasm_read_component.proofs.core_types.front_module_declaration.Goals as goal

pub returns-in_default-clause-none : goal.returns-in_default-clause-none
returns-in_default-clause-none c = none_here c.in_default.ensures.none (none_at_end refl)

pub returns-in_default-front_name-clause-none : goal.returns-in_default-front_name-clause-none
returns-in_default-front_name-clause-none c = none_here (at_byte c.in-Some.ensures.some c.in-0.is) (none_choice module_declaration 0 _ refl (none_lead refl (none_seq_first c.in_default-front_name.ensures.none), tt))

pub returns-in-Some-front_named_entity-clause-some : goal.returns-in-Some-front_named_entity-clause-some
returns-in-Some-front_named_entity-clause-some c = begins_row {k = 0} (begins_seq (begins_byte (at_byte c.in-Some.ensures.some c.in-0.is)) (begins_seq c.in-Some-front_name.ensures.some c.in-Some-front_named_entity.ensures.some))

pub returns-in-None-clause-none : goal.returns-in-None-clause-none
returns-in-None-clause-none c =
    none_here (at_byte c.in-Some.ensures.some c.in-0.is) (none_choice module_declaration 0 _ refl (none_lead refl (none_seq_second refl refl c.in-Some-front_name.ensures.some c.in-None.ensures.none), tt))

pub returns-in-Ok-Some-clause-some : goal.returns-in-Ok-Some-clause-some
returns-in-Ok-Some-clause-some c = begins_row {k = 1} (begins_seq (begins_byte (at_byte c.in-Some.ensures.some c.in-1.is)) (rw c.in-Ok-Some.field-0-is at c.in-Ok-Some.ensures.some))

pub returns-in-Ok-None-clause-none : goal.returns-in-Ok-None-clause-none
returns-in-Ok-None-clause-none c = none_here (at_byte c.in-Some.ensures.some c.in-1.is) (none_choice module_declaration 1 _ refl (none_lead refl (rw c.in-Ok-None.field-0-is at c.in-Ok-None.ensures.none), tt))

pub returns-in-Some-front_outer_type-clause-some : goal.returns-in-Some-front_outer_type-clause-some
returns-in-Some-front_outer_type-clause-some c = begins_row {k = 2} (begins_seq (begins_byte (at_byte c.in-Some.ensures.some c.in-2.is)) c.in-Some-front_outer_type.ensures.some)

pub returns-in-None-front_outer_type-clause-none : goal.returns-in-None-front_outer_type-clause-none
returns-in-None-front_outer_type-clause-none c = none_here (at_byte c.in-Some.ensures.some c.in-2.is) (none_choice module_declaration 2 _ refl (none_lead refl c.in-None-front_outer_type.ensures.none, tt))

pub returns-in-Some-front_named_entity-2-clause-some : goal.returns-in-Some-front_named_entity-2-clause-some
returns-in-Some-front_named_entity-2-clause-some c = begins_row {k = 3} (begins_seq (begins_byte (at_byte c.in-Some.ensures.some c.in-3.is)) c.in-Some-front_named_entity-2.ensures.some)

pub returns-in-None-front_named_entity-clause-none : goal.returns-in-None-front_named_entity-clause-none
returns-in-None-front_named_entity-clause-none c = none_here (at_byte c.in-Some.ensures.some c.in-3.is) (none_choice module_declaration 3 _ refl (none_lead refl c.in-None-front_named_entity.ensures.none, tt))

pub returns-in_default-first-clause-none : goal.returns-in_default-first-clause-none
returns-in_default-first-clause-none c =
    let other : contains (first_bytes module_declaration) c.in-Some.first ≡ false = grind (arith, nat_tests) in
    none_here c.in-Some.ensures.some (none_by_front refl other)
