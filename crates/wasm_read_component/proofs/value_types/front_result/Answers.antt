use Rattle.std.proofs.Common.{◌≡◌, refl, false, arith}
use Rattle.std.proofs.lemmas.Bool.Decides.{nat_tests}
use Rattle.wasm_shapes.specs.Component.{function_result}
use Rattle.wasm_shapes.specs.Sound.{contains, first_bytes}
use Rattle.wasm_shapes.proofs.Begins.{at_byte, begins_byte, begins_row, begins_seq, none_at_end, none_by_front, none_byte, none_choice, none_here, none_lead}
use Rattle.wasm_read_component.proofs.value_types.front_result.Goals as goal

pub returns-in_default-clause-none : goal.returns-in_default-clause-none
returns-in_default-clause-none c = none_here c.in_default.ensures.none (none_at_end refl)

pub returns-in-Some-front_component_val_type-clause-some : goal.returns-in-Some-front_component_val_type-clause-some
returns-in-Some-front_component_val_type-clause-some c =
    begins_row {k = 0} (begins_seq (begins_byte (at_byte c.in-Some.ensures.some c.in-0.is)) c.in-Some-front_component_val_type.ensures.some)

pub returns-in-None-clause-none : goal.returns-in-None-clause-none
returns-in-None-clause-none c =
    none_here (at_byte c.in-Some.ensures.some c.in-0.is) (none_choice function_result 0 _ refl (none_lead refl c.in-None.ensures.none, tt))

pub returns-else-second-ne0-clause-some : goal.returns-else-second-ne0-clause-some
returns-else-second-ne0-clause-some c =
    begins_row {k = 1} (begins_seq (begins_byte (at_byte c.in-Some.ensures.some c.in-1.is)) (begins_byte (at_byte c.in-Some-front_byte.ensures.some c.if-second-ne0.false)))

pub returns-then-second-ne0-clause-none : goal.returns-then-second-ne0-clause-none
returns-then-second-ne0-clause-none c =
    none_here (at_byte c.in-Some.ensures.some c.in-1.is)
    (none_choice function_result 1 _ refl (none_lead refl (none_here c.in-Some-front_byte.ensures.some (none_byte c.if-second-ne0.true)), tt))

pub returns-in-None-front_byte-clause-none : goal.returns-in-None-front_byte-clause-none
returns-in-None-front_byte-clause-none c =
    none_here (at_byte c.in-Some.ensures.some c.in-1.is)
    (none_choice function_result 1 _ refl (none_lead refl (none_here c.in-None-front_byte.ensures.none (none_at_end refl)), tt))

pub returns-in_default-first-clause-none : goal.returns-in_default-first-clause-none
returns-in_default-first-clause-none c =
    let other : contains (first_bytes function_result) c.in-Some.first ≡ false = grind (arith, nat_tests) in
    none_here c.in-Some.ensures.some (none_by_front refl other)
