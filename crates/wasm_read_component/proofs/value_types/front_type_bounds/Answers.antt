use Rattle.std.proofs.Common.{◌≡◌, refl, false, arith}
use Rattle.std.proofs.lemmas.Bool.Decides.{nat_tests}
use Rattle.wasm_shapes.specs.Component.{type_bounds}
use Rattle.wasm_shapes.specs.Sound.{contains, first_bytes}
use Rattle.wasm_shapes.proofs.Begins.{at_byte, begins_byte, begins_ix, begins_row, begins_seq, none_at_end, none_by_front, none_choice, none_here, none_ix, none_lead}
use Rattle.wasm_read_component.proofs.value_types.front_type_bounds.Goals as goal

pub returns-in_default-clause-none : goal.returns-in_default-clause-none
returns-in_default-clause-none c = none_here c.in_default.ensures.none (none_at_end refl)

pub returns-in-Some-front_u32-clause-some : goal.returns-in-Some-front_u32-clause-some
returns-in-Some-front_u32-clause-some c =
    begins_row {k = 0} (begins_seq (begins_byte (at_byte c.in-Some.ensures.some c.in-0.is)) (begins_ix c.in-Some-front_u32.ensures.some))

pub returns-in-None-clause-none : goal.returns-in-None-clause-none
returns-in-None-clause-none c =
    none_here (at_byte c.in-Some.ensures.some c.in-0.is) (none_choice type_bounds 0 _ refl (none_lead refl (none_ix c.in-None.ensures.none), tt))

pub returns-in-1-clause-some : goal.returns-in-1-clause-some
returns-in-1-clause-some c = begins_row {k = 1} (begins_byte (at_byte c.in-Some.ensures.some c.in-1.is))

pub returns-in_default-first-clause-none : goal.returns-in_default-first-clause-none
returns-in_default-first-clause-none c =
    let other : contains (first_bytes type_bounds) c.in-Some.first ≡ false = grind (arith, nat_tests) in
    none_here c.in-Some.ensures.some (none_by_front refl other)
