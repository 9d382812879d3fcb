use Rattle.std.proofs.Common.{◌≡◌, refl, false, arith}
use Rattle.std.proofs.lemmas.Bool.Decides.{nat_tests}
use Rattle.wasm_shapes.specs.Component.{canonical_option}
use Rattle.wasm_shapes.specs.Sound.{contains, first_bytes}
use Rattle.wasm_shapes.proofs.Begins.{at_byte, begins_byte, begins_ix, begins_row, begins_seq, none_at_end, none_by_front, none_choice, none_here, none_ix, none_lead}
use Rattle.wasm_read_component.proofs.canonical.front_canonical_option.Goals as goal

pub returns-in_default-clause-none : goal.returns-in_default-clause-none
returns-in_default-clause-none c = none_here c.in_default.ensures.none (none_at_end refl)

pub returns-in-0-clause-some : goal.returns-in-0-clause-some
returns-in-0-clause-some c = begins_row {k = 0} (begins_byte (at_byte c.in-Some.ensures.some c.in-0.is))

pub returns-in-1-clause-some : goal.returns-in-1-clause-some
returns-in-1-clause-some c = begins_row {k = 1} (begins_byte (at_byte c.in-Some.ensures.some c.in-1.is))

pub returns-in-2-clause-some : goal.returns-in-2-clause-some
returns-in-2-clause-some c = begins_row {k = 2} (begins_byte (at_byte c.in-Some.ensures.some c.in-2.is))

pub returns-in-6-clause-some : goal.returns-in-6-clause-some
returns-in-6-clause-some c = begins_row {k = 6} (begins_byte (at_byte c.in-Some.ensures.some c.in-6.is))

pub returns-in-9-clause-some : goal.returns-in-9-clause-some
returns-in-9-clause-some c = begins_row {k = 9} (begins_byte (at_byte c.in-Some.ensures.some c.in-9.is))

pub returns-in-Some-front_u32-clause-some : goal.returns-in-Some-front_u32-clause-some
returns-in-Some-front_u32-clause-some c = begins_row {k = 3} (begins_seq (begins_byte (at_byte c.in-Some.ensures.some c.in-3.is)) (begins_ix c.in-Some-front_u32.ensures.some))

pub returns-in-None-clause-none : goal.returns-in-None-clause-none
returns-in-None-clause-none c =
    none_here (at_byte c.in-Some.ensures.some c.in-3.is) (none_choice canonical_option 3 _ refl (none_lead refl (none_ix c.in-None.ensures.none), tt))

pub returns-in-Some-front_u32-2-clause-some : goal.returns-in-Some-front_u32-2-clause-some
returns-in-Some-front_u32-2-clause-some c = begins_row {k = 4} (begins_seq (begins_byte (at_byte c.in-Some.ensures.some c.in-4.is)) (begins_ix c.in-Some-front_u32-2.ensures.some))

pub returns-in-None-front_u32-clause-none : goal.returns-in-None-front_u32-clause-none
returns-in-None-front_u32-clause-none c =
    none_here (at_byte c.in-Some.ensures.some c.in-4.is) (none_choice canonical_option 4 _ refl (none_lead refl (none_ix c.in-None-front_u32.ensures.none), tt))

pub returns-in-Some-front_u32-3-clause-some : goal.returns-in-Some-front_u32-3-clause-some
returns-in-Some-front_u32-3-clause-some c = begins_row {k = 5} (begins_seq (begins_byte (at_byte c.in-Some.ensures.some c.in-5.is)) (begins_ix c.in-Some-front_u32-3.ensures.some))

pub returns-in-None-front_u32-2-clause-none : goal.returns-in-None-front_u32-2-clause-none
returns-in-None-front_u32-2-clause-none c =
    none_here (at_byte c.in-Some.ensures.some c.in-5.is) (none_choice canonical_option 5 _ refl (none_lead refl (none_ix c.in-None-front_u32-2.ensures.none), tt))

pub returns-in-Some-front_u32-4-clause-some : goal.returns-in-Some-front_u32-4-clause-some
returns-in-Some-front_u32-4-clause-some c = begins_row {k = 7} (begins_seq (begins_byte (at_byte c.in-Some.ensures.some c.in-7.is)) (begins_ix c.in-Some-front_u32-4.ensures.some))

pub returns-in-None-front_u32-3-clause-none : goal.returns-in-None-front_u32-3-clause-none
returns-in-None-front_u32-3-clause-none c =
    none_here (at_byte c.in-Some.ensures.some c.in-7.is) (none_choice canonical_option 7 _ refl (none_lead refl (none_ix c.in-None-front_u32-3.ensures.none), tt))

pub returns-in-Some-front_u32-5-clause-some : goal.returns-in-Some-front_u32-5-clause-some
returns-in-Some-front_u32-5-clause-some c = begins_row {k = 8} (begins_seq (begins_byte (at_byte c.in-Some.ensures.some c.in-8.is)) (begins_ix c.in-Some-front_u32-5.ensures.some))

pub returns-in-None-front_u32-4-clause-none : goal.returns-in-None-front_u32-4-clause-none
returns-in-None-front_u32-4-clause-none c =
    none_here (at_byte c.in-Some.ensures.some c.in-8.is) (none_choice canonical_option 8 _ refl (none_lead refl (none_ix c.in-None-front_u32-4.ensures.none), tt))

pub returns-in_default-first-clause-none : goal.returns-in_default-first-clause-none
returns-in_default-first-clause-none c =
    let other : contains (first_bytes canonical_option) c.in-Some.first ≡ false = grind (arith, nat_tests) in
    none_here c.in-Some.ensures.some (none_by_front refl other)
