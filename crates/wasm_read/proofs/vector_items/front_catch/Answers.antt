use Rattle.std.proofs.Common.{◌≡◌, arith, refl, false}
use Rattle.std.proofs.lemmas.Bool.Decides.{nat_tests}
use Rattle.wasm_shapes.specs.Sound.{contains, first_bytes}
use Rattle.wasm_shapes.proofs.Begins.{begins_row, begins_seq, begins_byte, begins_u32, at_byte, none_here, none_at_end, none_choice, none_lead, none_u32, none_by_front}
use Rattle.wasm_shapes.specs.Types.{catch_row}
use Rattle.wasm_read.proofs.vector_items.front_catch.Goals as goal

pub returns-in_default-clause-none : goal.returns-in_default-clause-none
returns-in_default-clause-none c = none_here c.in_default.ensures.none (none_at_end refl)

pub returns-in-Some-front_tag_and_label-clause-some : goal.returns-in-Some-front_tag_and_label-clause-some
returns-in-Some-front_tag_and_label-clause-some c =
    begins_row (begins_seq (begins_byte (at_byte c.in-Some.ensures.some c.in-0.is)) c.in-Some-front_tag_and_label.ensures.some)

pub returns-in-None-clause-none : goal.returns-in-None-clause-none
returns-in-None-clause-none c =
    none_here (at_byte c.in-Some.ensures.some c.in-0.is) (none_choice catch_row 0 _ refl (none_lead refl c.in-None.ensures.none, tt))

pub returns-in-Some-front_tag_and_label-2-clause-some : goal.returns-in-Some-front_tag_and_label-2-clause-some
returns-in-Some-front_tag_and_label-2-clause-some c =
    begins_row (begins_seq (begins_byte (at_byte c.in-Some.ensures.some c.in-1.is)) c.in-Some-front_tag_and_label-2.ensures.some)

pub returns-in-None-front_tag_and_label-clause-none : goal.returns-in-None-front_tag_and_label-clause-none
returns-in-None-front_tag_and_label-clause-none c =
    none_here (at_byte c.in-Some.ensures.some c.in-1.is) (none_choice catch_row 1 _ refl (none_lead refl c.in-None-front_tag_and_label.ensures.none, tt))

pub returns-in-Some-front_u32-clause-some : goal.returns-in-Some-front_u32-clause-some
returns-in-Some-front_u32-clause-some c =
    begins_row (begins_seq (begins_byte (at_byte c.in-Some.ensures.some c.in-2.is)) (begins_u32 c.in-Some-front_u32.ensures.some))

pub returns-in-None-front_u32-clause-none : goal.returns-in-None-front_u32-clause-none
returns-in-None-front_u32-clause-none c =
    none_here (at_byte c.in-Some.ensures.some c.in-2.is) (none_choice catch_row 2 _ refl (none_lead refl (none_u32 c.in-None-front_u32.ensures.none), tt))

pub returns-in-Some-front_u32-2-clause-some : goal.returns-in-Some-front_u32-2-clause-some
returns-in-Some-front_u32-2-clause-some c =
    begins_row (begins_seq (begins_byte (at_byte c.in-Some.ensures.some c.in-3.is)) (begins_u32 c.in-Some-front_u32-2.ensures.some))

pub returns-in-None-front_u32-2-clause-none : goal.returns-in-None-front_u32-2-clause-none
returns-in-None-front_u32-2-clause-none c =
    none_here (at_byte c.in-Some.ensures.some c.in-3.is) (none_choice catch_row 3 _ refl (none_lead refl (none_u32 c.in-None-front_u32-2.ensures.none), tt))

pub returns-in_default-first-clause-none : goal.returns-in_default-first-clause-none
returns-in_default-first-clause-none c =
    let other : contains (first_bytes catch_row) c.in-Some.first ≡ false = grind (arith, nat_tests) in
    none_here c.in-Some.ensures.some (none_by_front refl other)
