use Rattle.std.proofs.Common.{◌≡◌, arith, refl, false}
use Rattle.std.proofs.lemmas.Bool.Decides.{nat_tests}
use Rattle.wasm_shapes.specs.Shape.{choice, inner_rows}
use Rattle.wasm_shapes.specs.Sound.{contains, first_bytes}
use Rattle.wasm_shapes.proofs.Begins.{begins_row, begins_seq, begins_byte, begins_sx, at_byte, none_here, none_at_end, none_choice, none_lead, none_sx, none_by_front}
use Rattle.wasm_read.proofs.groups.front_inner.Goals as goal

pub returns-in_default-clause-none : goal.returns-in_default-clause-none
returns-in_default-clause-none c = none_here c.in_default.ensures.none (none_at_end refl)

pub returns-in-Ok-Some-clause-some : goal.returns-in-Ok-Some-clause-some
returns-in-Ok-Some-clause-some c =
    let some = rw c.in-Ok-Some.field-0-is at c.in-Ok-Some.ensures.some in
    begins_row {k = 0} (begins_seq (begins_byte (at_byte c.in-Some.ensures.some c.in-96.is)) some)

pub returns-in-Ok-None-clause-none : goal.returns-in-Ok-None-clause-none
returns-in-Ok-None-clause-none c =
    let none = rw c.in-Ok-None.field-0-is at c.in-Ok-None.ensures.none in
    none_here (at_byte c.in-Some.ensures.some c.in-96.is) (none_choice (choice inner_rows) 0x60 _ refl (none_lead refl none, tt))

pub returns-in-Some-front_field_type-clause-some : goal.returns-in-Some-front_field_type-clause-some
returns-in-Some-front_field_type-clause-some c =
    begins_row {k = 1} (begins_seq (begins_byte (at_byte c.in-Some.ensures.some c.in-94.is)) c.in-Some-front_field_type.ensures.some)

pub returns-in-None-clause-none : goal.returns-in-None-clause-none
returns-in-None-clause-none c =
    none_here (at_byte c.in-Some.ensures.some c.in-94.is) (none_choice (choice inner_rows) 0x5e _ refl (none_lead refl c.in-None.ensures.none, tt))

pub returns-in-Ok-Some-front_vec-clause-some : goal.returns-in-Ok-Some-front_vec-clause-some
returns-in-Ok-Some-front_vec-clause-some c =
    let some = rw c.in-Ok-Some-front_vec.field-0-is at c.in-Ok-Some-front_vec.ensures.some in
    begins_row {k = 2} (begins_seq (begins_byte (at_byte c.in-Some.ensures.some c.in-95.is)) some)

pub returns-in-Ok-None-front_vec-clause-none : goal.returns-in-Ok-None-front_vec-clause-none
returns-in-Ok-None-front_vec-clause-none c =
    let none = rw c.in-Ok-None-front_vec.field-0-is at c.in-Ok-None-front_vec.ensures.none in
    none_here (at_byte c.in-Some.ensures.some c.in-95.is) (none_choice (choice inner_rows) 0x5f _ refl (none_lead refl none, tt))

pub returns-in-Some-front_index-clause-some : goal.returns-in-Some-front_index-clause-some
returns-in-Some-front_index-clause-some c =
    begins_row {k = 3} (begins_seq (begins_byte (at_byte c.in-Some.ensures.some c.in-93.is)) (begins_sx c.in-Some-front_index.ensures.some))

pub returns-in-None-front_index-clause-none : goal.returns-in-None-front_index-clause-none
returns-in-None-front_index-clause-none c =
    none_here (at_byte c.in-Some.ensures.some c.in-93.is)
    (none_choice (choice inner_rows) 0x5d _ refl (none_lead refl (none_sx c.in-None-front_index.ensures.none), tt))

pub returns-in_default-first-clause-none : goal.returns-in_default-first-clause-none
returns-in_default-first-clause-none c =
    let other : contains (first_bytes (choice inner_rows)) c.in-Some.first ≡ false = grind (arith, nat_tests) in
    none_here c.in-Some.ensures.some (none_by_front refl other)
