use Rattle.std.proofs.Common.{◌≡◌, refl, false, arith}
use Rattle.std.proofs.lemmas.Bool.Decides.{nat_tests}
use Rattle.wasm_shapes.specs.declared.Space.TheVariants as space
use Rattle.wasm_shapes.specs.Component.{instance_row}
use Rattle.wasm_shapes.specs.Sound.{contains, first_bytes}
use Rattle.wasm_shapes.proofs.Begins.{at_byte, begins_byte, begins_ix, begins_row, begins_seq, none_at_end, none_by_front, none_choice, none_here, none_ix, none_lead, none_seq_first, none_seq_second}
use Rattle.wasm_read_component.proofs.rows.front_instance.Goals as goal

pub returns-in_default-clause-none : goal.returns-in_default-clause-none
returns-in_default-clause-none c = none_here c.in_default.ensures.none (none_at_end refl)

pub returns-in_default-front_u32-clause-none : goal.returns-in_default-front_u32-clause-none
returns-in_default-front_u32-clause-none c =
    none_here (at_byte c.in-Some.ensures.some c.in-0.is) (none_choice instance_row 0 _ refl (none_lead refl (none_seq_first (none_ix c.in_default-front_u32.ensures.none)), tt))

pub returns-in-Ok-Some-clause-some : goal.returns-in-Ok-Some-clause-some
returns-in-Ok-Some-clause-some c =
    begins_row {k = 0} (begins_seq (begins_byte (at_byte c.in-Some.ensures.some c.in-0.is)) (begins_seq (begins_ix c.in-Some-front_u32.ensures.some) (rw c.in-Ok-Some.field-0-is at c.in-Ok-Some.ensures.some)))

pub returns-in-Ok-None-clause-none : goal.returns-in-Ok-None-clause-none
returns-in-Ok-None-clause-none c =
    none_here (at_byte c.in-Some.ensures.some c.in-0.is)
    (none_choice instance_row 0 _ refl
    (none_lead refl (none_seq_second refl refl (begins_ix {s = space.Module} c.in-Some-front_u32.ensures.some) (rw c.in-Ok-None.field-0-is at c.in-Ok-None.ensures.none)), tt))

pub returns-in-Ok-Some-front_rows-clause-some : goal.returns-in-Ok-Some-front_rows-clause-some
returns-in-Ok-Some-front_rows-clause-some c = begins_row {k = 1} (begins_seq (begins_byte (at_byte c.in-Some.ensures.some c.in-1.is)) (rw c.in-Ok-Some-front_rows.field-0-is at c.in-Ok-Some-front_rows.ensures.some))

pub returns-in-Ok-None-front_rows-clause-none : goal.returns-in-Ok-None-front_rows-clause-none
returns-in-Ok-None-front_rows-clause-none c =
    none_here (at_byte c.in-Some.ensures.some c.in-1.is) (none_choice instance_row 1 _ refl (none_lead refl (rw c.in-Ok-None-front_rows.field-0-is at c.in-Ok-None-front_rows.ensures.none), tt))

pub returns-in_default-first-clause-none : goal.returns-in_default-first-clause-none
returns-in_default-first-clause-none c =
    let other : contains (first_bytes instance_row) c.in-Some.first ≡ false = grind (arith, nat_tests) in
    none_here c.in-Some.ensures.some (none_by_front refl other)

pub returns-in-Ok-Some-front_rows-clause-kinds : goal.returns-in-Ok-Some-front_rows-clause-kinds
returns-in-Ok-Some-front_rows-clause-kinds c =
    (_, _, at_byte c.in-Some.ensures.some c.in-1.is, rw c.in-Ok-Some-front_rows.field-0-is at c.in-Ok-Some-front_rows.ensures.beside)
