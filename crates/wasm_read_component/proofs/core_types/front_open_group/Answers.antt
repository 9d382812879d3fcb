use Rattle.std.proofs.Common.{refl}
use Rattle.wasm_shapes.proofs.Begins.{at_byte, none_at_end, none_byte, none_here, none_seq_first}
use Rattle.wasm_read_component.proofs.CoreTypeRows.{none_open, open_of_group}
use Rattle.wasm_read_component.proofs.core_types.front_open_group.Goals as goal

pub returns-in_default-clause-none : goal.returns-in_default-clause-none
returns-in_default-clause-none c = none_here c.in_default.ensures.none (none_at_end refl)

pub returns-then-first-ne80-clause-none : goal.returns-then-first-ne80-clause-none
returns-then-first-ne80-clause-none c = none_here c.in-Some.ensures.some (none_seq_first (none_byte c.if-first-ne80.true))

pub returns-in-Ok-Some-clause-some : goal.returns-in-Ok-Some-clause-some
returns-in-Ok-Some-clause-some c = open_of_group (at_byte c.in-Some.ensures.some c.if-first-ne80.false) (rw c.in-Ok-Some.field-0-is at c.in-Ok-Some.ensures.some)

pub returns-in-Ok-None-clause-none : goal.returns-in-Ok-None-clause-none
returns-in-Ok-None-clause-none c = none_open (rw c.in-Ok-None.field-0-is at c.in-Ok-None.ensures.none)
