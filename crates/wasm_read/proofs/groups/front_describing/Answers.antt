use Rattle.std.proofs.Common.{refl}
use Rattle.wasm_shapes.proofs.Begins.{at_byte, none_here, none_at_end}
use Rattle.wasm_read.proofs.TypeRows.{undescribing_begins, undescribing_none, describing_begins, describing_no_index, describing_none}
use Rattle.wasm_read.proofs.groups.front_describing.Goals as goal

pub returns-in_default-clause-none : goal.returns-in_default-clause-none
returns-in_default-clause-none c = none_here c.in_default.ensures.none (none_at_end refl)

pub returns-in-Ok-Some-clause-some : goal.returns-in-Ok-Some-clause-some
returns-in-Ok-Some-clause-some c =
    let some = rw c.in-Ok-Some.field-0-is at c.in-Ok-Some.ensures.some in
    undescribing_begins some

pub returns-in-Ok-None-clause-none : goal.returns-in-Ok-None-clause-none
returns-in-Ok-None-clause-none c =
    let none = rw c.in-Ok-None.field-0-is at c.in-Ok-None.ensures.none in
    undescribing_none c.in-Some.ensures.some c.if-first-ne76.true none

pub returns-in_default-front_u32-clause-none : goal.returns-in_default-front_u32-clause-none
returns-in_default-front_u32-clause-none c =
    describing_no_index (at_byte c.in-Some.ensures.some c.if-first-ne76.false) c.in_default-front_u32.ensures.none

pub returns-in-Ok-Some-front_described-clause-some : goal.returns-in-Ok-Some-front_described-clause-some
returns-in-Ok-Some-front_described-clause-some c =
    let some = rw c.in-Ok-Some-front_described.field-0-is at c.in-Ok-Some-front_described.ensures.some in
    describing_begins (at_byte c.in-Some.ensures.some c.if-first-ne76.false) c.in-Some-front_u32.ensures.some some

pub returns-in-Ok-None-front_described-clause-none : goal.returns-in-Ok-None-front_described-clause-none
returns-in-Ok-None-front_described-clause-none c =
    let none = rw c.in-Ok-None-front_described.field-0-is at c.in-Ok-None-front_described.ensures.none in
    describing_none (at_byte c.in-Some.ensures.some c.if-first-ne76.false) c.in-Some-front_u32.ensures.some none
