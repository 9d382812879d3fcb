use Rattle.std.proofs.Common.{refl}
use Rattle.wasm_shapes.proofs.Begins.{at_byte, none_here, none_at_end}
use Rattle.wasm_read.proofs.TypeRows.{bare_begins, bare_none, explicit_begins, explicit_none}
use Rattle.wasm_read.proofs.groups.front_group.Goals as goal

pub returns-in_default-clause-none : goal.returns-in_default-clause-none
returns-in_default-clause-none c = none_here c.in_default.ensures.none (none_at_end refl)

pub returns-in-Ok-Some-clause-some : goal.returns-in-Ok-Some-clause-some
returns-in-Ok-Some-clause-some c =
    let some = rw c.in-Ok-Some.field-0-is at c.in-Ok-Some.ensures.some in
    explicit_begins (at_byte c.in-Some.ensures.some c.if-first-eq78.true) some

pub returns-in-Ok-None-clause-none : goal.returns-in-Ok-None-clause-none
returns-in-Ok-None-clause-none c =
    let none = rw c.in-Ok-None.field-0-is at c.in-Ok-None.ensures.none in
    explicit_none (at_byte c.in-Some.ensures.some c.if-first-eq78.true) none

pub returns-in-Ok-None-front_sub_type-clause-none : goal.returns-in-Ok-None-front_sub_type-clause-none
returns-in-Ok-None-front_sub_type-clause-none c =
    let none = rw c.in-Ok-None-front_sub_type.field-0-is at c.in-Ok-None-front_sub_type.ensures.none in
    bare_none c.in-Some.ensures.some c.if-first-eq78.false none

pub returns-in-Ok-clause-some : goal.returns-in-Ok-clause-some
returns-in-Ok-clause-some c =
    let some = rw c.in-Ok-Some-front_sub_type.field-0-is at c.in-Ok-Some-front_sub_type.ensures.some in
    rw c.in-Ok.ensures (bare_begins some)
