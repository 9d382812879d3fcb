use Rattle.std.proofs.Common.{refl}
use Rattle.wasm_shapes.proofs.Begins.{at_byte, none_here, none_at_end}
use Rattle.wasm_read.proofs.TypeRows.{shared_begins, shared_none, unshared_begins, unshared_none}
use Rattle.wasm_read.proofs.groups.front_composite.Goals as goal

pub returns-in_default-clause-none : goal.returns-in_default-clause-none
returns-in_default-clause-none c = none_here c.in_default.ensures.none (none_at_end refl)

pub returns-in-Ok-Some-clause-some : goal.returns-in-Ok-Some-clause-some
returns-in-Ok-Some-clause-some c =
    let some = rw c.in-Ok-Some.field-0-is at c.in-Ok-Some.ensures.some in
    shared_begins (at_byte c.in-Some.ensures.some c.if-first-eq101.true) some

pub returns-in-Ok-None-clause-none : goal.returns-in-Ok-None-clause-none
returns-in-Ok-None-clause-none c =
    let none = rw c.in-Ok-None.field-0-is at c.in-Ok-None.ensures.none in
    shared_none (at_byte c.in-Some.ensures.some c.if-first-eq101.true) none

pub returns-in-Ok-Some-front_describing-clause-some : goal.returns-in-Ok-Some-front_describing-clause-some
returns-in-Ok-Some-front_describing-clause-some c =
    let some = rw c.in-Ok-Some-front_describing.field-0-is at c.in-Ok-Some-front_describing.ensures.some in
    unshared_begins some

pub returns-in-Ok-None-front_describing-clause-none : goal.returns-in-Ok-None-front_describing-clause-none
returns-in-Ok-None-front_describing-clause-none c =
    let none = rw c.in-Ok-None-front_describing.field-0-is at c.in-Ok-None-front_describing.ensures.none in
    unshared_none c.in-Some.ensures.some c.if-first-eq101.false none
