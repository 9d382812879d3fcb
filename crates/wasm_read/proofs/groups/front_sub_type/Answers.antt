use Rattle.std.proofs.Common.{◌≢◌, refl, arith}
use Rattle.wasm_shapes.proofs.Begins.{at_byte, none_here, none_at_end}
use Rattle.wasm_read.proofs.TypeRows.{open_begins, open_none, final_begins, final_none, alone_begins, alone_none}
use Rattle.wasm_read.proofs.groups.front_sub_type.Goals as goal

pub returns-in_default-clause-none : goal.returns-in_default-clause-none
returns-in_default-clause-none c = none_here c.in_default.ensures.none (none_at_end refl)

pub returns-in-Ok-Some-clause-some : goal.returns-in-Ok-Some-clause-some
returns-in-Ok-Some-clause-some c =
    let some = rw c.in-Ok-Some.field-0-is at c.in-Ok-Some.ensures.some in
    open_begins (at_byte c.in-Some.ensures.some c.in-80.is) some.1 some.2

pub returns-in-Ok-None-clause-none : goal.returns-in-Ok-None-clause-none
returns-in-Ok-None-clause-none c =
    let none = rw c.in-Ok-None.field-0-is at c.in-Ok-None.ensures.none in
    open_none (at_byte c.in-Some.ensures.some c.in-80.is) none

pub returns-in-Ok-Some-front_behind_supertypes-clause-some : goal.returns-in-Ok-Some-front_behind_supertypes-clause-some
returns-in-Ok-Some-front_behind_supertypes-clause-some c =
    let some = rw c.in-Ok-Some-front_behind_supertypes.field-0-is at c.in-Ok-Some-front_behind_supertypes.ensures.some in
    final_begins (at_byte c.in-Some.ensures.some c.in-79.is) some.1 some.2

pub returns-in-Ok-None-front_behind_supertypes-clause-none : goal.returns-in-Ok-None-front_behind_supertypes-clause-none
returns-in-Ok-None-front_behind_supertypes-clause-none c =
    let none = rw c.in-Ok-None-front_behind_supertypes.field-0-is at c.in-Ok-None-front_behind_supertypes.ensures.none in
    final_none (at_byte c.in-Some.ensures.some c.in-79.is) none

pub returns-in-Ok-Some-front_composite-clause-some : goal.returns-in-Ok-Some-front_composite-clause-some
returns-in-Ok-Some-front_composite-clause-some c =
    let some = rw c.in-Ok-Some-front_composite.field-0-is at c.in-Ok-Some-front_composite.ensures.some in
    rw c.new.ensures (alone_begins some)

pub returns-in-Ok-None-front_composite-clause-none : goal.returns-in-Ok-None-front_composite-clause-none
returns-in-Ok-None-front_composite-clause-none c =
    let none = rw c.in-Ok-None-front_composite.field-0-is at c.in-Ok-None-front_composite.ensures.none in
    let other : c.in-Some.first ≢ 0x4f = omega arith in
    let another : c.in-Some.first ≢ 0x50 = omega arith in
    alone_none c.in-Some.ensures.some other another none
