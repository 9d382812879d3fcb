use Rattle.std.proofs.Common.{refl}
use Rattle.wasm_shapes.proofs.Begins.{begins_seq, begins_byte, at_byte, none_here, none_at_end, none_byte, none_lead, none_seq_first}
use Rattle.wasm_read.proofs.ElementFlags.{functions_begin, no_functions}
use Rattle.wasm_read.proofs.elements.front_kinded.Goals as goal

pub returns-in_default-clause-none : goal.returns-in_default-clause-none
returns-in_default-clause-none c = none_here c.in_default.ensures.none (none_at_end refl)

pub returns-then-first-ne0-clause-none : goal.returns-then-first-ne0-clause-none
returns-then-first-ne0-clause-none c = none_here c.in-Some.ensures.some (none_seq_first (none_byte c.if-first-ne0.true))

pub returns-in-Ok-Some-clause-some : goal.returns-in-Ok-Some-clause-some
returns-in-Ok-Some-clause-some c =
    let some = rw c.in-Ok-Some.field-0-is at c.in-Ok-Some.ensures.some in
    begins_seq (begins_byte (at_byte c.in-Some.ensures.some c.if-first-ne0.false)) (functions_begin c.in-Ok-Some.functions some)

pub returns-in-Ok-None-clause-none : goal.returns-in-Ok-None-clause-none
returns-in-Ok-None-clause-none c =
    let none = rw c.in-Ok-None.field-0-is at c.in-Ok-None.ensures.none in
    none_here (at_byte c.in-Some.ensures.some c.if-first-ne0.false) (none_lead refl (no_functions none))
