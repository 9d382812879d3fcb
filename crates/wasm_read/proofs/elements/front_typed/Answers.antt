use Rattle.std.proofs.Common.{refl}
use Rattle.wasm_shapes.proofs.Begins.{none_seq_second}
use Rattle.wasm_shapes.proofs.Parts.{begins_swap, none_swap}
use Rattle.wasm_read.proofs.elements.front_typed.Goals as goal

pub returns-in-Ok-Some-clause-some : goal.returns-in-Ok-Some-clause-some
returns-in-Ok-Some-clause-some c =
    let some = rw c.in-Ok-Some.field-0-is at c.in-Ok-Some.ensures.some in
    begins_swap c.in-Some.ensures.some some

pub returns-in-Ok-None-clause-none : goal.returns-in-Ok-None-clause-none
returns-in-Ok-None-clause-none c =
    let none = rw c.in-Ok-None.field-0-is at c.in-Ok-None.ensures.none in
    none_swap (none_seq_second refl refl c.in-Some.ensures.some none)
