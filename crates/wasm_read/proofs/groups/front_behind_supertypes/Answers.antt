use Rattle.std.proofs.Common.{refl}
use Rattle.wasm_shapes.proofs.Begins.{none_seq_second}
use Rattle.wasm_read.proofs.groups.front_behind_supertypes.Goals as goal

pub returns-in-Ok-None-front_composite-clause-none : goal.returns-in-Ok-None-front_composite-clause-none
returns-in-Ok-None-front_composite-clause-none c =
    let first = rw c.in-Ok-Some.field-0-is at c.in-Ok-Some.ensures.some in
    let none = rw c.in-Ok-None-front_composite.field-0-is at c.in-Ok-None-front_composite.ensures.none in
    none_seq_second refl refl first none
