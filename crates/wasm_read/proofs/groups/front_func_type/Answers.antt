use Rattle.std.proofs.Common.{refl}
use Rattle.wasm_shapes.proofs.Begins.{begins_seq, none_seq_second}
use Rattle.wasm_read.proofs.groups.front_func_type.Goals as goal

pub returns-in-Ok-Some-front_vec-clause-some : goal.returns-in-Ok-Some-front_vec-clause-some
returns-in-Ok-Some-front_vec-clause-some c =
    let first = rw c.in-Ok-Some.field-0-is at c.in-Ok-Some.ensures.some in
    let second = rw c.in-Ok-Some-front_vec.field-0-is at c.in-Ok-Some-front_vec.ensures.some in
    begins_seq first second

pub returns-in-Ok-None-front_vec-clause-none : goal.returns-in-Ok-None-front_vec-clause-none
returns-in-Ok-None-front_vec-clause-none c =
    let first = rw c.in-Ok-Some.field-0-is at c.in-Ok-Some.ensures.some in
    let second = rw c.in-Ok-None-front_vec.field-0-is at c.in-Ok-None-front_vec.ensures.none in
    none_seq_second refl refl first second
