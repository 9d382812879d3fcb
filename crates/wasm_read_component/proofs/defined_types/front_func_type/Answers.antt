use Rattle.std.proofs.Common.{refl}
use Rattle.wasm_shapes.proofs.Begins.{begins_seq, none_seq_first, none_seq_second}
use Rattle.wasm_read_component.proofs.defined_types.front_func_type.Goals as goal

pub returns-in-Some-clause-some : goal.returns-in-Some-clause-some
returns-in-Some-clause-some c = begins_seq (rw c.in-Ok-Some.field-0-is at c.in-Ok-Some.ensures.some) c.in-Some.ensures.some

pub returns-in-Ok-None-clause-none : goal.returns-in-Ok-None-clause-none
returns-in-Ok-None-clause-none c = none_seq_first (rw c.in-Ok-None.field-0-is at c.in-Ok-None.ensures.none)

pub returns-clause-none : goal.returns-clause-none
returns-clause-none c = none_seq_second refl refl (rw c.in-Ok-Some.field-0-is at c.in-Ok-Some.ensures.some) c.in-None.ensures.none
