use Rattle.std.proofs.Common.{refl}
use Rattle.wasm_shapes.proofs.Begins.{begins_seq, begins_u32, none_seq_second}
use Rattle.wasm_strip.proofs.sorting.GroupsSortedRow.front.Goals as goal

pub returns-in-Ok-Some-clause-some : goal.returns-in-Ok-Some-clause-some
returns-in-Ok-Some-clause-some c = let names = rw c.in-Ok-Some.field-0-is at c.in-Ok-Some.ensures.some in (_, begins_seq (begins_u32 c.in-Some.ensures.some) names.1, refl)

pub returns-in-Ok-None-clause-none : goal.returns-in-Ok-None-clause-none
returns-in-Ok-None-clause-none c = none_seq_second refl refl (begins_u32 c.in-Some.ensures.some) (rw c.in-Ok-None.field-0-is at c.in-Ok-None.ensures.none)
