use Rattle.std.proofs.Common.{refl}
use Rattle.wasm_shapes.proofs.Begins.{begins_u32, begins_seq, none_seq_second, none_u32}
use Rattle.wasm_read.proofs.OfKinds.{counted_tree}
use Rattle.wasm_read.proofs.immediates.front_labels.Goals as goal

pub returns-in-Some-clause-some : goal.returns-in-Some-clause-some
returns-in-Some-clause-some c =
    let begins = rw c.in-Ok-Some.field-0-is at c.in-Ok-Some.ensures.some in
    let counted = rw c.in-Ok-Some.field-0-is at c.in-Ok-Some.ensures.counted in
    rw (counted_tree _ _ _ counted) (begins_seq begins (begins_u32 c.in-Some.ensures.some))

pub returns-in-None-clause-none : goal.returns-in-None-clause-none
returns-in-None-clause-none c =
    let begins = rw c.in-Ok-Some.field-0-is at c.in-Ok-Some.ensures.some in
    none_seq_second refl refl begins (none_u32 c.in-None.ensures.none)
