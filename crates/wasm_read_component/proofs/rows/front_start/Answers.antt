use Rattle.std.proofs.Common.{refl}
use Rattle.wasm_shapes.specs.declared.Space.TheVariants as space
use Rattle.wasm_shapes.proofs.Begins.{begins_ix, begins_seq, begins_u32, none_seq_first, none_seq_second, none_u32}
use Rattle.wasm_read_component.proofs.rows.front_start.Goals as goal

pub returns-in-Some-front_u32-clause-some : goal.returns-in-Some-front_u32-clause-some
returns-in-Some-front_u32-clause-some c =
    begins_seq (begins_ix c.in-Some.ensures.some) (begins_seq (rw c.in-Ok-Some.field-0-is at c.in-Ok-Some.ensures.some) (begins_u32 c.in-Some-front_u32.ensures.some))

pub returns-in-None-clause-none : goal.returns-in-None-clause-none
returns-in-None-clause-none c =
    none_seq_second refl refl (begins_ix {s = space.ComponentFunc} c.in-Some.ensures.some) (none_seq_second refl refl (rw c.in-Ok-Some.field-0-is at c.in-Ok-Some.ensures.some) (none_u32 c.in-None.ensures.none))

pub returns-in-Ok-None-clause-none : goal.returns-in-Ok-None-clause-none
returns-in-Ok-None-clause-none c = none_seq_second refl refl (begins_ix {s = space.ComponentFunc} c.in-Some.ensures.some) (none_seq_first (rw c.in-Ok-None.field-0-is at c.in-Ok-None.ensures.none))
