use Rattle.std.proofs.Common.{refl}
use Rattle.wasm_shapes.specs.declared.Space.TheVariants as space
use Rattle.wasm_shapes.proofs.Begins.{begins_empty, begins_ix, begins_seq, begins_u32, none_ix, none_seq_second, none_u32}
use Rattle.wasm_shapes.proofs.Parts.{begins_swap, none_swap}
use Rattle.wasm_read_component.proofs.canonical.front_operands.Goals as goal

pub returns-in-Nothing-clause-some : goal.returns-in-Nothing-clause-some
returns-in-Nothing-clause-some c = rw c.in-Nothing.is begins_empty

pub returns-in-Some-clause-some : goal.returns-in-Some-clause-some
returns-in-Some-clause-some c = rw c.in-Type_.is (begins_ix c.in-Some.ensures.some)

pub returns-in-Ok-Some-clause-some : goal.returns-in-Ok-Some-clause-some
returns-in-Ok-Some-clause-some c = rw c.in-TypeAndOptions.is (begins_swap (begins_ix c.in-Some-front_u32.ensures.some) (rw c.in-Ok-Some.field-0-is at c.in-Ok-Some.ensures.some))

pub returns-in-Ok-None-clause-none : goal.returns-in-Ok-None-clause-none
returns-in-Ok-None-clause-none c =
    rw c.in-TypeAndOptions.is (none_swap (none_seq_second refl refl (begins_ix {s = space.ComponentType} c.in-Some-front_u32.ensures.some) (rw c.in-Ok-None.field-0-is at c.in-Ok-None.ensures.none)))

pub returns-in-Some-front_async-clause-some : goal.returns-in-Some-front_async-clause-some
returns-in-Some-front_async-clause-some c = rw c.in-TypeAndAsync.is (begins_seq (begins_ix c.in-Some-front_u32-2.ensures.some) c.in-Some-front_async.ensures.some)

pub returns-in-None-front_async-clause-none : goal.returns-in-None-front_async-clause-none
returns-in-None-front_async-clause-none c =
    rw c.in-TypeAndAsync.is (none_seq_second refl refl (begins_ix {s = space.ComponentType} c.in-Some-front_u32-2.ensures.some) c.in-None-front_async.ensures.none)

pub returns-in-Ok-Some-front_options-clause-some : goal.returns-in-Ok-Some-front_options-clause-some
returns-in-Ok-Some-front_options-clause-some c = rw c.in-ResultAndOptions.is (begins_swap c.in-Some-front_result.ensures.some (rw c.in-Ok-Some-front_options.field-0-is at c.in-Ok-Some-front_options.ensures.some))

pub returns-in-Ok-None-front_options-clause-none : goal.returns-in-Ok-None-front_options-clause-none
returns-in-Ok-None-front_options-clause-none c =
    rw c.in-ResultAndOptions.is (none_swap (none_seq_second refl refl c.in-Some-front_result.ensures.some (rw c.in-Ok-None-front_options.field-0-is at c.in-Ok-None-front_options.ensures.none)))

pub returns-in-Some-front_u32-3-clause-some : goal.returns-in-Some-front_u32-3-clause-some
returns-in-Some-front_u32-3-clause-some c = rw c.in-Slot.is (begins_seq c.in-Some-front_val_type.ensures.some (begins_u32 c.in-Some-front_u32-3.ensures.some))

pub returns-in-None-front_u32-clause-none : goal.returns-in-None-front_u32-clause-none
returns-in-None-front_u32-clause-none c = rw c.in-Slot.is (none_seq_second refl refl c.in-Some-front_val_type.ensures.some (none_u32 c.in-None-front_u32.ensures.none))

pub returns-in-Some-front_u32-4-clause-some : goal.returns-in-Some-front_u32-4-clause-some
returns-in-Some-front_u32-4-clause-some c = rw c.in-CoreType.is (begins_ix c.in-Some-front_u32-4.ensures.some)

pub returns-in-Some-front_u32-6-clause-some : goal.returns-in-Some-front_u32-6-clause-some
returns-in-Some-front_u32-6-clause-some c = rw c.in-CoreTypeAndTable.is (begins_seq (begins_ix c.in-Some-front_u32-5.ensures.some) (begins_ix c.in-Some-front_u32-6.ensures.some))

pub returns-in-None-front_u32-3-clause-none : goal.returns-in-None-front_u32-3-clause-none
returns-in-None-front_u32-3-clause-none c =
    rw c.in-CoreTypeAndTable.is (none_seq_second refl refl (begins_ix {s = space.Type_} c.in-Some-front_u32-5.ensures.some) (none_ix c.in-None-front_u32-3.ensures.none))
