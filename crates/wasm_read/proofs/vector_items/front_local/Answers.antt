use Rattle.std.proofs.Common.{refl}
use Rattle.wasm_shapes.proofs.Begins.{begins_u32, begins_seq, none_seq_second}
use Rattle.wasm_read.proofs.vector_items.front_local.Goals as goal

pub returns-in-Some-front_val_type-clause-some : goal.returns-in-Some-front_val_type-clause-some
returns-in-Some-front_val_type-clause-some c = begins_seq (begins_u32 c.in-Some.ensures.some) c.in-Some-front_val_type.ensures.some

pub returns-in-None-clause-none : goal.returns-in-None-clause-none
returns-in-None-clause-none c = none_seq_second refl refl (begins_u32 c.in-Some.ensures.some) c.in-None.ensures.none
