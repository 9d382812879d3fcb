use Rattle.std.proofs.Common.{refl}
use Rattle.wasm_shapes.proofs.Begins.{begins_ix, begins_u32, begins_seq, none_seq_second, none_u32}
use Rattle.wasm_shapes.specs.declared.Space.TheVariants as space
use Rattle.wasm_read.proofs.vector_items.front_tag_and_label.Goals as goal

pub returns-in-Some-front_u32-clause-some : goal.returns-in-Some-front_u32-clause-some
returns-in-Some-front_u32-clause-some c = begins_seq (begins_ix c.in-Some.ensures.some) (begins_u32 c.in-Some-front_u32.ensures.some)

pub returns-in-None-clause-none : goal.returns-in-None-clause-none
returns-in-None-clause-none c = none_seq_second refl refl (begins_ix {s = space.Tag} c.in-Some.ensures.some) (none_u32 c.in-None.ensures.none)
