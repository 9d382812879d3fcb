use Rattle.std.proofs.Common.{refl}
use Rattle.wasm_shapes.proofs.Begins.{begins_u32, begins_seq, none_seq_second, none_u32}
use Rattle.wasm_read.proofs.OfKinds.{passed}
use Rattle.wasm_read.proofs.immediates.behind_labels.Goals as goal

pub returns-in-Some-front_u32-clause-some : goal.returns-in-Some-front_u32-clause-some
returns-in-Some-front_u32-clause-some c = passed (begins_seq c.in-Some.ensures.some.1 (begins_u32 c.in-Some-front_u32.ensures.some))

pub returns-in-None-clause-none : goal.returns-in-None-clause-none
returns-in-None-clause-none c = none_seq_second refl refl c.in-Some.ensures.some.1 (none_u32 c.in-None.ensures.none)
