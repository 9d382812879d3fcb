use Rattle.std.proofs.Common.{refl}
use Rattle.wasm_shapes.proofs.Begins.{begins_u32, begins_seq, none_seq_second}
use Rattle.wasm_visits.proofs.names.PlainReadRow.front.Goals as goal

pub returns-in-Some-front_name-clause-some : goal.returns-in-Some-front_name-clause-some
returns-in-Some-front_name-clause-some c = begins_seq (begins_u32 c.in-Some.ensures.some) c.in-Some-front_name.ensures.some

pub returns-in-None-clause-none : goal.returns-in-None-clause-none
returns-in-None-clause-none c = none_seq_second refl refl (begins_u32 c.in-Some.ensures.some) c.in-None.ensures.none
