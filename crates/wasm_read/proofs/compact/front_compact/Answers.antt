use Rattle.std.proofs.Common.{refl}
use Rattle.wasm_shapes.proofs.Begins.{begins_seq, none_seq_first, none_seq_second}
use Rattle.wasm_read.proofs.compact.front_compact.Goals as goal

pub returns-in_default-clause-none : goal.returns-in_default-clause-none
returns-in_default-clause-none c = none_seq_first c.in_default.ensures.none

pub returns-in-Some-front_type_ref-clause-some : goal.returns-in-Some-front_type_ref-clause-some
returns-in-Some-front_type_ref-clause-some c = begins_seq c.in-Some.ensures.some c.in-Some-front_type_ref.ensures.some

pub returns-in-None-clause-none : goal.returns-in-None-clause-none
returns-in-None-clause-none c = none_seq_second refl refl c.in-Some.ensures.some c.in-None.ensures.none
