use Rattle.std.proofs.Common.{refl}
use Rattle.wasm_shapes.specs.declared.Space.TheVariants as space
use Rattle.wasm_shapes.proofs.Begins.{begins_ix, begins_seq, none_seq_second}
use Rattle.wasm_read.proofs.elements.front_aim.Goals as goal

pub returns-in-Some-front_expr-clause-some : goal.returns-in-Some-front_expr-clause-some
returns-in-Some-front_expr-clause-some c = begins_seq (begins_ix c.in-Some.ensures.some) c.in-Some-front_expr.ensures.some

pub returns-in-None-clause-none : goal.returns-in-None-clause-none
returns-in-None-clause-none c = none_seq_second refl refl (begins_ix {s = space.Table} c.in-Some.ensures.some) c.in-None.ensures.none
