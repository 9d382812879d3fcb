use Rattle.std.proofs.Common.{arith}
use Rattle.wasm_leb.proofs.Numbers.{number_one}
use Rattle.wasm_leb.proofs.front.front_index.Goals as goal

pub returns-in-Some-clause-some : goal.returns-in-Some-clause-some
returns-in-Some-clause-some c = number_one (omega arith) (omega arith) (omega arith) c.in-Some.ensures.some c.if-first-lt64.true c.from.ensures
