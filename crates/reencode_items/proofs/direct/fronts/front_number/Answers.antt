use Rattle.std.proofs.Common.{arith}
use Rattle.wasm_leb.proofs.Numbers.{number_one}
use Rattle.reencode_items.proofs.Passing.{short_number}
use Rattle.reencode_items.proofs.direct.fronts.front_number.Goals as goal

pub returns-in-Some-clause-begins : goal.returns-in-Some-clause-begins
returns-in-Some-clause-begins c = number_one (omega arith) (omega arith) (omega arith) c.in-Some.ensures.some c.if-first-lt128.true c.from.ensures

pub returns-in-Some-clause-short : goal.returns-in-Some-clause-short
returns-in-Some-clause-short c = λ _. short_number c.from.result c.in-Some.ensures.some c.if-first-lt128.true c.from.ensures
