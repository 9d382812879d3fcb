use Rattle.std.proofs.Common.{arith}
use Rattle.wasm_leb.proofs.Short.{number_wider}
use Rattle.wasm_leb.proofs.front.front_u32.Goals as goal

pub returns-in-Some-clause-some : goal.returns-in-Some-clause-some
returns-in-Some-clause-some c = number_wider (omega arith) c.in-Some.ensures c.from.ensures
