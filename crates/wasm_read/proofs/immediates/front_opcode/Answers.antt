use Rattle.wasm_read.proofs.Codes.{begins_prefixed}
use Rattle.wasm_read.proofs.immediates.front_opcode.Goals as goal

pub returns-in-Some-front_u32-clause-some : goal.returns-in-Some-front_u32-clause-some
returns-in-Some-front_u32-clause-some c = begins_prefixed c.if-first-lt251.false c.if-first-gt254.false c.in-Some.ensures.some c.in-Some-front_u32.ensures.some
