use Rattle.wasm_read.proofs.OfKinds.{begins_zero}
use Rattle.wasm_read.proofs.immediates.front_zero.Goals as goal

pub returns-then-first-eq0-clause-some : goal.returns-then-first-eq0-clause-some
returns-then-first-eq0-clause-some c = begins_zero c.in-Some.ensures.some c.if-first-eq0.true
