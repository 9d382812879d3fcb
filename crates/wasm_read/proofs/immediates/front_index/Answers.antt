use Rattle.wasm_shapes.proofs.Begins.{begins_ix}
use Rattle.wasm_read.proofs.immediates.front_index.Goals as goal

pub returns-in-Some-clause-some : goal.returns-in-Some-clause-some
returns-in-Some-clause-some c = rw c.requires (begins_ix c.in-Some.ensures.some)
