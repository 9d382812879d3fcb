use Rattle.wasm_read.proofs.OfKinds.{begins_lane}
use Rattle.wasm_read.proofs.immediates.front_lane.Goals as goal

pub returns-in-Some-clause-some : goal.returns-in-Some-clause-some
returns-in-Some-clause-some c = begins_lane c.in-Some.ensures.is_byte c.in-Some.ensures.some
