use Rattle.wasm_shapes.proofs.Begins.{at_byte}
use Rattle.wasm_shapes.proofs.ComponentParts.{begins_absent, begins_present}
use Rattle.wasm_read_component.proofs.optional.front_optional.Goals as goal

pub returns-in-0-clause-some : goal.returns-in-0-clause-some
returns-in-0-clause-some g c = begins_absent (at_byte c.in-Some.ensures.some c.in-0.is)

pub returns-in-Some-front-clause-some : goal.returns-in-Some-front-clause-some
returns-in-Some-front-clause-some g c = begins_present (at_byte c.in-Some.ensures.some c.in-1.is) c.in-Some-front.ensures.some
