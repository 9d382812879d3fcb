use Rattle.wasm_shapes.proofs.Begins.{begins_u32}
use Rattle.wasm_read.proofs.vector_items.U32ReadEntry.front.Goals as goal

pub returns-in-Some-clause-some : goal.returns-in-Some-clause-some
returns-in-Some-clause-some c = begins_u32 c.in-Some.ensures.some
