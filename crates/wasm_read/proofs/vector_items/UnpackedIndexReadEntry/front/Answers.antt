use Rattle.wasm_shapes.proofs.Begins.{begins_ix}
use Rattle.wasm_read.proofs.vector_items.UnpackedIndexReadEntry.front.Goals as goal

pub returns-in-Some-clause-some : goal.returns-in-Some-clause-some
returns-in-Some-clause-some c = begins_ix c.in-Some.ensures.some
