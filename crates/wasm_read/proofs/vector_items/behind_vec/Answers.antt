use Rattle.wasm_read.proofs.VectorItems.{passed_some}
use Rattle.wasm_read.proofs.vector_items.behind_vec.Goals as goal

pub returns-in-Ok-clause-some : goal.returns-in-Ok-clause-some
returns-in-Ok-clause-some g c = passed_some c.in-Ok.ensures.ok
