use Rattle.wasm_read.proofs.OfKinds.{begins_bytes}
use Rattle.wasm_read.proofs.immediates.front_bytes.Goals as goal

pub returns-else-bytes-count-clause-some : goal.returns-else-bytes-count-clause-some
returns-else-bytes-count-clause-some c = begins_bytes c.split_at.ensures.by_index.0 c.split_at.ensures.front_len
