use Rattle.std.proofs.Common.{ap, length, arith}
use Rattle.wasm_read.proofs.VectorItems.{held_front, front_begins}
use Rattle.wasm_read.proofs.compact.VecItems.front.Goals as goal

pub invariant_of-result : goal.invariant_of-result
invariant_of-result g c = (held_front c.in-Ok.ensures.ok, tt)

pub returns-in-Ok-clause-some : goal.returns-in-Ok-clause-some
returns-in-Ok-clause-some g c = front_begins c.in-Ok.ensures.ok g.T.Entry.rows_sound _
