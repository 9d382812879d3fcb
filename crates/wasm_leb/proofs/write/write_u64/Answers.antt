use Rattle.wasm_leb.proofs.Writing.{shortest_last}
use Rattle.wasm_leb.proofs.write.write_u64.Goals as goal

pub returns-then-v-lt128-clause-ok : goal.returns-then-v-lt128-clause-ok
returns-then-v-lt128-clause-ok c = rw (shortest_last 9 128 c.args.v c.if-v-lt128.true) c.write_byte.ensures.ok
