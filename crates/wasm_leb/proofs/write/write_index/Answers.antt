use Rattle.wasm_leb.proofs.Writing.{shortest_last}
use Rattle.wasm_leb.proofs.write.write_index.Goals as goal

pub returns-then-index-lt64-clause-ok : goal.returns-then-index-lt64-clause-ok
returns-then-index-lt64-clause-ok c = rw (shortest_last 9 64 c.args.index c.if-index-lt64.true) c.write_byte.ensures.ok
