use Rattle.std.proofs.Common.{arith}
use Rattle.wasm_leb.proofs.Writing.{long_1, long_2, long_3, long_4, long_5}
use Rattle.wasm_leb.proofs.write.len_u32.Goals as goal

pub returns-then-v-clause-value : goal.returns-then-v-clause-value
returns-then-v-clause-value c = long_1 c.args.v (omega arith)

pub returns-then-v-2-clause-value : goal.returns-then-v-2-clause-value
returns-then-v-2-clause-value c = long_2 c.args.v (omega arith) (omega arith)

pub returns-then-v-3-clause-value : goal.returns-then-v-3-clause-value
returns-then-v-3-clause-value c = long_3 c.args.v (omega arith) (omega arith)

pub returns-then-v-4-clause-value : goal.returns-then-v-4-clause-value
returns-then-v-4-clause-value c = long_4 c.args.v (omega arith) (omega arith)

pub returns-else-v-4-clause-value : goal.returns-else-v-4-clause-value
returns-else-v-4-clause-value c = long_5 c.args.v (omega arith) (omega arith)
