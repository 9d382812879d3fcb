use Rattle.wasm_write.proofs.ImmsSoFar.{imms_written, imms_in_range}
use Rattle.wasm_write.proofs.instructions.write_imms.Goals as goal

pub returns-clause-ok : goal.returns-clause-ok
returns-clause-ok c = imms_written c.args.imms.now c.loop-imm-test.false c.loop-imm.invariant.so_far

pub returns-clause-in_range : goal.returns-clause-in_range
returns-clause-in_range c = imms_in_range c.args.imms.now c.loop-imm-test.false c.loop-imm.invariant.so_far
