use Rattle.std.proofs.Common.{◌≡◌, drop, take, vec_len}
use Rattle.wasm_write.proofs.ImmsSoFar.{ImmsSoFar}
use Rattle.wasm_write.proofs.instructions.write_imms.Given as goal

-- what is written and the immediates that are left are all, and what stood before stands there still
abbrev pub invariant-loop-imm : goal.invariant-loop-imm
invariant-loop-imm l = record {
  so_far : ImmsSoFar (drop l.imm-index l.imms) l.imms l.initial.out.items l.out.items;
  kept : take (vec_len l.fn.out) l.out.items ≡ l.fn.out.items;
}
