use Rattle.std.proofs.Common.{arith}
use Rattle.std.proofs.lemmas.Bool.Decides.{nat_tests}
use Rattle.wasm_leb.proofs.Numbers.{seven_bits}
use Rattle.wasm_leb.proofs.front.can_end.Goals as goal

pub returns-then-bits-ge7 : goal.returns-then-bits-ge7
returns-then-bits-ge7 c = (
  λ h. (c.if-byte-limit.true, seven_bits c.args.byte c.args.limit c.args.bits c.requires.limit c.if-byte-limit.true c.if-bits-ge7.true),
  λ h. grind (arith, nat_tests),
)
