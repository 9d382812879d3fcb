use Rattle.std.proofs.Common.{arith}
use Rattle.std.proofs.lemmas.Bool.Decides.{nat_tests}
use Rattle.wasm_leb.proofs.Signed.{six_bits}
use Rattle.wasm_leb.proofs.front.is_within.Goals as goal

pub returns-then-bits-ge7 : goal.returns-then-bits-ge7
returns-then-bits-ge7 c = (
  λ h. six_bits c.args.size c.args.bits c.requires.small c.if-bits-ge7.true,
  λ h. grind (arith, nat_tests),
)
