use Rattle.std.proofs.Common.{arith, refl}
use Rattle.wasm_leb.proofs.Full.{one_byte_shortest, shortest_by_last}
use Rattle.wasm_leb.proofs.minimal.is_shortest.Goals as goal

pub returns-then-len-lt2 : goal.returns-then-len-lt2
returns-then-len-lt2 c = λ bits n few p. (λ _. one_byte_shortest few p c.if-len-lt2.true, λ _. refl)

pub returns-else-len-lt2 : goal.returns-else-len-lt2
returns-else-len-lt2 c = λ bits n few p. shortest_by_last few p (omega (arith, c.if-len-lt2.false))
