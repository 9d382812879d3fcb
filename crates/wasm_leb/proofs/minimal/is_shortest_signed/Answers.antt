use Rattle.std.proofs.Common.{arith, refl}
use Rattle.wasm_leb.proofs.Full.{clear_by_last, one_byte_shortest_signed, set_by_last}
use Rattle.wasm_leb.proofs.minimal.is_shortest_signed.Goals as goal

pub returns-then-len-lt2 : goal.returns-then-len-lt2
returns-then-len-lt2 c = λ bits z few p. (λ _. one_byte_shortest_signed z few p c.if-len-lt2.true, λ _. refl)

pub returns-then-text-len-lt192 : goal.returns-then-text-len-lt192
returns-then-text-len-lt192 c = λ bits z few p. clear_by_last z few p (omega (arith, c.if-len-lt2.false)) c.if-text-len-lt192.true

pub returns-else-text-len-lt192 : goal.returns-else-text-len-lt192
returns-else-text-len-lt192 c = λ bits z few p. set_by_last z few p (omega (arith, c.if-len-lt2.false)) (omega (arith, c.if-text-len-lt192.false))
