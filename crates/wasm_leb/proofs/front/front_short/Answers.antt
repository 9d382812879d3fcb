use Rattle.std.proofs.Common.{arith}
use Rattle.wasm_leb.proofs.Numbers.{number_one}
use Rattle.wasm_leb.proofs.Short.{number_two}
use Rattle.wasm_leb.proofs.front.front_short.Goals as goal

pub returns-then-first-lt128 : goal.returns-then-first-lt128
returns-then-first-lt128 c = number_one (omega arith) (omega arith) (omega arith) c.in-Some.ensures.some c.if-first-lt128.true c.from.ensures

pub returns-in-Some-front_byte : goal.returns-in-Some-front_byte
returns-in-Some-front_byte c =
    let low = c.if-first-lt128.false in
    let one = c.from-in-Some-front_byte.ensures in
    let two = c.from-in-Some-front_byte-2.ensures in
    number_two (omega (arith, low)) c.in-Some.ensures.is_byte c.if-second-lt128.true (omega (arith, low, one, two)) c.in-Some.ensures.some c.in-Some-front_byte.ensures.some
