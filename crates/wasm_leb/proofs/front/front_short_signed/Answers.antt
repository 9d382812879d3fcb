use Rattle.std.proofs.Common.{◌∙◌, arith, rules, to_z, of_z, w8, w16}
use Rattle.std.proofs.lemmas.Int.{to_z-of_z}
use mir.Val.{SFits}
use Rattle.wasm_leb.proofs.Short.{signed_two}
use Rattle.wasm_leb.proofs.Signed.{signed_one}
use Rattle.wasm_leb.proofs.front.front_short_signed.Goals as goal

pub returns-then-first-lt128 : goal.returns-then-first-lt128
returns-then-first-lt128 c =
    let fits : SFits w16 c.from.result = search rules in
    let narrow : SFits w8 c.one_byte.result = search rules in
    signed_one {z = to_z w16 (of_z w16 c.from.result)} (omega arith) c.in-Some.ensures.some c.if-first-lt128.true
    (to_z-of_z w16 c.from.result fits ∙ c.from.ensures ∙ to_z-of_z w8 c.one_byte.result narrow ∙ c.one_byte.ensures)

pub returns-in-Some-front_byte : goal.returns-in-Some-front_byte
returns-in-Some-front_byte c =
    let low = c.if-first-lt128.false in
    let fits : SFits w16 c.two_bytes.result = search rules in
    signed_two (omega (arith, low)) c.in-Some.ensures.is_byte c.if-second-lt128.true (to_z-of_z w16 c.two_bytes.result fits ∙ c.two_bytes.ensures) c.in-Some.ensures.some c.in-Some-front_byte.ensures.some
