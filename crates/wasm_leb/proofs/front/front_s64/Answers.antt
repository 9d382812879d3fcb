use Rattle.std.proofs.Common.{◌∙◌, arith, rules, w16, w64}
use Rattle.std.proofs.lemmas.Int.{to_z-of_z}
use mir.Val.{SFits}
use Rattle.wasm_leb.proofs.Short.{signed_wider}
use Rattle.wasm_leb.proofs.front.front_s64.Goals as goal

pub returns-in-Some-clause-some : goal.returns-in-Some-clause-some
returns-in-Some-clause-some c =
    let fits : SFits w64 c.from.result = search rules in
    let narrow : SFits w16 c.in-Some.number = search rules in
    signed_wider c.in-Some.number (omega arith) c.in-Some.ensures (to_z-of_z w64 c.from.result fits ∙ c.from.ensures ∙ to_z-of_z w16 c.in-Some.number narrow)
