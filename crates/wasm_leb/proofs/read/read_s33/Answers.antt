use Rattle.std.proofs.Common.{ℤ, ◌-◌, length, drop, rules, sym, subst, w64}
use Rattle.std.proofs.lemmas.Int.{to_z-of_z}
use mir.Val.{SFits}
use Rattle.wasm_leb.specs.Place.{BeginsSigned}
use Rattle.wasm_leb.proofs.Placed.{signed_placed}
use Rattle.wasm_leb.proofs.read.read_s33.Goals as goal

pub returns-in-Some-clause-ok : goal.returns-in-Some-clause-ok
returns-in-Some-clause-ok c =
    let fits : SFits w64 c.in-Some.number = search rules in
    let place = length c.args.bytes.now - length c.in-Some.rest.now in
    subst (λ (z : ℤ). BeginsSigned 33 (drop c.args.at c.args.bytes.now) z (drop place c.args.bytes.now)) (sym (to_z-of_z w64 c.in-Some.number fits))
    (signed_placed 33 c.args.bytes.now _ _ c.args.at c.in-Some.number c.from_place.ensures c.in-Some.ensures.some)
