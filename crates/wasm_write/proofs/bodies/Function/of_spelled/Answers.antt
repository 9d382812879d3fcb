use Rattle.std.proofs.Common.{◌≡◌, ◌++◌, List, ℕ, ap, ◌∙◌, subst, sym}
use Rattle.wasm_write.specs.Bodies.{IsBody}
use Rattle.wasm_write.proofs.HoldingBodies.{body_is}
use Rattle.wasm_write.proofs.bodies.Function.of_spelled.Goals as goal

pub returns-clause-ok : goal.returns-clause-ok
returns-clause-ok c =
    let all : c.write_bytes.new.out.items ≡ c.args.bytes.now = c.in-Ok-write_bytes.ensures.ok ∙ ap (λ z. z ++ c.args.bytes.now) c.in-Ok.ensures.items in
    λ g p.
    let P : List ℕ → Type 0 = λ z. IsBody z g in
    body_is _ g (subst P (sym all) p)
