use Rattle.std.proofs.Common.{ap, ◌∙◌}
use Rattle.wasm_write.specs.Bodies.{with_operators}
use Rattle.wasm_write.proofs.HoldingBodies.{body_joined_is, body_perhaps_joined, body_same_is}
use Rattle.wasm_write.proofs.bodies.Function.spelled.Goals as goal

pub invariant_of-self-inside : goal.invariant_of-self-inside
invariant_of-self-inside c = (body_perhaps_joined c.self.inside.held c.write_bytes.result c.requires.0 c.write_bytes.ensures.ok c.write_bytes.ensures.err c.requires.1, tt)

pub returns-clause-ok : goal.returns-clause-ok
returns-clause-ok c = λ rows p.
    body_joined_is c.self.inside.held rows _ c.in-Ok.ensures.ok p ∙ ap (λ f. with_operators f rows) c.self.view_is

pub returns-in_default-clause-err : goal.returns-in_default-clause-err
returns-in_default-clause-err c = body_same_is c.self.inside.held _ c.in_default.ensures.err ∙ c.self.view_is
