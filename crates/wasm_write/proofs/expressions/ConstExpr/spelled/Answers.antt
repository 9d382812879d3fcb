use Rattle.std.proofs.Common.{◌++◌, ap, ◌∙◌}
use Rattle.wasm_write.proofs.HoldingBodies.{operators_joined_is, operators_perhaps_joined, operators_same_is}
use Rattle.wasm_write.proofs.expressions.ConstExpr.spelled.Goals as goal

pub invariant_of-self-inside : goal.invariant_of-self-inside
invariant_of-self-inside c =
    (operators_perhaps_joined c.self.inside.held c.write_bytes.result c.write_bytes.ensures.ok c.write_bytes.ensures.err c.requires, tt)

pub returns-clause-ok : goal.returns-clause-ok
returns-clause-ok c = λ q.
    operators_joined_is c.self.inside.held _ c.in-Ok.ensures.ok q ∙ ap (λ l. l ++ q.0) c.self.view_is

pub returns-in_default-clause-err : goal.returns-in_default-clause-err
returns-in_default-clause-err c = operators_same_is c.self.inside.held _ c.in_default.ensures.err ∙ c.self.view_is
