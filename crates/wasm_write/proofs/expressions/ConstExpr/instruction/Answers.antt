use Rattle.std.proofs.Common.{◌++◌, ◌∷◌, [], ap, ◌∙◌}
use Rattle.wasm_write.specs.Instructions.{instruction_tree}
use Rattle.wasm_write.proofs.HoldingBodies.{operators_grown, operators_grown_is, operators_same_is}
use Rattle.wasm_write.proofs.expressions.ConstExpr.instruction.Goals as goal

pub invariant_of-self-inside : goal.invariant_of-self-inside
invariant_of-self-inside c = (operators_grown c.self.inside.held c.args.instruction.now c.requires c.in-Ok.ensures.ok c.in-Ok.ensures.spells, tt)

pub returns-in-Ok-clause-ok : goal.returns-in-Ok-clause-ok
returns-in-Ok-clause-ok c =
    operators_grown_is c.self.inside.held c.args.instruction.now _ c.requires c.in-Ok.ensures.ok c.in-Ok.ensures.spells
    ∙ ap (λ l. l ++ instruction_tree c.args.instruction.now ∷ []) c.self.view_is

pub returns-in-Err-clause-err : goal.returns-in-Err-clause-err
returns-in-Err-clause-err c =
    operators_same_is c.self.inside.held _ (c.truncate.ensures.items ∙ rw c.len-len.ensures c.in-Err.ensures.err) ∙ c.self.view_is
