use Rattle.std.proofs.Common.{◌++◌, ◌∷◌, [], ap, ◌∙◌}
use Rattle.wasm_write.specs.Instructions.{Parts, operator_tree}
use Rattle.wasm_write.proofs.HoldingBodies.{operators_grown, operators_grown_is, operators_same_is}
use Rattle.wasm_write.proofs.expressions.ConstExpr.operator.Goals as goal

pub invariant_of-self-inside : goal.invariant_of-self-inside
invariant_of-self-inside c =
    let parts : Parts = record { opcode = c.args.opcode; imms = c.args.imms.now } in
    (operators_grown c.self.inside.held parts c.requires.other c.in-Ok.ensures.ok c.in-Ok.ensures.spells, tt)

pub returns-in-Ok-clause-ok : goal.returns-in-Ok-clause-ok
returns-in-Ok-clause-ok c =
    let parts : Parts = record { opcode = c.args.opcode; imms = c.args.imms.now } in
    operators_grown_is c.self.inside.held parts _ c.requires.other c.in-Ok.ensures.ok c.in-Ok.ensures.spells
    ∙ ap (λ l. l ++ operator_tree c.args.opcode c.args.imms.now ∷ []) c.self.view_is

pub returns-in-Err-clause-err : goal.returns-in-Err-clause-err
returns-in-Err-clause-err c =
    operators_same_is c.self.inside.held _ (c.truncate.ensures.items ∙ rw c.len-len.ensures c.in-Err.ensures.err) ∙ c.self.view_is
