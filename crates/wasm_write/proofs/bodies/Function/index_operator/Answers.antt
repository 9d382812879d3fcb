use Rattle.std.proofs.Common.{◌∷◌, [], ap, ◌∙◌}
use Rattle.wasm_write.specs.Bodies.{with_operator}
use Rattle.wasm_types.specs.declared.types.Imm.TheVariants as imm
use Rattle.wasm_write.specs.Instructions.{operator_tree}
use Rattle.wasm_write.proofs.HoldingBodies.{body_grown, body_grown_is, body_same_is}
use Rattle.wasm_write.proofs.bodies.Function.index_operator.Goals as goal

pub invariant_of-self-inside : goal.invariant_of-self-inside
invariant_of-self-inside c = (body_grown c.self.inside.held (operator_tree c.args.opcode (imm.Index c.args.space c.args.index ∷ [])) c.in-Ok.ensures.ok c.in-Ok.ensures.spells, tt)

pub returns-in-Ok-clause-ok : goal.returns-in-Ok-clause-ok
returns-in-Ok-clause-ok c =
    let t = operator_tree c.args.opcode (imm.Index c.args.space c.args.index ∷ []) in
    body_grown_is c.self.inside.held t _ c.in-Ok.ensures.ok c.in-Ok.ensures.spells ∙ ap (λ f. with_operator f t) c.self.view_is

pub returns-in-Err-clause-err : goal.returns-in-Err-clause-err
returns-in-Err-clause-err c =
    body_same_is c.self.inside.held _ (c.truncate.ensures.items ∙ rw c.len-len.ensures c.in-Err.ensures.err) ∙ c.self.view_is
