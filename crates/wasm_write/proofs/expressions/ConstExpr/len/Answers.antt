use Rattle.std.proofs.Common.{◌≡◌, ◌∷◌, [], ◌+◌, ◌++◌, length, length-append, ap, arith, ◌∙◌}
use Rattle.wasm_shapes.specs.Tree.{normal}
use Rattle.wasm_shapes.specs.Types.{expression_of}
use Rattle.wasm_write.proofs.HoldingBodies.{expression_normal, expression_spells}
use Rattle.wasm_write.proofs.expressions.ConstExpr.len.Goals as goal

pub returns-clause-len : goal.returns-clause-len
returns-clause-len c =
    let operators = c.self.inside.bytes.items in
    let whole : normal (expression_of c.args.self.now) ≡ operators ++ 0x0b ∷ [] = rw (← c.self.view_is) (expression_normal c.self.inside.held) in
    let long : length (normal (expression_of c.args.self.now)) ≡ length operators + 1 = ap length whole ∙ length-append operators (0x0b ∷ []) in
    omega (arith, long, c.len.ensures)

pub returns-clause-spells : goal.returns-clause-spells
returns-clause-spells c = rw (← c.self.view_is) (expression_spells c.self.inside.held)
