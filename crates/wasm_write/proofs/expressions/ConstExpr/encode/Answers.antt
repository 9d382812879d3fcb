use Rattle.std.proofs.Common.{◌≡◌, ℕ, List, [], ◌∷◌, ◌++◌, sym, ap, ◌∙◌, append_assoc}
use Rattle.wasm_shapes.specs.Tree.{normal}
use Rattle.wasm_shapes.specs.Types.{expression_of}
use Rattle.wasm_write.proofs.Holding.{OnOk-map}
use Rattle.wasm_write.proofs.HoldingBodies.{expression_normal, expression_spells}
use Rattle.wasm_write.proofs.expressions.ConstExpr.encode.Goals as goal

pub returns-in-Ok-clause-ok : goal.returns-in-Ok-clause-ok
returns-in-Ok-clause-ok c =
    let operators = c.self.inside.bytes.items in
    let old = c.args.out.now.items in
    let whole : normal (expression_of c.args.self.now) ≡ operators ++ 0x0b ∷ [] = rw (← c.self.view_is) (expression_normal c.self.inside.held) in
    OnOk-map c.write_byte.result c.write_byte.ensures.ok (λ e.
    e ∙ ap (λ (z : List ℕ). z ++ 0x0b ∷ []) (c.in-Ok.ensures.items ∙ ap (λ (z : List ℕ). old ++ z) c.deref.ensures.value)
    ∙ append_assoc old operators (0x0b ∷ []) ∙ ap (λ (z : List ℕ). old ++ z) (sym whole))

pub returns-in-Ok-clause-spells : goal.returns-in-Ok-clause-spells
returns-in-Ok-clause-spells c = rw (← c.self.view_is) (expression_spells c.self.inside.held)

pub returns-in-Err-clause-spells : goal.returns-in-Err-clause-spells
returns-in-Err-clause-spells c = rw (← c.self.view_is) (expression_spells c.self.inside.held)
