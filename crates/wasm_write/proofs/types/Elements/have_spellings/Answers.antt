use Rattle.std.proofs.Common.{List, All, subst, ◌∙◌}
use Rattle.std.proofs.lemmas.List.{take_all}
use Rattle.std.proofs.lemmas.List.Elements.{All-nil, All-more}
use Rattle.wasm_shapes.specs.Tree.{Tree}
use Rattle.wasm_write.specs.Rows.{HasSpelling}
use Rattle.wasm_write.proofs.types.Elements.have_spellings.Goals as goal

pub loop-expression-init : goal.loop-expression-init
loop-expression-init c = All-nil HasSpelling

pub loop-expression-preserved : goal.loop-expression-preserved
loop-expression-preserved c =
    let here = subst HasSpelling c.expression-item.is c.len.ensures.spells in
    All-more HasSpelling c.as_slice-expressions.result.now c.loop-expression.expression-index c.expression-item.result c.loop-expression-test.true
    c.loop-expression.invariant here

pub returns-after-loop-expression : goal.returns-after-loop-expression
returns-after-loop-expression c =
    let expressions = c.as_slice-expressions.result.now in
    let all = take_all c.loop-expression.expression-index expressions c.loop-expression-test.false ∙ c.as_slice-expressions.ensures in
    let S : List (List Tree) → Type 0 = λ z. All HasSpelling z in
    rw c.in-Expressions.is (subst S all c.loop-expression.invariant)
