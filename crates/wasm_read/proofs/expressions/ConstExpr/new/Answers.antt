use Rattle.std.proofs.Common.{◌≡◌, ℕ, List, length, refl, subst, true, false}
use Rattle.std.specs.Bool.{◌==◌}
use Rattle.wasm_read.proofs.HeldExpressions.{none_fills, none_whole}
use Rattle.wasm_read.proofs.expressions.ConstExpr.new.Goals as goal

pub returns-else-is_empty-clause-err : goal.returns-else-is_empty-clause-err
returns-else-is_empty-clause-err c =
    let N : List ℕ → Type 0 = λ z. false ≡ ((length z) == 0) in
    (refl, none_fills c.in-Some.ensures.some (λ e. let never : false ≡ true = subst N e c.if-is_empty.ensures in cc))

pub returns-in-None-clause-err : goal.returns-in-None-clause-err
returns-in-None-clause-err c = (refl, none_whole c.in-None.ensures.none)
