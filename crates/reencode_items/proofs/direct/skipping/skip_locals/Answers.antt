use Rattle.std.proofs.Common.{◌-◌, ◌+◌, ◌≡◌, ℕ, subst, arith}
use Rattle.wasm_shapes.specs.Module.{local_row}
use Rattle.reencode_items.proofs.SkippedLocals.{RowsPassed, all_passed, none_passed, one_passed}
use Rattle.reencode_items.proofs.direct.skipping.skip_locals.Goals as goal

pub locals-init : goal.locals-init
locals-init c =
    let n = c.in-Some-default-true-default.count in
    let start = c.in-Some-default-true-default.behind.now in
    let P : ℕ → Type 0 = λ k. RowsPassed local_row start start k in
    let none : 0 ≡ n - n = omega arith in
    record { most = omega arith; passed = subst P none (none_passed local_row start) }

pub locals-preserved : goal.locals-preserved
locals-preserved c =
    let n = c.in-Some-default-true-default.count in
    let start = c.in-Some-default-true-default.behind.now in
    let P : ℕ → Type 0 = λ k. RowsPassed local_row start c.in-Some.behind.now k in
    let more : n - c.locals.left + 1 ≡ n - (c.locals.left - 1) = omega (arith, c.locals.invariant.most) in
    record { most = omega (arith, c.locals.invariant.most); passed = subst P more (one_passed c.locals.invariant.passed c.in-Some.ensures) }

pub returns : goal.returns
returns c =
    let front = c.in-Some-default-true-default in
    let all : front.count - c.locals.left ≡ front.count = omega arith in
    let d = c.locals.invariant.passed in
    record { rows = d.rows; begins = all_passed front.count (front.count - c.locals.left) front.ensures.begins (front.ensures.short front.field-0-1-test) d all; unasked = d.unasked }
