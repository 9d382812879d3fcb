use Rattle.std.proofs.Common.{◌-◌, ◌+◌, ◌≡◌, ℕ, subst, arith}
use Rattle.wasm_shapes.specs.Shape.{Shape}
use Rattle.wasm_shapes.specs.Types.{vector_tree}
use Rattle.reencode_items.proofs.SkippedLocals.{RowsPassed, all_passed, none_passed, one_passed}
use Rattle.reencode_items.proofs.direct.skipping.skip_numbers.Goals as goal

pub numbers-init : goal.numbers-init
numbers-init c =
    let n = c.in-Some-default-true-default.count in
    let start = c.in-Some-default-true-default.behind.now in
    let P : ℕ → Type 0 = λ k. RowsPassed Shape.u32 start start k in
    let none : 0 ≡ n - n = omega arith in
    record { most = omega arith; passed = subst P none (none_passed Shape.u32 start) }

pub numbers-preserved : goal.numbers-preserved
numbers-preserved c =
    let n = c.in-Some-default-true-default.count in
    let start = c.in-Some-default-true-default.behind.now in
    let P : ℕ → Type 0 = λ k. RowsPassed Shape.u32 start c.in-Some.behind.now k in
    let more : n - c.numbers.left + 1 ≡ n - (c.numbers.left - 1) = omega (arith, c.numbers.invariant.most) in
    record { most = omega (arith, c.numbers.invariant.most); passed = subst P more (one_passed c.numbers.invariant.passed c.in-Some.ensures) }

pub returns : goal.returns
returns c =
    let front = c.in-Some-default-true-default in
    let all : front.count - c.numbers.left ≡ front.count = omega arith in
    let d = c.numbers.invariant.passed in
    record { tree = vector_tree d.rows; begins = all_passed front.count (front.count - c.numbers.left) front.ensures.begins (front.ensures.short front.field-0-1-test) d all; unasked = d.unasked }
