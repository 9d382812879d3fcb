use Rattle.std.proofs.Common.{◌≡◌, refl, arith, true, false}
use Rattle.wasm_leb.proofs.Numbers.{number_more, number_ends, number_long, number_unfit, number_last}
use Rattle.wasm_leb.proofs.Shifts.{low_room}
use Rattle.wasm_leb.proofs.Placed.{number_behind}
use Rattle.wasm_leb.proofs.front.number.Goals as goal

pub overflow_add-result : goal.overflow_add-result
overflow_add-result c =
    let last = number_last c.requires.limit c.loop-first.invariant c.requires.most_bits c.in-Some.ensures.some (c.if-can_end.ensures.0 refl) c.from.ensures in
    omega (arith, last.0)

pub overflow_sub-result : goal.overflow_sub-result
overflow_sub-result c =
    let last = number_last c.requires.limit c.loop-first.invariant c.requires.most_bits c.in-Some.ensures.some (c.if-can_end.ensures.0 refl) c.from.ensures in
    let behind = number_behind c.args.limit c.args.bits c.args.bits c.args.bytes.now c.in-Some.more.now _ last.1 in
    omega (arith, behind.0)

pub returns-then-can_end-clause-some : goal.returns-then-can_end-clause-some
returns-then-can_end-clause-some c =
    let last = number_last c.requires.limit c.loop-first.invariant c.requires.most_bits c.in-Some.ensures.some (c.if-can_end.ensures.0 refl) c.from.ensures in
    λ _. (number_behind c.args.limit c.args.bits c.args.bits c.args.bytes.now c.in-Some.more.now _ last.1).1

pub returns-then-can_end-clause-none : goal.returns-then-can_end-clause-none
returns-then-can_end-clause-none c =
    let last = number_last c.requires.limit c.loop-first.invariant c.requires.most_bits c.in-Some.ensures.some (c.if-can_end.ensures.0 refl) c.from.ensures in
    let behind = number_behind c.args.limit c.args.bits c.args.bits c.args.bytes.now c.in-Some.more.now _ last.1 in
    λ h. absurd (omega (arith, behind.0))

pub returns-else-can_end-clause-none : goal.returns-else-can_end-clause-none
returns-else-can_end-clause-none c =
    λ _. number_unfit c.requires.limit c.loop-first.invariant c.in-Some.ensures.some c.if-first-lt128.true (λ h. let can : false ≡ true = c.if-can_end.ensures.1 h in cc)

pub returns-then-bits-shift-le7-clause-none : goal.returns-then-bits-shift-le7-clause-none
returns-then-bits-shift-le7-clause-none c =
    λ _. number_long c.requires.limit c.loop-first.invariant c.in-Some.ensures.some c.if-first-lt128.false c.if-bits-shift-le7.true

pub overflow_add-sum : goal.overflow_add-sum
overflow_add-sum c =
    let room = low_room c.args.bits c.loop-first.shift c.loop-first.sum c.in-Some.first _ c.loop-first.invariant.low c.requires.most_bits c.if-bits-shift-le7.false
    c.in-Some.ensures.is_byte c.from-in-Some.ensures in
    omega (arith, room.0)

pub loop-first-preserved : goal.loop-first-preserved
loop-first-preserved c =
    number_more c.requires.limit c.loop-first.invariant c.requires.most_bits c.in-Some.ensures.some c.if-first-lt128.false c.in-Some.ensures.is_byte
    c.if-bits-shift-le7.false c.from-in-Some.ensures

pub returns-clause-none : goal.returns-clause-none
returns-clause-none c = λ _. number_ends c.requires.limit c.loop-first.invariant c.in_default.ensures.none
