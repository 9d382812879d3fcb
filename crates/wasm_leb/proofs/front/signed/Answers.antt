use Rattle.std.proofs.Common.{◌≡◌, ℕ, ℤ, pos, negsuc, ◌+◌, ◌-◌, ◌*◌, ◌%◌, ◌^◌, ◌<◌, ◌-ℤ◌, length, drop, to_z, of_z, w64, sym, subst, refl, arith, true, false}
use Rattle.std.proofs.lemmas.Int.{ints, to_z_pos}
use Rattle.wasm_leb.specs.Place.{BeginsSigned}
use Rattle.wasm_leb.proofs.Placed.{signed_behind}
use Rattle.wasm_leb.proofs.Shifts.{low_room}
use Rattle.wasm_leb.proofs.Signed.{signed_start, signed_more, signed_ends, signed_long, signed_unfit, signed_unfit_negative, signed_last, signed_last_negative}
use Rattle.wasm_leb.proofs.front.signed.Goals as goal

-- less one
minus_one : (n : ℕ) → n < 2 ^ 63 → negsuc n ≡ to_z w64 (of_z w64 (negsuc 0 -ℤ to_z w64 n))
minus_one n h = omega (arith, ints)

pub loop-first-init : goal.loop-first-init
loop-first-init c = signed_start c.args.bits c.args.bytes.now c.requires.some_bits

pub overflow_add-size : goal.overflow_add-size
overflow_add-size c =
    let last = signed_last c.loop-first.invariant c.requires.most_bits c.in-Some.ensures.some c.if-first-lt64.true (c.if-is_within.ensures.0 refl) c.from.ensures in
    omega (arith, last.0)

pub overflow_cast-result : goal.overflow_cast-result
overflow_cast-result c =
    let last = signed_last c.loop-first.invariant c.requires.most_bits c.in-Some.ensures.some c.if-first-lt64.true (c.if-is_within.ensures.0 refl) c.from.ensures in
    record { sfits = last.0 }

pub overflow_sub-result : goal.overflow_sub-result
overflow_sub-result c =
    let last = signed_last c.loop-first.invariant c.requires.most_bits c.in-Some.ensures.some c.if-first-lt64.true (c.if-is_within.ensures.0 refl) c.from.ensures in
    let behind = signed_behind c.args.bits c.args.bytes.now c.in-Some.more.now (pos (c.loop-first.sum + c.from.result * 2 ^ c.loop-first.shift % 2 ^ 64)) last.1 in
    omega (arith, behind.0)

pub returns-then-is_within-clause-some : goal.returns-then-is_within-clause-some
returns-then-is_within-clause-some c =
    let last = signed_last c.loop-first.invariant c.requires.most_bits c.in-Some.ensures.some c.if-first-lt64.true (c.if-is_within.ensures.0 refl) c.from.ensures in
    let behind = signed_behind c.args.bits c.args.bytes.now c.in-Some.more.now (pos (c.loop-first.sum + c.from.result * 2 ^ c.loop-first.shift % 2 ^ 64)) last.1 in
    λ _. subst (λ (z : ℤ). BeginsSigned c.args.bits c.args.bytes.now z (drop (length c.args.bytes.now - length c.in-Some.more.now) c.args.bytes.now)) (sym (to_z_pos w64 _ last.0)) behind.1

pub returns-then-is_within-clause-none : goal.returns-then-is_within-clause-none
returns-then-is_within-clause-none c =
    let last = signed_last c.loop-first.invariant c.requires.most_bits c.in-Some.ensures.some c.if-first-lt64.true (c.if-is_within.ensures.0 refl) c.from.ensures in
    let behind = signed_behind c.args.bits c.args.bytes.now c.in-Some.more.now (pos (c.loop-first.sum + c.from.result * 2 ^ c.loop-first.shift % 2 ^ 64)) last.1 in
    λ h. absurd (omega (arith, behind.0))

pub returns-else-is_within-clause-none : goal.returns-else-is_within-clause-none
returns-else-is_within-clause-none c =
    λ _. signed_unfit c.loop-first.invariant c.in-Some.ensures.some c.if-first-lt64.true (λ h. let can : false ≡ true = c.if-is_within.ensures.1 h in cc)

pub overflow_sub-size : goal.overflow_sub-size
overflow_sub-size c =
    let last = signed_last_negative c.loop-first.invariant c.requires.most_bits c.in-Some.ensures.some c.if-first-lt64.false c.if-first-lt128.true (c.if-is_within-2.ensures.0 refl) c.from-then-is_within-2.ensures in
    omega (arith, last.0)

pub overflow_sub-size-then-is_within-2 : goal.overflow_sub-size-then-is_within-2
overflow_sub-size-then-is_within-2 c =
    let last = signed_last_negative c.loop-first.invariant c.requires.most_bits c.in-Some.ensures.some c.if-first-lt64.false c.if-first-lt128.true (c.if-is_within-2.ensures.0 refl) c.from-then-is_within-2.ensures in
    omega (arith, last.0)

pub overflow_cast-result-then-is_within-2 : goal.overflow_cast-result-then-is_within-2
overflow_cast-result-then-is_within-2 c =
    let last = signed_last_negative c.loop-first.invariant c.requires.most_bits c.in-Some.ensures.some c.if-first-lt64.false c.if-first-lt128.true (c.if-is_within-2.ensures.0 refl) c.from-then-is_within-2.ensures in
    record { sfits = omega (arith, last.0, last.1) }

pub overflow_sub-result-then-is_within-2-2 : goal.overflow_sub-result-then-is_within-2-2
overflow_sub-result-then-is_within-2-2 c =
    let last = signed_last_negative c.loop-first.invariant c.requires.most_bits c.in-Some.ensures.some c.if-first-lt64.false c.if-first-lt128.true (c.if-is_within-2.ensures.0 refl) c.from-then-is_within-2.ensures in
    let behind = signed_behind c.args.bits c.args.bytes.now c.in-Some.more.now (negsuc (c.from-then-is_within-2.result * 2 ^ c.loop-first.shift % 2 ^ 64 - 1 - c.loop-first.sum)) last.2 in
    omega (arith, behind.0)

pub returns-then-is_within-2-clause-some : goal.returns-then-is_within-2-clause-some
returns-then-is_within-2-clause-some c =
    let last = signed_last_negative c.loop-first.invariant c.requires.most_bits c.in-Some.ensures.some c.if-first-lt64.false c.if-first-lt128.true (c.if-is_within-2.ensures.0 refl) c.from-then-is_within-2.ensures in
    let behind = signed_behind c.args.bits c.args.bytes.now c.in-Some.more.now (negsuc (c.from-then-is_within-2.result * 2 ^ c.loop-first.shift % 2 ^ 64 - 1 - c.loop-first.sum)) last.2 in
    λ _. subst (λ (z : ℤ). BeginsSigned c.args.bits c.args.bytes.now z (drop (length c.args.bytes.now - length c.in-Some.more.now) c.args.bytes.now)) (minus_one (c.from-then-is_within-2.result * 2 ^ c.loop-first.shift % 2 ^ 64 - 1 - c.loop-first.sum) (omega (arith, last.0, last.1))) behind.1

pub returns-then-is_within-2-clause-none : goal.returns-then-is_within-2-clause-none
returns-then-is_within-2-clause-none c =
    let last = signed_last_negative c.loop-first.invariant c.requires.most_bits c.in-Some.ensures.some c.if-first-lt64.false c.if-first-lt128.true (c.if-is_within-2.ensures.0 refl) c.from-then-is_within-2.ensures in
    let behind = signed_behind c.args.bits c.args.bytes.now c.in-Some.more.now (negsuc (c.from-then-is_within-2.result * 2 ^ c.loop-first.shift % 2 ^ 64 - 1 - c.loop-first.sum)) last.2 in
    λ h. absurd (omega (arith, behind.0))

pub returns-else-is_within-2-clause-none : goal.returns-else-is_within-2-clause-none
returns-else-is_within-2-clause-none c =
    λ _. signed_unfit_negative c.loop-first.invariant c.in-Some.ensures.some c.if-first-lt64.false c.if-first-lt128.true (λ h. let can : false ≡ true = c.if-is_within-2.ensures.1 h in cc)

pub returns-then-bits-shift-le7-clause-none : goal.returns-then-bits-shift-le7-clause-none
returns-then-bits-shift-le7-clause-none c =
    λ _. signed_long c.loop-first.invariant c.in-Some.ensures.some c.if-first-lt128.false c.if-bits-shift-le7.true

pub overflow_add-sum : goal.overflow_add-sum
overflow_add-sum c =
    let room = low_room c.args.bits c.loop-first.shift c.loop-first.sum c.in-Some.first _ c.loop-first.invariant.low c.requires.most_bits c.if-bits-shift-le7.false c.in-Some.ensures.is_byte c.from-in-Some.ensures in
    omega (arith, room.0)

pub loop-first-preserved : goal.loop-first-preserved
loop-first-preserved c =
    signed_more c.loop-first.invariant c.requires.most_bits c.in-Some.ensures.some c.if-first-lt128.false c.in-Some.ensures.is_byte c.if-bits-shift-le7.false c.from-in-Some.ensures

pub returns-clause-none : goal.returns-clause-none
returns-clause-none c =
    λ _. signed_ends c.loop-first.invariant c.in_default.ensures.none
