use Rattle.std.proofs.Common.{◌≡◌, ℕ, ℤ, pos, negsuc, ◌+ℤ◌, ◌-◌, ◌≤◌, ◌<◌, [], ◌∷◌, nat_abs, to_z, of_z, w64, true, false, sym, ap, ◌∙◌, arith, ltb-true, leb-true, leb-false}
use Rattle.std.proofs.lemmas.Int.{ints, to_z-of_z}
use lib.Signed.{le_z, lt_z}
use mir.Val.{SFits}
use Rattle.wasm_leb.specs.Leb.{shortest, shortest_signed, inverted, inverted_byte}
use Rattle.wasm_leb.proofs.Shortest.{inverted_low}
use Rattle.wasm_leb.proofs.Writing.{shortest_last}
use Rattle.wasm_leb.proofs.write.write_signed.Goals as goal

one_byte : (z : ℤ) → le_z (pos 0) z ≡ true → lt_z z (pos 64) ≡ true → shortest_signed z ≡ nat_abs z ∷ []
one_byte (pos n) low high = shortest_last 9 64 n (ltb-true n 64 high)
one_byte (negsuc n) low high = cc

negative_byte : (z y : ℤ) → le_z (pos 0) z ≡ false → le_z (negsuc 63) z ≡ true → y ≡ z +ℤ pos 128 → shortest_signed z ≡ nat_abs y ∷ []
negative_byte (pos n) y low high e = absurd (let none : n < 0 = leb-false 0 n low in omega arith)
negative_byte (negsuc n) y low high e =
    let small : n ≤ 63 = leb-true n 63 high in
    let one : inverted (shortest 9 64 n) ≡ inverted_byte n ∷ [] = ap inverted (shortest_last 9 64 n (omega arith)) in
    let flipped : inverted_byte n ≡ 127 - n = inverted_low n (omega arith) in
    let same : nat_abs y ≡ 127 - n = omega (arith, ints) in
    one ∙ ap (λ (b : ℕ). b ∷ []) (flipped ∙ sym same)

sum_fits : (z : ℤ) → le_z (pos 0) z ≡ false → le_z (negsuc 63) z ≡ true → SFits w64 (z +ℤ pos 128)
sum_fits (pos n) low high = absurd (let none : n < 0 = leb-false 0 n low in omega arith)
sum_fits (negsuc n) low high =
    let small : n ≤ 63 = leb-true n 63 high in
    omega (arith, ints)

pub returns-then-v-lt64-clause-ok : goal.returns-then-v-lt64-clause-ok
returns-then-v-lt64-clause-ok c =
    let same = to_z-of_z w64 c.args.v c.ranges.v in
    rw (ap shortest_signed (sym same) ∙ one_byte (to_z w64 (of_z w64 c.args.v)) c.if-v-ge0.true c.if-v-lt64.true) c.write_byte.ensures.ok

pub returns-then-v-geminus64-clause-ok : goal.returns-then-v-geminus64-clause-ok
returns-then-v-geminus64-clause-ok c =
    let same = to_z-of_z w64 c.args.v c.ranges.v in
    let z = to_z w64 (of_z w64 c.args.v) in
    let low : le_z (pos 0) z ≡ false = c.if-v-ge0.false in
    let high : le_z (negsuc 63) z ≡ true = c.if-v-geminus64.true in
    let fits : SFits w64 (z +ℤ pos 128) = sum_fits z low high in
    rw (ap shortest_signed (sym same) ∙ negative_byte z _ low high (to_z-of_z w64 (z +ℤ pos 128) fits)) c.write_byte-then-v-geminus64.ensures.ok
