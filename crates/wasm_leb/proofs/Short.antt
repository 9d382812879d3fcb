-- Numbers of one or two bytes.
use Rattle.std.proofs.Common.{◌≡◌, ℕ, ℤ, pos, negsuc, ◌+◌, ◌-◌, ◌*◌, ◌^◌, ◌<◌, ◌≤◌, ◌+ℤ◌, ◌*ℤ◌, List, [], ◌∷◌, ◌++◌, length, Bool, true, false, refl, sym, ap, ◌∙◌, subst, arith, nat_lt, if◌then◌else◌, ltb-true, ltb-false, pow_mono}
use Rattle.std.proofs.lemmas.Int.{ints}
use Rattle.wasm_leb.specs.Leb.{one_byte_signed}
use Rattle.wasm_leb.specs.Place.{BeginsNumber, BeginsSigned}

pub number_two : {b c n : ℕ} {bytes rest xs : List ℕ} → 128 ≤ b → b < 256 → c < 128 → n + 128 ≡ b + 128 * c → bytes ≡ b ∷ rest → rest ≡ c ∷ xs → BeginsNumber 128 14 14 bytes n xs
number_two {b = b} {c = c} low high small sum e f = (
  b ∷ c ∷ [],
  record { spelled = (low, high, c, sum, (small, refl)); short = omega arith; fits = omega arith },
  e ∙ ap (λ (z : List ℕ). b ∷ z) f,
)

-- it is a number of more bits
pub number_wider : {bits n m : ℕ} {bytes xs : List ℕ} → 14 ≤ bits → BeginsNumber 128 14 14 bytes n xs → m ≡ n → BeginsNumber 128 bits bits bytes m xs
number_wider {bits = bits} {n = n} {bytes = bytes} {xs = xs} wide p same =
    let room : 2 ^ 14 ≤ 2 ^ bits = pow_mono wide in
    let few : length p.0 ≤ 2 = p.1.short in
    let fits : n < 2 ^ 14 = p.1.fits in
    subst (λ (k : ℕ). BeginsNumber 128 bits bits bytes k xs) (sym same) (p.0, record { spelled = p.1.spelled; short = omega arith; fits = omega arith }, p.2)

pub signed_two : {b c : ℕ} {z : ℤ} {bytes rest xs : List ℕ} → 128 ≤ b → b < 256 → c < 128 → z ≡ (one_byte_signed c *ℤ pos 128) +ℤ pos (b - 128) → bytes ≡ b ∷ rest → rest ≡ c ∷ xs →
    BeginsSigned 14 bytes z xs
signed_two {b = b} {c = c} {z = z} {bytes = bytes} {xs = xs} low high small is e f =
    subst (λ (w : ℤ). BeginsSigned 14 bytes w xs) (sym is) (go (nat_lt c 64) refl)
  where
    whole : bytes ≡ (b ∷ c ∷ []) ++ xs
    whole = e ∙ ap (λ (z : List ℕ). b ∷ z) f

    go : (t : Bool) → nat_lt c 64 ≡ t → BeginsSigned 14 bytes (((if t then pos c else negsuc (127 - c)) *ℤ pos 128) +ℤ pos (b - 128)) xs
    go true g =
        let below : c < 64 = ltb-true c 64 g in
        let value : (pos c *ℤ pos 128) +ℤ pos (b - 128) ≡ pos (c * 128 + (b - 128)) = omega (arith, ints) in
        subst (λ (w : ℤ). BeginsSigned 14 bytes w xs) (sym value)
        (b ∷ c ∷ [], record { spelled = (low, high, c, omega arith, (below, refl)); short = omega arith; fits = omega arith }, whole)
    go false g =
        let above : 64 ≤ c = ltb-false c 64 g in
        let value : (negsuc (127 - c) *ℤ pos 128) +ℤ pos (b - 128) ≡ negsuc ((128 - c) * 128 - (b - 128) - 1) = omega (arith, ints) in
        subst (λ (w : ℤ). BeginsSigned 14 bytes w xs) (sym value)
        (b ∷ c ∷ [], record { spelled = (low, high, 127 - c, omega arith, (above, small, omega arith)); short = omega arith; fits = omega arith }, whole)

pub signed_wider : {bits : ℕ} (z : ℤ) {w : ℤ} {bytes xs : List ℕ} → 14 ≤ bits → BeginsSigned 14 bytes z xs → w ≡ z → BeginsSigned bits bytes w xs
signed_wider {bits = bits} z {bytes = bytes} {xs = xs} wide p same = subst (λ (v : ℤ). BeginsSigned bits bytes v xs) (sym same) (go z p)
  where
    fewer : 13 ≤ bits - 1
    fewer = omega arith

    go : (z : ℤ) → BeginsSigned 14 bytes z xs → BeginsSigned bits bytes z xs
    go (pos n) q =
        let room : 2 ^ 13 ≤ 2 ^ (bits - 1) = pow_mono fewer in
        let few : length q.0 ≤ 2 = q.1.short in
        let fits : n < 2 ^ 13 = q.1.fits in
        (q.0, record { spelled = q.1.spelled; short = omega arith; fits = omega arith }, q.2)
    go (negsuc n) q =
        let room : 2 ^ 13 ≤ 2 ^ (bits - 1) = pow_mono fewer in
        let few : length q.0 ≤ 2 = q.1.short in
        let fits : n < 2 ^ 13 = q.1.fits in
        (q.0, record { spelled = q.1.spelled; short = omega arith; fits = omega arith }, q.2)
