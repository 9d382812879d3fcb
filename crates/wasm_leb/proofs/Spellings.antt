-- The laws of numbers.
use Rattle.std.proofs.Common.{◌≡◌, ℕ, ℤ, pos, negsuc, zero, suc, ◌+◌, ◌-◌, ◌*◌, ◌/◌, ◌%◌, ◌^◌, ◌<◌, ◌≤◌, ◌≤ℤ◌, ◌<ℤ◌, List, [], ◌∷◌, length, Bool, true, false, refl, ap, arith, nat_lt, if◌then◌else◌, ltb-false}
use Rattle.std.proofs.lemmas.Int.{ints}
use Rattle.wasm_leb.specs.Leb.{FitsBits, IsLeb, IsNegative, IsSigned, shortest, shortest_signed}
use Rattle.wasm_leb.specs.Laws.{IsUnsignedUnique, IsIndexUnique, IsSignedUnique, IsUnsignedShortest, IsIndexShortest, IsSignedShortest}
use Rattle.wasm_leb.proofs.Shortest.{length-inverted, leb_spells, leb_spells_64, signed_leb_spells, s32_spells, s33_spells, s64_spells}
use Rattle.wasm_leb.proofs.Unique.{unsigned_unique, signed_index_unique, signed_unique}

pub unsigned_is_unique : IsUnsignedUnique
unsigned_is_unique bits m n x y a b p q e = unsigned_unique a b p q e

pub index_is_unique : IsIndexUnique
index_is_unique m n x y a b p q e = signed_index_unique a b p q e

pub signed_is_unique : IsSignedUnique
signed_is_unique bits z w x y a b p q e = signed_unique bits z w x y a b p q e

-- no spelling is shorter
none_shorter : (more limit n : ℕ) (x : List ℕ) → IsLeb limit x n → length (shortest more limit n) ≤ length x
unfolding shortest
none_shorter more limit n [] p = absurd p
none_shorter zero limit n (b ∷ x) p = omega arith
none_shorter (suc more) limit n (b ∷ []) p = go (nat_lt n limit) refl
  where
    go : (t : Bool) → nat_lt n limit ≡ t → length (if t then n ∷ [] else ((n % 128 + 128) ∷ shortest more limit (n / 128))) ≤ 1
    go true e = omega arith
    go false e = let above : limit ≤ n = ltb-false n limit e in absurd (omega (arith, p.0, p.1))
none_shorter (suc more) limit n (b ∷ c ∷ x) p = go (nat_lt n limit) (none_shorter more limit p.2 (c ∷ x) p.4)
  where
    go : (t : Bool) → length (shortest more limit p.2) ≤ suc (length x) →
        length (if t then n ∷ [] else ((n % 128 + 128) ∷ shortest more limit (n / 128))) ≤ suc (suc (length x))
    go true again = omega arith
    go false again =
        let low : 128 ≤ b = p.0 in
        let small : b < 256 = p.1 in
        let sum : n + 128 ≡ b + 128 * p.2 = p.3 in
        let same : n / 128 ≡ p.2 = omega arith in
        let long : length (shortest more limit (n / 128)) ≡ length (shortest more limit p.2) = ap (λ (k : ℕ). length (shortest more limit k)) same in
        omega arith

none_shorter_negative : (more n : ℕ) (x : List ℕ) → IsNegative x n → length (shortest more 64 n) ≤ length x
unfolding shortest
none_shorter_negative more n [] p = absurd p
none_shorter_negative zero n (b ∷ x) p = omega arith
none_shorter_negative (suc more) n (b ∷ []) p = go (nat_lt n 64) refl
  where
    go : (t : Bool) → nat_lt n 64 ≡ t → length (if t then n ∷ [] else ((n % 128 + 128) ∷ shortest more 64 (n / 128))) ≤ 1
    go true e = omega arith
    go false e = let above : 64 ≤ n = ltb-false n 64 e in absurd (omega (arith, p.0, p.2))
none_shorter_negative (suc more) n (b ∷ c ∷ x) p = go (nat_lt n 64) (none_shorter_negative more p.2 (c ∷ x) p.4)
  where
    go : (t : Bool) → length (shortest more 64 p.2) ≤ suc (length x) →
        length (if t then n ∷ [] else ((n % 128 + 128) ∷ shortest more 64 (n / 128))) ≤ suc (suc (length x))
    go true again = omega arith
    go false again =
        let low : 128 ≤ b = p.0 in
        let small : b < 256 = p.1 in
        let sum : n + b ≡ 255 + 128 * p.2 = p.3 in
        let same : n / 128 ≡ p.2 = omega arith in
        let long : length (shortest more 64 (n / 128)) ≡ length (shortest more 64 p.2) = ap (λ (k : ℕ). length (shortest more 64 k)) same in
        omega arith

none_shorter_signed : (bits : ℕ) (z : ℤ) (x : List ℕ) → IsSigned bits x z → length (shortest_signed z) ≤ length x
none_shorter_signed bits (pos n) x p = none_shorter 9 64 n x p.spelled
none_shorter_signed bits (negsuc n) x p = let short = none_shorter_negative 9 n x p.spelled in let same = length-inverted (shortest 9 64 n) in omega arith

pub unsigned_32_is_shortest : IsUnsignedShortest 32
unsigned_32_is_shortest n h = (leb_spells n h, λ x p. none_shorter 9 128 n x p.spelled)

pub unsigned_64_is_shortest : IsUnsignedShortest 64
unsigned_64_is_shortest n h = (leb_spells_64 n h, λ x p. none_shorter 9 128 n x p.spelled)

pub index_is_shortest : IsIndexShortest
index_is_shortest n h = (signed_leb_spells n h, λ x p. none_shorter 9 64 n x p.spelled)

fits_32 : (z : ℤ) → negsuc (2 ^ 31 - 1) ≤ℤ z → z <ℤ pos (2 ^ 31) → FitsBits 32 z
fits_32 (pos n) low high = omega (arith, ints)
fits_32 (negsuc n) low high = omega (arith, ints)

fits_33 : (z : ℤ) → negsuc (2 ^ 32 - 1) ≤ℤ z → z <ℤ pos (2 ^ 32) → FitsBits 33 z
fits_33 (pos n) low high = omega (arith, ints)
fits_33 (negsuc n) low high = omega (arith, ints)

fits_64 : (z : ℤ) → negsuc (2 ^ 63 - 1) ≤ℤ z → z <ℤ pos (2 ^ 63) → FitsBits 64 z
fits_64 (pos n) low high = omega (arith, ints)
fits_64 (negsuc n) low high = omega (arith, ints)

pub signed_32_is_shortest : IsSignedShortest 32
signed_32_is_shortest z low high = (s32_spells z (fits_32 z low high), λ x p. none_shorter_signed 32 z x p)

pub signed_33_is_shortest : IsSignedShortest 33
signed_33_is_shortest z low high = (s33_spells z (fits_33 z low high), λ x p. none_shorter_signed 33 z x p)

pub signed_64_is_shortest : IsSignedShortest 64
signed_64_is_shortest z low high = (s64_spells z (fits_64 z low high), λ x p. none_shorter_signed 64 z x p)
