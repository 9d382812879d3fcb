-- The shortest spelling of a number spells it.
use Rattle.std.proofs.Common.{◌≡◌, ℕ, ℤ, pos, negsuc, zero, suc, ◌+◌, ◌-◌, ◌*◌, ◌/◌, ◌%◌, ◌^◌, ◌<◌, ◌≤◌, List, [], ◌∷◌, length, Bool, true, false, refl, ap, arith, nat_lt, if◌then◌else◌, ltb-true, ltb-false}
use Rattle.wasm_leb.specs.Leb.{FitsBits, IsLeb, IsNegative, IsUnsigned, IsSignedIndex, IsSigned, shortest, leb, signed_leb, inverted, inverted_byte, shortest_signed}

-- what so many bytes more hold
abbrev pub held : ℕ → ℕ → ℕ
held zero limit = limit
held (suc more) limit = 128 * held more limit

leb_more : (limit b n high : ℕ) (x : List ℕ) → 128 ≤ b → b < 256 → n + 128 ≡ b + 128 * high → IsLeb limit x high → IsLeb limit (b ∷ x) n
leb_more limit b n high [] low small e p = absurd p
leb_more limit b n high (c ∷ x) low small e p = (low, small, high, e, p)

pub shortest_spells : (more limit n : ℕ) → n < held more limit → IsLeb limit (shortest more limit n) n
unfolding shortest
shortest_spells zero limit n h = (h, refl)
shortest_spells (suc more) limit n h = go (nat_lt n limit) refl (shortest_spells more limit (n / 128))
  where
    go : (b : Bool) → nat_lt n limit ≡ b → (n / 128 < held more limit → IsLeb limit (shortest more limit (n / 128)) (n / 128)) →
        IsLeb limit (if b then n ∷ [] else ((n % 128 + 128) ∷ shortest more limit (n / 128))) n
    go true e again = (ltb-true n limit e, refl)
    go false e again = leb_more limit (n % 128 + 128) n (n / 128) (shortest more limit (n / 128)) (omega arith) (omega arith) (omega arith) (again (omega arith))

shortest_short : (fewer more limit n : ℕ) → fewer ≤ more → n < held fewer limit → length (shortest more limit n) ≤ suc fewer
unfolding shortest
shortest_short fewer zero limit n f h = omega arith
shortest_short zero (suc more) limit n f h = go (nat_lt n limit) refl
  where
    go : (b : Bool) → nat_lt n limit ≡ b → length (if b then n ∷ [] else ((n % 128 + 128) ∷ shortest more limit (n / 128))) ≤ 1
    go true e = omega arith
    go false e = let above : limit ≤ n = ltb-false n limit e in absurd (omega arith)
shortest_short (suc fewer) (suc more) limit n f h = go (nat_lt n limit) (shortest_short fewer more limit (n / 128) (omega arith) (omega arith))
  where
    go : (b : Bool) → length (shortest more limit (n / 128)) ≤ suc fewer →
        length (if b then n ∷ [] else ((n % 128 + 128) ∷ shortest more limit (n / 128))) ≤ suc (suc fewer)
    go true again = omega arith
    go false again = omega arith

pub leb_spells : (n : ℕ) → n < 2 ^ 32 → IsUnsigned 32 (leb n) n
leb_spells n h = record { spelled = shortest_spells 9 128 n (omega arith); short = shortest_short 4 9 128 n (omega arith) (omega arith); fits = h }

pub leb_spells_64 : (n : ℕ) → n < 2 ^ 64 → IsUnsigned 64 (leb n) n
leb_spells_64 n h = record { spelled = shortest_spells 9 128 n (omega arith); short = shortest_short 9 9 128 n (omega arith) (omega arith); fits = h }

pub signed_leb_spells : (n : ℕ) → n < 2 ^ 32 → IsSignedIndex (signed_leb n) n
signed_leb_spells n h = record { spelled = shortest_spells 9 64 n (omega arith); short = shortest_short 4 9 64 n (omega arith) (omega arith); fits = h }

-- ---- numbers with sign

pub length-inverted : (x : List ℕ) → length (inverted x) ≡ length x
length-inverted [] = refl
length-inverted (b ∷ x) = ap suc (length-inverted x)

pub inverted_low : (b : ℕ) → b < 128 → inverted_byte b ≡ 127 - b
inverted_low b h = go (nat_lt b 128) refl
  where
    go : (t : Bool) → nat_lt b 128 ≡ t → (if t then 127 - b else 383 - b) ≡ 127 - b
    go true e = refl
    go false e = let above : 128 ≤ b = ltb-false b 128 e in absurd (omega arith)

pub inverted_high : (b : ℕ) → 128 ≤ b → inverted_byte b ≡ 383 - b
inverted_high b h = go (nat_lt b 128) refl
  where
    go : (t : Bool) → nat_lt b 128 ≡ t → (if t then 127 - b else 383 - b) ≡ 383 - b
    go true e = let below : b < 128 = ltb-true b 128 e in absurd (omega arith)
    go false e = refl

inverted_spells : (x : List ℕ) (n : ℕ) → IsLeb 64 x n → IsNegative (inverted x) n
inverted_spells [] n p = absurd p
inverted_spells (b ∷ []) n p =
    let small : b < 64 = p.0 in
    let same : n ≡ b = p.1 in
    let e : inverted_byte b ≡ 127 - b = inverted_low b (omega arith) in
    (omega arith, omega arith, omega arith)
inverted_spells (b ∷ c ∷ x) n p =
    let low : 128 ≤ b = p.0 in
    let high : b < 256 = p.1 in
    let sum : n + 128 ≡ b + 128 * p.2 = p.3 in
    let e : inverted_byte b ≡ 383 - b = inverted_high b low in
    (omega arith, omega arith, p.2, omega arith, inverted_spells (c ∷ x) p.2 p.4)

signed_spells : (bits fewer : ℕ) (z : ℤ) → fewer ≤ 9 → suc fewer ≤ (bits + 6) / 7 → 2 ^ (bits - 1) ≤ held fewer 64 → 2 ^ (bits - 1) ≤ held 9 64 →
    FitsBits bits z → IsSigned bits (shortest_signed z) z
signed_spells bits fewer (pos n) f s h room small = record {
  spelled = shortest_spells 9 64 n (omega arith);
  short = let l = shortest_short fewer 9 64 n f (omega arith) in omega arith;
  fits = small;
}
signed_spells bits fewer (negsuc n) f s h room small = record {
  spelled = inverted_spells (shortest 9 64 n) n (shortest_spells 9 64 n (omega arith));
  short = let l = shortest_short fewer 9 64 n f (omega arith) in let m = length-inverted (shortest 9 64 n) in omega arith;
  fits = small;
}

pub s32_spells : (z : ℤ) → FitsBits 32 z → IsSigned 32 (shortest_signed z) z
s32_spells z small = signed_spells 32 4 z (omega arith) (omega arith) (omega arith) (omega arith) small

pub s33_spells : (z : ℤ) → FitsBits 33 z → IsSigned 33 (shortest_signed z) z
s33_spells z small = signed_spells 33 4 z (omega arith) (omega arith) (omega arith) (omega arith) small

pub s64_spells : (z : ℤ) → FitsBits 64 z → IsSigned 64 (shortest_signed z) z
s64_spells z small = signed_spells 64 9 z (omega arith) (omega arith) (omega arith) (omega arith) small
