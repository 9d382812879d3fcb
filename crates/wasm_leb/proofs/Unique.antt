-- A number has one spelling of a length, and no spelling begins another.
use Rattle.std.proofs.Common.{◌≡◌, ℕ, ℤ, pos, negsuc, ap, sym, ◌+◌, ◌*◌, ◌<◌, ◌≤◌, List, [], ◌∷◌, ◌++◌, arith, ◌⊎◌, inl, inr}
use Rattle.wasm_leb.specs.Leb.{IsLeb, IsNumber, IsUnsigned, IsSignedIndex, IsNegative, IsSigned}

pub leb_unique : (limit : ℕ) → limit ≤ 128 → (x y a b : List ℕ) (m n : ℕ) →
    IsLeb limit x m → IsLeb limit y n → x ++ a ≡ y ++ b → (x ≡ y) × (m ≡ n)
leb_unique limit small [] y a b m n p q e = absurd p
leb_unique limit small (c ∷ []) [] a b m n p q e = absurd q
leb_unique limit small (c ∷ d ∷ x) [] a b m n p q e = absurd q
leb_unique limit small (c ∷ []) (c' ∷ []) a b m n p q e =
    let heads : c ≡ c' = cc in
    let value : m ≡ c = p.1 in
    let value' : n ≡ c' = q.1 in
    (cc, omega arith)
leb_unique limit small (c ∷ []) (c' ∷ d' ∷ y) a b m n p q e =
    let heads : c ≡ c' = cc in
    absurd (omega arith)
leb_unique limit small (c ∷ d ∷ x) (c' ∷ []) a b m n p q e =
    let heads : c ≡ c' = cc in
    absurd (omega arith)
leb_unique limit small (c ∷ d ∷ x) (c' ∷ d' ∷ y) a b m n p q e =
    let heads : c ≡ c' = cc in
    let tails : (d ∷ x) ++ a ≡ (d' ∷ y) ++ b = cc in
    let rest : ((d ∷ x) ≡ (d' ∷ y)) × (p.2 ≡ q.2) = leb_unique limit small (d ∷ x) (d' ∷ y) a b p.2 q.2 p.4 q.4 tails in
    let highs : p.2 ≡ q.2 = rest.1 in
    let list : (d ∷ x) ≡ (d' ∷ y) = rest.0 in
    let value : m + 128 ≡ c + 128 * p.2 = p.3 in
    let value' : n + 128 ≡ c' + 128 * q.2 = q.3 in
    (cc, omega arith)

pub number_unique : {limit bits size m n : ℕ} {x y : List ℕ} → limit ≤ 128 → (a b : List ℕ) →
    IsNumber limit bits size x m → IsNumber limit bits size y n → x ++ a ≡ y ++ b → (x ≡ y) × (m ≡ n)
number_unique {limit = limit} {m = m} {n = n} {x = x} {y = y} small a b p q e = leb_unique limit small x y a b m n p.spelled q.spelled e

pub unsigned_unique : {bits m n : ℕ} {x y : List ℕ} (a b : List ℕ) →
    IsUnsigned bits x m → IsUnsigned bits y n → x ++ a ≡ y ++ b → (x ≡ y) × (m ≡ n)
unsigned_unique a b p q e = number_unique (omega arith) a b p q e

pub signed_index_unique : {m n : ℕ} {x y : List ℕ} (a b : List ℕ) →
    IsSignedIndex x m → IsSignedIndex y n → x ++ a ≡ y ++ b → (x ≡ y) × (m ≡ n)
signed_index_unique a b p q e = number_unique (omega arith) a b p q e

-- a number takes a byte at least, and begins with one
pub leb_fills : (limit : ℕ) (x : List ℕ) (n : ℕ) → IsLeb limit x n → x ≡ [] → ⊥
leb_fills limit [] n p e = p
leb_fills limit (b ∷ x) n p e = cc

pub leb_front : (limit : ℕ) (x : List ℕ) (n b : ℕ) (r : List ℕ) → IsLeb limit x n → x ≡ b ∷ r → (b < limit) ⊎ ((128 ≤ b) × (b < 256))
leb_front limit [] n b r p e = absurd p
leb_front limit (c ∷ []) n b r p e =
    let head : c ≡ b = cc in
    let small : c < limit = p.0 in
    inl (omega arith)
leb_front limit (c ∷ d ∷ x) n b r p e =
    let head : c ≡ b = cc in
    let low : 128 ≤ c = p.0 in
    let high : c < 256 = p.1 in
    inr (omega arith, omega arith)

-- ---- numbers with sign

negative_unique : (x y a b : List ℕ) (m n : ℕ) → IsNegative x m → IsNegative y n → x ++ a ≡ y ++ b → (x ≡ y) × (m ≡ n)
negative_unique [] y a b m n p q e = absurd p
negative_unique (c ∷ []) [] a b m n p q e = absurd q
negative_unique (c ∷ d ∷ x) [] a b m n p q e = absurd q
negative_unique (c ∷ []) (c' ∷ []) a b m n p q e =
    let heads : c ≡ c' = cc in
    let value : m + c ≡ 127 = p.2 in
    let value' : n + c' ≡ 127 = q.2 in
    (cc, omega arith)
negative_unique (c ∷ []) (c' ∷ d' ∷ y) a b m n p q e =
    let heads : c ≡ c' = cc in
    let small : c < 128 = p.1 in
    let large : 128 ≤ c' = q.0 in
    absurd (omega arith)
negative_unique (c ∷ d ∷ x) (c' ∷ []) a b m n p q e =
    let heads : c ≡ c' = cc in
    let small : c' < 128 = q.1 in
    let large : 128 ≤ c = p.0 in
    absurd (omega arith)
negative_unique (c ∷ d ∷ x) (c' ∷ d' ∷ y) a b m n p q e =
    let heads : c ≡ c' = cc in
    let tails : (d ∷ x) ++ a ≡ (d' ∷ y) ++ b = cc in
    let rest : ((d ∷ x) ≡ (d' ∷ y)) × (p.2 ≡ q.2) = negative_unique (d ∷ x) (d' ∷ y) a b p.2 q.2 p.4 q.4 tails in
    let highs : p.2 ≡ q.2 = rest.1 in
    let list : (d ∷ x) ≡ (d' ∷ y) = rest.0 in
    let value : m + c ≡ 255 + 128 * p.2 = p.3 in
    let value' : n + c' ≡ 255 + 128 * q.2 = q.3 in
    (cc, omega arith)

-- the sign is seen from the last byte
signs_apart : (x y a b : List ℕ) (m n : ℕ) → IsLeb 64 x m → IsNegative y n → x ++ a ≡ y ++ b → ⊥
signs_apart [] y a b m n p q e = p
signs_apart (c ∷ []) [] a b m n p q e = q
signs_apart (c ∷ d ∷ x) [] a b m n p q e = q
signs_apart (c ∷ []) (c' ∷ []) a b m n p q e =
    let heads : c ≡ c' = cc in
    let small : c < 64 = p.0 in
    let large : 64 ≤ c' = q.0 in
    omega arith
signs_apart (c ∷ []) (c' ∷ d' ∷ y) a b m n p q e =
    let heads : c ≡ c' = cc in
    let small : c < 64 = p.0 in
    let large : 128 ≤ c' = q.0 in
    omega arith
signs_apart (c ∷ d ∷ x) (c' ∷ []) a b m n p q e =
    let heads : c ≡ c' = cc in
    let small : c' < 128 = q.1 in
    let large : 128 ≤ c = p.0 in
    omega arith
signs_apart (c ∷ d ∷ x) (c' ∷ d' ∷ y) a b m n p q e =
    let tails : (d ∷ x) ++ a ≡ (d' ∷ y) ++ b = cc in
    signs_apart (d ∷ x) (d' ∷ y) a b p.2 q.2 p.4 q.4 tails

pub signed_unique : (bits : ℕ) (z w : ℤ) (x y a b : List ℕ) → IsSigned bits x z → IsSigned bits y w → x ++ a ≡ y ++ b → (x ≡ y) × (z ≡ w)
signed_unique bits (pos m) (pos n) x y a b p q e =
    let same : (x ≡ y) × (m ≡ n) = leb_unique 64 (omega arith) x y a b m n p.spelled q.spelled e in
    (same.0, ap pos same.1)
signed_unique bits (pos m) (negsuc n) x y a b p q e = absurd (signs_apart x y a b m n p.spelled q.spelled e)
signed_unique bits (negsuc m) (pos n) x y a b p q e = absurd (signs_apart y x b a n m q.spelled p.spelled (sym e))
signed_unique bits (negsuc m) (negsuc n) x y a b p q e =
    let same : (x ≡ y) × (m ≡ n) = negative_unique x y a b m n p.spelled q.spelled e in
    (same.0, ap negsuc same.1)

-- it takes a byte at least
pub signed_fills : (bits : ℕ) (z : ℤ) (x : List ℕ) → IsSigned bits x z → x ≡ [] → ⊥
signed_fills bits (pos n) x p e = leb_fills 64 x n p.spelled e
signed_fills bits (negsuc n) [] p e = p.spelled
signed_fills bits (negsuc n) (b ∷ x) p e = cc

-- and begins with one
pub signed_front : (bits : ℕ) (z : ℤ) (x : List ℕ) (b : ℕ) (r : List ℕ) → IsSigned bits x z → x ≡ b ∷ r → b < 256
signed_front bits (pos n) x b r p e = elim (leb_front 64 x n b r p.spelled e) [ inl h ↦ omega arith | inr h ↦ omega arith ]
signed_front bits (negsuc n) [] b r p e = absurd p.spelled
signed_front bits (negsuc n) (c ∷ []) b r p e =
    let head : c ≡ b = cc in
    let small : c < 128 = p.spelled.1 in
    omega arith
signed_front bits (negsuc n) (c ∷ d ∷ x) b r p e =
    let head : c ≡ b = cc in
    let small : c < 256 = p.spelled.1 in
    omega arith
