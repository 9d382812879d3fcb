-- A number with sign at the front of some bytes, byte by byte.
use Rattle.std.proofs.Common.{◌≡◌, ℕ, ℤ, pos, negsuc, suc, ◌+◌, ◌-◌, ◌*◌, ◌/◌, ◌%◌, ◌^◌, ◌<◌, ◌≤◌, List, [], ◌∷◌, length, refl, sym, ap, ◌∙◌, subst, arith, ◌⊎◌, inl, inr, pow_mono, pow-add, nat_lt, ltb-true, ltb-false, Bool, true, false, if◌then◌else◌}
use Rattle.std.proofs.Math.Nat.{add-mul, mul_assoc, mul_left_comm}
use Rattle.std.proofs.lemmas.Nat.{mul-le}
use Rattle.wasm_leb.specs.Leb.{IsNegative, one_byte_signed}
use Rattle.wasm_leb.specs.Place.{BeginsSigned, BeginsNoSigned}
use Rattle.wasm_leb.proofs.Numbers.{leb_more}
use Rattle.wasm_leb.proofs.Shifts.{next_sum, next_low, power_more, low_room}

negative_more : (b n high : ℕ) (x : List ℕ) → 128 ≤ b → b < 256 → n + b ≡ 255 + 128 * high → IsNegative x high → IsNegative (b ∷ x) n
negative_more b n high [] low small e p = absurd p
negative_more b n high (c ∷ x) low small e p = (low, small, high, e, p)

-- what stands behind a byte has room for 128 times less
half_more : (bits : ℕ) → 7 < bits → 2 ^ (bits - 1) ≡ 128 * 2 ^ (bits - 7 - 1)
half_more bits h =
    let split : 2 ^ (7 + (bits - 7 - 1)) ≡ 2 ^ 7 * 2 ^ (bits - 7 - 1) = pow-add 2 7 (bits - 7 - 1) in
    let same : 7 + (bits - 7 - 1) ≡ bits - 1 = omega arith in
    ap (λ (k : ℕ). 2 ^ k) (sym same) ∙ split

-- ---- a byte more

more_positive : (bits b high : ℕ) (bytes xs left : List ℕ) → bytes ≡ b ∷ xs → 7 < bits → 128 ≤ b → b < 256 →
    BeginsSigned (bits - 7) xs (pos high) left → BeginsSigned bits bytes (pos (b - 128 + 128 * high)) left
more_positive bits b high bytes xs left here wide low small p =
    let short : length p.0 ≤ (bits - 7 + 6) / 7 = p.1.short in
    let fits : high < 2 ^ (bits - 7 - 1) = p.1.fits in
    let power : 2 ^ (bits - 1) ≡ 128 * 2 ^ (bits - 7 - 1) = half_more bits wide in (
      b ∷ p.0,
      record {
        spelled = leb_more 64 b _ high p.0 low small (omega arith) p.1.spelled;
        short = omega arith;
        fits = omega arith;
      },
      here ∙ ap (λ (z : List ℕ). b ∷ z) p.2,
    )

more_negative : (bits b n high : ℕ) (bytes xs left : List ℕ) → bytes ≡ b ∷ xs → 7 < bits → 128 ≤ b → b < 256 → n + b ≡ 255 + 128 * high →
    BeginsSigned (bits - 7) xs (negsuc high) left → BeginsSigned bits bytes (negsuc n) left
more_negative bits b n high bytes xs left here wide low small e p =
    let short : length p.0 ≤ (bits - 7 + 6) / 7 = p.1.short in
    let fits : high < 2 ^ (bits - 7 - 1) = p.1.fits in
    let power : 2 ^ (bits - 1) ≡ 128 * 2 ^ (bits - 7 - 1) = half_more bits wide in (
      b ∷ p.0,
      record {
        spelled = negative_more b n high p.0 low small e p.1.spelled;
        short = omega arith;
        fits = omega arith;
      },
      here ∙ ap (λ (z : List ℕ). b ∷ z) p.2,
    )

-- ---- none

pub none_at_end : (bits : ℕ) → BeginsNoSigned bits []
none_at_end bits [] rest (pos n) u e = u.spelled
none_at_end bits [] rest (negsuc n) u e = u.spelled
none_at_end bits (c ∷ text) rest z u e = cc

none_more : (bits b : ℕ) (xs : List ℕ) → 128 ≤ b → (bits ≤ 7) ⊎ ((7 < bits) × BeginsNoSigned (bits - 7) xs) → BeginsNoSigned bits (b ∷ xs)
none_more bits b xs low h [] rest (pos n) u e = u.spelled
none_more bits b xs low h [] rest (negsuc n) u e = u.spelled
none_more bits b xs low h (c ∷ []) rest (pos n) u e =
    let heads : b ≡ c = cc in
    let small : c < 64 = u.spelled.0 in
    omega arith
none_more bits b xs low h (c ∷ []) rest (negsuc n) u e =
    let heads : b ≡ c = cc in
    let small : c < 128 = u.spelled.1 in
    omega arith
none_more bits b xs low (inl few) (c ∷ d ∷ text) rest (pos n) u e =
    let short : suc (suc (length text)) ≤ (bits + 6) / 7 = u.short in
    omega arith
none_more bits b xs low (inl few) (c ∷ d ∷ text) rest (negsuc n) u e =
    let short : suc (suc (length text)) ≤ (bits + 6) / 7 = u.short in
    omega arith
none_more bits b xs low (inr h) (c ∷ d ∷ text) rest (pos n) u e =
    let value : n + 128 ≡ c + 128 * u.spelled.2 = u.spelled.3 in
    let short : suc (suc (length text)) ≤ (bits + 6) / 7 = u.short in
    let wide : 7 < bits = h.0 in
    let small : c < 256 = u.spelled.1 in
    let fits : n < 2 ^ (bits - 1) = u.fits in
    let power : 2 ^ (bits - 1) ≡ 128 * 2 ^ (bits - 7 - 1) = half_more bits wide in
    h.1 (d ∷ text) rest (pos u.spelled.2) (record { spelled = u.spelled.4; short = omega arith; fits = omega arith }) cc
none_more bits b xs low (inr h) (c ∷ d ∷ text) rest (negsuc n) u e =
    let value : n + c ≡ 255 + 128 * u.spelled.2 = u.spelled.3 in
    let short : suc (suc (length text)) ≤ (bits + 6) / 7 = u.short in
    let wide : 7 < bits = h.0 in
    let small : c < 256 = u.spelled.1 in
    let fits : n < 2 ^ (bits - 1) = u.fits in
    let power : 2 ^ (bits - 1) ≡ 128 * 2 ^ (bits - 7 - 1) = half_more bits wide in
    h.1 (d ∷ text) rest (negsuc u.spelled.2) (record { spelled = u.spelled.4; short = omega arith; fits = omega arith }) cc

-- the last byte does not fit
none_last_positive : (bits b : ℕ) (xs : List ℕ) → b < 64 → 2 ^ (bits - 1) ≤ b → BeginsNoSigned bits (b ∷ xs)
none_last_positive bits b xs small wide [] rest (pos n) u e = u.spelled
none_last_positive bits b xs small wide [] rest (negsuc n) u e = u.spelled
none_last_positive bits b xs small wide (c ∷ []) rest (pos n) u e =
    let heads : b ≡ c = cc in
    let value : n ≡ c = u.spelled.1 in
    let fits : n < 2 ^ (bits - 1) = u.fits in
    omega arith
none_last_positive bits b xs small wide (c ∷ []) rest (negsuc n) u e =
    let heads : b ≡ c = cc in
    let large : 64 ≤ c = u.spelled.0 in
    omega arith
none_last_positive bits b xs small wide (c ∷ d ∷ text) rest (pos n) u e =
    let heads : b ≡ c = cc in
    omega (arith, u.spelled.0)
none_last_positive bits b xs small wide (c ∷ d ∷ text) rest (negsuc n) u e =
    let heads : b ≡ c = cc in
    omega (arith, u.spelled.0)

none_last_negative : (bits b : ℕ) (xs : List ℕ) → 64 ≤ b → b < 128 → 2 ^ (bits - 1) ≤ 127 - b → BeginsNoSigned bits (b ∷ xs)
none_last_negative bits b xs low small wide [] rest (pos n) u e = u.spelled
none_last_negative bits b xs low small wide [] rest (negsuc n) u e = u.spelled
none_last_negative bits b xs low small wide (c ∷ []) rest (pos n) u e =
    let heads : b ≡ c = cc in
    let below : c < 64 = u.spelled.0 in
    omega arith
none_last_negative bits b xs low small wide (c ∷ []) rest (negsuc n) u e =
    let heads : b ≡ c = cc in
    let value : n + c ≡ 127 = u.spelled.2 in
    let fits : n < 2 ^ (bits - 1) = u.fits in
    omega arith
none_last_negative bits b xs low small wide (c ∷ d ∷ text) rest (pos n) u e =
    let heads : b ≡ c = cc in
    omega (arith, u.spelled.0)
none_last_negative bits b xs low small wide (c ∷ d ∷ text) rest (negsuc n) u e =
    let heads : b ≡ c = cc in
    omega (arith, u.spelled.0)

none_here : (bits : ℕ) (bytes ys : List ℕ) → bytes ≡ ys → BeginsNoSigned bits ys → BeginsNoSigned bits bytes
none_here bits bytes ys here none text left z u e = none text left z u (sym here ∙ e)

-- ---- some bytes are read, and these are left

-- The sum is that of the low bits read. What the rest begins with tells what all begin with.
pub record SignedSo (bits : ℕ) (bytes : List ℕ) (shift sum : ℕ) (rest : List ℕ) : Type 0 where
  pub wide : shift < bits
  pub low : sum < 2 ^ shift
  pub positive : (high : ℕ) (left : List ℕ) → BeginsSigned (bits - shift) rest (pos high) left → BeginsSigned bits bytes (pos (sum + high * 2 ^ shift)) left
  pub negative : (high n : ℕ) (left : List ℕ) → n + sum + 1 ≡ (high + 1) * 2 ^ shift →
      BeginsSigned (bits - shift) rest (negsuc high) left → BeginsSigned bits bytes (negsuc n) left
  pub none : BeginsNoSigned (bits - shift) rest → BeginsNoSigned bits bytes

at_value : (bits : ℕ) (bytes left : List ℕ) (m n : ℕ) → m ≡ n → BeginsSigned bits bytes (pos m) left → BeginsSigned bits bytes (pos n) left
at_value bits bytes left m n e p = subst (λ (k : ℕ). BeginsSigned bits bytes (pos k) left) e p

at_negative : (bits : ℕ) (bytes left : List ℕ) (m n : ℕ) → m ≡ n → BeginsSigned bits bytes (negsuc m) left → BeginsSigned bits bytes (negsuc n) left
at_negative bits bytes left m n e p = subst (λ (k : ℕ). BeginsSigned bits bytes (negsuc k) left) e p

at_bits : (k bits : ℕ) (bytes left : List ℕ) (z : ℤ) → k ≡ bits → BeginsSigned k bytes z left → BeginsSigned bits bytes z left
at_bits k bits bytes left z e p = subst (λ (n : ℕ). BeginsSigned n bytes z left) e p

none_at_bits : (k bits : ℕ) (bytes : List ℕ) → k ≡ bits → BeginsNoSigned k bytes → BeginsNoSigned bits bytes
none_at_bits k bits bytes e p = subst (λ (n : ℕ). BeginsNoSigned n bytes) e p

pub signed_start : (bits : ℕ) (bytes : List ℕ) → 0 < bits → SignedSo bits bytes 0 0 bytes
signed_start bits bytes some = record {
  wide = some;
  low = omega arith;
  positive = λ high left p. at_value bits bytes left high _ (omega arith) (at_bits (bits - 0) bits bytes left (pos high) (omega arith) p);
  negative = λ high n left e p. at_negative bits bytes left high n (omega arith) (at_bits (bits - 0) bits bytes left (negsuc high) (omega arith) p);
  none = λ p. none_at_bits (bits - 0) bits bytes (omega arith) p;
}

-- n + sum + c * p + 1 is (high + 1) * 128 * p
next_negative : (n sum c high p : ℕ) → c < 128 → n + (sum + c * p) + 1 ≡ (high + 1) * (128 * p) →
    n + sum + 1 ≡ (127 - c + 128 * high + 1) * p
next_negative n sum c high p small e =
    let k = 127 - c + 128 * high + 1 in
    let a : (k + c) * p ≡ k * p + c * p = add-mul k c p in
    let same : k + c ≡ 128 * (high + 1) = omega arith in
    let b : 128 * (high + 1) * p ≡ 128 * ((high + 1) * p) = mul_assoc 128 (high + 1) p in
    let d : (high + 1) * (128 * p) ≡ 128 * ((high + 1) * p) = mul_left_comm (high + 1) 128 p in
    let f : (k + c) * p ≡ 128 * (high + 1) * p = ap (λ (z : ℕ). z * p) same in
    omega arith

pub signed_next : {bits shift sum b : ℕ} {bytes rest xs : List ℕ} → SignedSo bits bytes shift sum rest → rest ≡ b ∷ xs → 128 ≤ b → b < 256 → 7 < bits - shift →
    SignedSo bits bytes (shift + 7) (sum + (b - 128) * 2 ^ shift) xs
signed_next {bits = bits} {shift = shift} {sum = sum} {b = b} {bytes = bytes} {rest = rest} {xs = xs} s here low small wide =
    let power : 2 ^ (shift + 7) ≡ 128 * 2 ^ shift = power_more shift in
    let fewer : bits - (shift + 7) ≡ bits - shift - 7 = omega arith in
    record {
      wide = omega arith;
      low = let below : sum < 2 ^ shift = s.low in let l = next_low sum (b - 128) (2 ^ shift) below (omega arith) in omega arith;
      positive = λ high left p.
          let front = more_positive (bits - shift) b high rest xs left here wide low small (at_bits _ (bits - shift - 7) xs left (pos high) fewer p) in
          let e = next_sum sum (b - 128) high (2 ^ shift) in
          at_value bits bytes left _ _ (e ∙ ap (λ (z : ℕ). sum + (b - 128) * 2 ^ shift + high * z) (sym power)) (s.positive (b - 128 + 128 * high) left front);
      negative = λ high n left e p.
          let e' : n + (sum + (b - 128) * 2 ^ shift) + 1 ≡ (high + 1) * (128 * 2 ^ shift) = e ∙ ap (λ (z : ℕ). (high + 1) * z) power in
          let size = 127 - (b - 128) + 128 * high in
          let front = more_negative (bits - shift) b size high rest xs left here wide low small (omega arith) (at_bits _ (bits - shift - 7) xs left (negsuc high) fewer p) in
          s.negative size n left (next_negative n sum (b - 128) high (2 ^ shift) (omega arith) e') front;
      none = λ p. s.none (none_here (bits - shift) rest (b ∷ xs) here
          (none_more (bits - shift) b xs low (inr (wide, none_at_bits _ (bits - shift - 7) xs fewer p))));
    }

pub signed_more : {bits shift sum b c : ℕ} {bytes rest xs : List ℕ} → SignedSo bits bytes shift sum rest → bits ≤ 64 → rest ≡ b ∷ xs → 128 ≤ b → b < 256 → 7 < bits - shift →
    c ≡ b - 128 → SignedSo bits bytes (shift + 7) (sum + c * 2 ^ shift % 2 ^ 64) xs
signed_more {bits = bits} {shift = shift} {sum = sum} {b = b} {c = c} {bytes = bytes} {xs = xs} s most here low small wide same =
    let room = low_room bits shift sum b c s.low most wide small same in
    subst (λ (k : ℕ). SignedSo bits bytes (shift + 7) k xs) (sym room.1) (signed_next s here low small wide)

-- ---- the exits

pub signed_ends : {bits shift sum : ℕ} {bytes rest : List ℕ} → SignedSo bits bytes shift sum rest → rest ≡ [] → BeginsNoSigned bits bytes
signed_ends {bits = bits} {shift = shift} {rest = rest} s here = s.none (none_here (bits - shift) rest [] here (none_at_end (bits - shift)))

pub signed_long : {bits shift sum b : ℕ} {bytes rest xs : List ℕ} → SignedSo bits bytes shift sum rest → rest ≡ b ∷ xs → 128 ≤ b → bits - shift ≤ 7 →
    BeginsNoSigned bits bytes
signed_long {bits = bits} {shift = shift} {b = b} {rest = rest} {xs = xs} s here low few =
    s.none (none_here (bits - shift) rest (b ∷ xs) here (none_more (bits - shift) b xs low (inl few)))

pub signed_unfit : {bits shift sum b : ℕ} {bytes rest xs : List ℕ} → SignedSo bits bytes shift sum rest → rest ≡ b ∷ xs → b < 64 → (b < 2 ^ (bits - shift - 1) → ⊥) →
    BeginsNoSigned bits bytes
signed_unfit {bits = bits} {shift = shift} {b = b} {rest = rest} {xs = xs} s here small unfit =
    s.none (none_here (bits - shift) rest (b ∷ xs) here (none_last_positive (bits - shift) b xs small (omega arith)))

pub signed_unfit_negative : {bits shift sum b : ℕ} {bytes rest xs : List ℕ} → SignedSo bits bytes shift sum rest → rest ≡ b ∷ xs → 64 ≤ b → b < 128 →
    (127 - b < 2 ^ (bits - shift - 1) → ⊥) → BeginsNoSigned bits bytes
signed_unfit_negative {bits = bits} {shift = shift} {b = b} {rest = rest} {xs = xs} s here low small unfit =
    s.none (none_here (bits - shift) rest (b ∷ xs) here (none_last_negative (bits - shift) b xs low small (omega arith)))

-- the last part stands below the bits that are left
pub last_room : (bits shift b : ℕ) → shift < bits → bits ≤ 64 → b < 2 ^ (bits - shift - 1) → ((b + 1) * 2 ^ shift ≤ 2 ^ (bits - 1)) × (2 ^ (bits - 1) ≤ 2 ^ 63)
last_room bits shift b wide most fits =
    let split : 2 ^ (bits - shift - 1 + shift) ≡ 2 ^ (bits - shift - 1) * 2 ^ shift = pow-add 2 (bits - shift - 1) shift in
    let same : bits - shift - 1 + shift ≡ bits - 1 = omega arith in
    let split' : 2 ^ (bits - 1) ≡ 2 ^ (bits - shift - 1) * 2 ^ shift = ap (λ (k : ℕ). 2 ^ k) (sym same) ∙ split in
    let le : (b + 1) * 2 ^ shift ≤ 2 ^ (bits - shift - 1) * 2 ^ shift = mul-le (b + 1) (2 ^ shift) (2 ^ (bits - shift - 1)) (2 ^ shift) (omega arith) (omega arith) in
    let few : bits - 1 ≤ 63 = omega arith in
    (omega arith, pow_mono few)

pub signed_last : {bits shift sum b c : ℕ} {bytes rest xs : List ℕ} → SignedSo bits bytes shift sum rest → bits ≤ 64 → rest ≡ b ∷ xs → b < 64 →
    b < 2 ^ (bits - shift - 1) → c ≡ b →
    (sum + c * 2 ^ shift % 2 ^ 64 < 2 ^ 63) × BeginsSigned bits bytes (pos (sum + c * 2 ^ shift % 2 ^ 64)) xs
signed_last {bits = bits} {shift = shift} {sum = sum} {b = b} {c = c} {bytes = bytes} {rest = rest} {xs = xs} s most here small fits same =
    let room = last_room bits shift b s.wide most fits in
    let below : sum < 2 ^ shift = s.low in
    let split : (b + 1) * 2 ^ shift ≡ b * 2 ^ shift + 1 * 2 ^ shift = add-mul b 1 (2 ^ shift) in
    let same' : c * 2 ^ shift ≡ b * 2 ^ shift = ap (λ (k : ℕ). k * 2 ^ shift) same in
    let front : BeginsSigned (bits - shift) rest (pos b) xs =
    (b ∷ [], record { spelled = (small, refl); short = omega (arith, s.wide); fits = fits }, here) in
    (omega (arith, room.0, room.1), at_value bits bytes xs _ _ (omega (arith, room.0, room.1)) (s.positive b xs front))

pub signed_last_negative : {bits shift sum b c : ℕ} {bytes rest xs : List ℕ} → SignedSo bits bytes shift sum rest → bits ≤ 64 → rest ≡ b ∷ xs → 64 ≤ b → b < 128 →
    127 - b < 2 ^ (bits - shift - 1) → c ≡ 128 - b →
    (sum + 1 ≤ c * 2 ^ shift % 2 ^ 64) × (c * 2 ^ shift % 2 ^ 64 ≤ 2 ^ 63) × BeginsSigned bits bytes (negsuc (c * 2 ^ shift % 2 ^ 64 - 1 - sum)) xs
signed_last_negative {bits = bits} {shift = shift} {sum = sum} {b = b} {c = c} {bytes = bytes} {rest = rest} {xs = xs} s most here low small fits same =
    let room = last_room bits shift (127 - b) s.wide most fits in
    let below : sum < 2 ^ shift = s.low in
    let same' : c * 2 ^ shift ≡ (127 - b + 1) * 2 ^ shift = ap (λ (k : ℕ). k * 2 ^ shift) (same ∙ omega arith) in
    let split : (127 - b + 1) * 2 ^ shift ≡ (127 - b) * 2 ^ shift + 1 * 2 ^ shift = add-mul (127 - b) 1 (2 ^ shift) in
    let front : BeginsSigned (bits - shift) rest (negsuc (127 - b)) xs =
    (b ∷ [], record { spelled = (low, small, omega arith); short = omega (arith, s.wide); fits = fits }, here) in
    let whole : c * 2 ^ shift % 2 ^ 64 ≡ (127 - b + 1) * 2 ^ shift = omega (arith, room.0, room.1) in
    let enough : sum + 1 ≤ c * 2 ^ shift % 2 ^ 64 = omega arith in
    (enough, omega (arith, room.0, room.1), s.negative (127 - b) _ xs (omega arith) front)

pub six_bits : (b bits : ℕ) → b < 64 → 7 ≤ bits → b < 2 ^ (bits - 1)
six_bits b bits small h =
    let few : 6 ≤ bits - 1 = omega arith in
    let wide : 2 ^ 6 ≤ 2 ^ (bits - 1) = pow_mono few in
    omega arith

-- one byte is a number
pub signed_one : {bits b : ℕ} {z : ℤ} {bytes xs : List ℕ} → 7 ≤ bits → bytes ≡ b ∷ xs → b < 128 → z ≡ one_byte_signed b → BeginsSigned bits bytes z xs
signed_one {bits = bits} {b = b} {z = z} {bytes = bytes} {xs = xs} wide here small same =
    subst (λ (w : ℤ). BeginsSigned bits bytes w xs) (sym same) (go (nat_lt b 64) refl)
  where
    go : (t : Bool) → nat_lt b 64 ≡ t → BeginsSigned bits bytes (if t then pos b else negsuc (127 - b)) xs
    go true e =
        let low : b < 64 = ltb-true b 64 e in
        (b ∷ [], record { spelled = (low, refl); short = omega arith; fits = six_bits b bits low wide }, here)
    go false e =
        let high : 64 ≤ b = ltb-false b 64 e in
        (b ∷ [], record { spelled = (high, small, omega arith); short = omega arith; fits = six_bits (127 - b) bits (omega arith) wide }, here)
