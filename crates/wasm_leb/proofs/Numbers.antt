-- A number of so many bits is one byte, or a byte and a number of seven bits fewer.
use Rattle.std.proofs.Common.{◌≡◌, ℕ, suc, ◌+◌, ◌-◌, ◌*◌, ◌/◌, ◌%◌, ◌^◌, ◌<◌, ◌≤◌, List, [], ◌∷◌, length, refl, sym, ap, ◌∙◌, arith, ◌⊎◌, inl, inr, pow_mono, pow-add, subst}
use Rattle.std.proofs.Math.Nat.{add-mul}
use Rattle.std.proofs.lemmas.Nat.{mul-le}
use Rattle.wasm_leb.specs.Leb.{IsLeb, IsNumber}
use Rattle.wasm_leb.specs.Place.{BeginsNumber, BeginsNoNumber}
use Rattle.wasm_leb.proofs.Shifts.{next_sum, next_low, power_more, low_room}

-- a shift by fewer than seven bits loses none
pub shifted : (bits : ℕ) → bits < 7 → 1 * 2 ^ bits % 256 ≡ 2 ^ bits
shifted bits h =
    let few : bits ≤ 7 = omega arith in
    let small : 2 ^ bits ≤ 2 ^ 7 = pow_mono few in
    omega arith

pub seven_more : (bits : ℕ) → 7 < bits → 2 ^ bits ≡ 128 * 2 ^ (bits - 7)
seven_more bits h =
    let split : 2 ^ (7 + (bits - 7)) ≡ 2 ^ 7 * 2 ^ (bits - 7) = pow-add 2 7 (bits - 7) in
    let same : 7 + (bits - 7) ≡ bits = omega arith in
    ap (λ (k : ℕ). 2 ^ k) (sym same) ∙ split

pub leb_more : (limit b n high : ℕ) (x : List ℕ) → 128 ≤ b → b < 256 → n + 128 ≡ b + 128 * high → IsLeb limit x high → IsLeb limit (b ∷ x) n
leb_more limit b n high [] low small e p = absurd p
leb_more limit b n high (c ∷ x) low small e p = (low, small, high, e, p)

module _ (limit bits : ℕ) (capped : limit ≤ 128) where
  pub one_byte : (b : ℕ) → 0 < bits → (b < limit) × (b < 2 ^ bits) → IsNumber limit bits bits (b ∷ []) b
  one_byte b some h = record { spelled = (h.0, refl); short = omega arith; fits = h.1 }

  pub more_bytes : (b high : ℕ) (text : List ℕ) → 7 < bits → 128 ≤ b → b < 256 → IsNumber limit (bits - 7) (bits - 7) text high →
      IsNumber limit bits bits (b ∷ text) (b - 128 + high * 128)
  more_bytes b high text wide low small u =
      let short : length text ≤ (bits - 7 + 6) / 7 = u.short in
      let fits : high < 2 ^ (bits - 7) = u.fits in
      let power : 2 ^ bits ≡ 128 * 2 ^ (bits - 7) = seven_more bits wide in
      record { spelled = leb_more limit b _ high text low small (omega arith) u.spelled; short = omega arith; fits = omega arith }

  pub none_at_end : BeginsNoNumber limit bits bits []
  none_at_end [] rest n u e = u.spelled
  none_at_end (c ∷ text) rest n u e = cc

  pub none_of_last : (b : ℕ) (xs : List ℕ) → b < 128 → ((b < limit) × (b < 2 ^ bits) → ⊥) → BeginsNoNumber limit bits bits (b ∷ xs)
  none_of_last b xs small unfit [] rest n u e = u.spelled
  none_of_last b xs small unfit (c ∷ []) rest n u e =
      let heads : b ≡ c = cc in
      let value : n ≡ c = u.spelled.1 in
      let below : c < limit = u.spelled.0 in
      let fits : n < 2 ^ bits = u.fits in
      unfit (omega arith, omega arith)
  none_of_last b xs small unfit (c ∷ d ∷ text) rest n u e =
      let heads : b ≡ c = cc in
      omega (arith, u.spelled.0)

  pub none_of_more : (b : ℕ) (xs : List ℕ) → 128 ≤ b → (bits ≤ 7) ⊎ ((7 < bits) × BeginsNoNumber limit (bits - 7) (bits - 7) xs) →
      BeginsNoNumber limit bits bits (b ∷ xs)
  none_of_more b xs low h [] rest n u e = u.spelled
  none_of_more b xs low h (c ∷ []) rest n u e =
      let heads : b ≡ c = cc in
      let small : c < limit = u.spelled.0 in
      omega arith
  none_of_more b xs low (inl few) (c ∷ d ∷ text) rest n u e =
      let short : suc (suc (length text)) ≤ (bits + 6) / 7 = u.short in
      omega arith
  none_of_more b xs low (inr h) (c ∷ d ∷ text) rest n u e =
      let value : n + 128 ≡ c + 128 * u.spelled.2 = u.spelled.3 in
      let short : suc (suc (length text)) ≤ (bits + 6) / 7 = u.short in
      let wide : 7 < bits = h.0 in
      let small : c < 256 = u.spelled.1 in
      let fits : n < 2 ^ bits = u.fits in
      let power : 2 ^ bits ≡ 128 * 2 ^ (bits - 7) = seven_more bits wide in
      h.1 (d ∷ text) rest u.spelled.2 (record { spelled = u.spelled.4; short = omega arith; fits = omega arith }) cc

  -- The same of bytes whose first and others are known.
  pub none_here : (bytes : List ℕ) (b : ℕ) (xs : List ℕ) → bytes ≡ b ∷ xs → BeginsNoNumber limit bits bits (b ∷ xs) → BeginsNoNumber limit bits bits bytes
  none_here bytes b xs here none text left n u e = none text left n u (sym here ∙ e)

  pub begins_one : (bytes : List ℕ) (b c : ℕ) (xs : List ℕ) → bytes ≡ b ∷ xs → c ≡ b → IsNumber limit bits bits (b ∷ []) b → BeginsNumber limit bits bits bytes c xs
  begins_one bytes b c xs here same u = (b ∷ [], rw same u, here)

  pub begins_more : (bytes : List ℕ) (b c : ℕ) (xs : List ℕ) (high : ℕ) (left : List ℕ) → bytes ≡ b ∷ xs → c ≡ b →
      7 < bits → 128 ≤ b → b < 256 → BeginsNumber limit (bits - 7) (bits - 7) xs high left → BeginsNumber limit bits bits bytes (c - 128 + high * 128) left
  begins_more bytes b c xs high left here same wide low small p =
      (b ∷ p.0, rw same (more_bytes b high p.0 wide low small p.1), here ∙ ap (λ (z : List ℕ). b ∷ z) p.2)

-- ---- some bytes are read, and these are left

-- The sum is that of the low bits read. What the rest begins with tells what all begin with.
pub record NumberSo (limit bits : ℕ) (bytes : List ℕ) (shift sum : ℕ) (rest : List ℕ) : Type 0 where
  pub wide : shift < bits
  pub low : sum < 2 ^ shift
  pub some : (high : ℕ) (left : List ℕ) → BeginsNumber limit (bits - shift) (bits - shift) rest high left →
      BeginsNumber limit bits bits bytes (sum + high * 2 ^ shift) left
  pub none : BeginsNoNumber limit (bits - shift) (bits - shift) rest → BeginsNoNumber limit bits bits bytes

at_value : (limit bits : ℕ) (bytes left : List ℕ) (m n : ℕ) → m ≡ n → BeginsNumber limit bits bits bytes m left → BeginsNumber limit bits bits bytes n left
at_value limit bits bytes left m n e p = subst (λ (k : ℕ). BeginsNumber limit bits bits bytes k left) e p

at_bits : (limit k bits : ℕ) (bytes left : List ℕ) (n : ℕ) → k ≡ bits → BeginsNumber limit k k bytes n left → BeginsNumber limit bits bits bytes n left
at_bits limit k bits bytes left n e p = subst (λ (j : ℕ). BeginsNumber limit j j bytes n left) e p

none_at_bits : (limit k bits : ℕ) (bytes : List ℕ) → k ≡ bits → BeginsNoNumber limit k k bytes → BeginsNoNumber limit bits bits bytes
none_at_bits limit k bits bytes e p = subst (λ (j : ℕ). BeginsNoNumber limit j j bytes) e p

pub number_start : (limit bits : ℕ) (bytes : List ℕ) → 0 < bits → NumberSo limit bits bytes 0 0 bytes
number_start limit bits bytes some = record {
  wide = some;
  low = omega arith;
  some = λ high left p. at_value limit bits bytes left high _ (omega arith) (at_bits limit (bits - 0) bits bytes left high (omega arith) p);
  none = λ p. none_at_bits limit (bits - 0) bits bytes (omega arith) p;
}

pub number_more : {limit bits shift sum b c : ℕ} {bytes rest xs : List ℕ} → limit ≤ 128 → NumberSo limit bits bytes shift sum rest → bits ≤ 64 →
    rest ≡ b ∷ xs → 128 ≤ b → b < 256 → 7 < bits - shift → c ≡ b - 128 → NumberSo limit bits bytes (shift + 7) (sum + c * 2 ^ shift % 2 ^ 64) xs
number_more {limit = limit} {bits = bits} {shift = shift} {sum = sum} {b = b} {c = c} {bytes = bytes} {rest = rest} {xs = xs} capped s most here low small wide same =
    let room = low_room bits shift sum b c s.low most wide small same in
    let power : 2 ^ (shift + 7) ≡ 128 * 2 ^ shift = power_more shift in
    let fewer : bits - (shift + 7) ≡ bits - shift - 7 = omega arith in
    let next : NumberSo limit bits bytes (shift + 7) (sum + (b - 128) * 2 ^ shift) xs = record {
      wide = omega arith;
      low = let below : sum < 2 ^ shift = s.low in let l = next_low sum (b - 128) (2 ^ shift) below (omega arith) in omega arith;
      some = λ high left p.
          let front = begins_more limit (bits - shift) capped rest b b xs high left here refl wide low small (at_bits limit _ (bits - shift - 7) xs left high fewer p) in
          let turned : b - 128 + high * 128 ≡ b - 128 + 128 * high = omega arith in
          let e = next_sum sum (b - 128) high (2 ^ shift) in
          at_value limit bits bytes left _ _ (e ∙ ap (λ (z : ℕ). sum + (b - 128) * 2 ^ shift + high * z) (sym power))
          (s.some (b - 128 + 128 * high) left (at_value limit (bits - shift) rest left _ _ turned front));
      none = λ p. s.none (none_here limit (bits - shift) capped rest b xs here
          (none_of_more limit (bits - shift) capped b xs low (inr (wide, none_at_bits limit _ (bits - shift - 7) xs fewer p))));
    } in
    subst (λ (k : ℕ). NumberSo limit bits bytes (shift + 7) k xs) (sym room.1) next

-- ---- the exits

pub number_ends : {limit bits shift sum : ℕ} {bytes rest : List ℕ} → limit ≤ 128 → NumberSo limit bits bytes shift sum rest → rest ≡ [] → BeginsNoNumber limit bits bits bytes
number_ends {limit = limit} {bits = bits} {shift = shift} {rest = rest} capped s here =
    s.none (subst (λ (z : List ℕ). BeginsNoNumber limit (bits - shift) (bits - shift) z) (sym here) (none_at_end limit (bits - shift) capped))

pub number_long : {limit bits shift sum b : ℕ} {bytes rest xs : List ℕ} → limit ≤ 128 → NumberSo limit bits bytes shift sum rest → rest ≡ b ∷ xs → 128 ≤ b →
    bits - shift ≤ 7 → BeginsNoNumber limit bits bits bytes
number_long {limit = limit} {bits = bits} {shift = shift} {b = b} {rest = rest} {xs = xs} capped s here low few =
    s.none (none_here limit (bits - shift) capped rest b xs here (none_of_more limit (bits - shift) capped b xs low (inl few)))

pub number_unfit : {limit bits shift sum b : ℕ} {bytes rest xs : List ℕ} → limit ≤ 128 → NumberSo limit bits bytes shift sum rest → rest ≡ b ∷ xs → b < 128 →
    ((b < limit) × (b < 2 ^ (bits - shift)) → ⊥) → BeginsNoNumber limit bits bits bytes
number_unfit {limit = limit} {bits = bits} {shift = shift} {b = b} {rest = rest} {xs = xs} capped s here small unfit =
    s.none (none_here limit (bits - shift) capped rest b xs here (none_of_last limit (bits - shift) capped b xs small unfit))

pub number_last : {limit bits shift sum b c : ℕ} {bytes rest xs : List ℕ} → limit ≤ 128 → NumberSo limit bits bytes shift sum rest → bits ≤ 64 → rest ≡ b ∷ xs →
    (b < limit) × (b < 2 ^ (bits - shift)) → c ≡ b →
    (sum + c * 2 ^ shift % 2 ^ 64 < 2 ^ 64) × BeginsNumber limit bits bits bytes (sum + c * 2 ^ shift % 2 ^ 64) xs
number_last {limit = limit} {bits = bits} {shift = shift} {sum = sum} {b = b} {c = c} {bytes = bytes} {rest = rest} {xs = xs} capped s most here fits same =
    let wide : shift < bits = s.wide in
    let below : sum < 2 ^ shift = s.low in
    let power : 2 ^ (bits - shift + shift) ≡ 2 ^ (bits - shift) * 2 ^ shift = pow-add 2 (bits - shift) shift in
    let whole : bits - shift + shift ≡ bits = omega arith in
    let power' : 2 ^ bits ≡ 2 ^ (bits - shift) * 2 ^ shift = ap (λ (k : ℕ). 2 ^ k) (sym whole) ∙ power in
    let le : (b + 1) * 2 ^ shift ≤ 2 ^ (bits - shift) * 2 ^ shift = mul-le (b + 1) (2 ^ shift) (2 ^ (bits - shift)) (2 ^ shift) (omega (arith, fits.1)) (omega arith) in
    let room : 2 ^ bits ≤ 2 ^ 64 = pow_mono most in
    let split : (b + 1) * 2 ^ shift ≡ b * 2 ^ shift + 1 * 2 ^ shift = add-mul b 1 (2 ^ shift) in
    let same' : c * 2 ^ shift ≡ b * 2 ^ shift = ap (λ (k : ℕ). k * 2 ^ shift) same in
    let front : BeginsNumber limit (bits - shift) (bits - shift) rest b xs = (b ∷ [], one_byte limit (bits - shift) capped b (omega arith) fits, here) in
    (omega arith, at_value limit bits bytes xs _ _ (omega arith) (s.some b xs front))

-- 33 bits take no more bytes than 32
pub signed_begins : {bytes left : List ℕ} {n : ℕ} → BeginsNumber 64 32 32 bytes n left → BeginsNumber 64 33 32 bytes n left
signed_begins p = (p.0, record { spelled = p.1.spelled; short = p.1.short; fits = p.1.fits }, p.2)

pub signed_none : {bytes : List ℕ} → BeginsNoNumber 64 32 32 bytes → BeginsNoNumber 64 33 32 bytes
signed_none none text left n u e = none text left n (record { spelled = u.spelled; short = u.short; fits = u.fits }) e

pub seven_bits : (b limit bits : ℕ) → limit ≤ 128 → b < limit → 7 ≤ bits → b < 2 ^ bits
seven_bits b limit bits capped small h = let wide : 2 ^ 7 ≤ 2 ^ bits = pow_mono h in omega arith

-- one byte is a number
pub number_one : {limit bits size b c : ℕ} {bytes xs : List ℕ} → limit ≤ 128 → 0 < bits → 7 ≤ size → bytes ≡ b ∷ xs → b < limit → c ≡ b →
    BeginsNumber limit bits size bytes c xs
number_one {limit = limit} {bits = bits} {size = size} {b = b} {c = c} {bytes = bytes} {xs = xs} capped some wide here small same =
    (b ∷ [], record { spelled = (small, same); short = omega arith; fits = let f = seven_bits b limit size capped small wide in omega arith }, here)
