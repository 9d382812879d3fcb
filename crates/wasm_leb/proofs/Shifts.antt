-- Low bits, and those that stand behind them.
use Rattle.std.proofs.Common.{◌≡◌, ℕ, ◌+◌, ◌-◌, ◌*◌, ◌%◌, ◌^◌, ◌<◌, ◌≤◌, ap, arith, pow_mono, pow-add}
use Rattle.std.proofs.Math.Nat.{add-mul, mul_assoc, mul_left_comm}
use Rattle.std.proofs.lemmas.Nat.{mul-le}

-- a byte that is not the last adds its low bits
pub next_sum : (sum c high p : ℕ) → sum + (c + 128 * high) * p ≡ sum + c * p + high * (128 * p)
next_sum sum c high p =
    let a : (c + 128 * high) * p ≡ c * p + 128 * high * p = add-mul c (128 * high) p in
    let b : 128 * high * p ≡ 128 * (high * p) = mul_assoc 128 high p in
    let d : high * (128 * p) ≡ 128 * (high * p) = mul_left_comm high 128 p in
    omega arith

pub next_low : (sum c p : ℕ) → sum < p → c < 128 → sum + c * p < 128 * p
next_low sum c p low small =
    let a : (c + 1) * p ≤ 128 * p = mul-le (c + 1) p 128 p (omega arith) (omega arith) in
    let b : (c + 1) * p ≡ c * p + 1 * p = add-mul c 1 p in
    omega arith

pub power_more : (shift : ℕ) → 2 ^ (shift + 7) ≡ 128 * 2 ^ shift
power_more shift =
    let split : 2 ^ (shift + 7) ≡ 2 ^ shift * 2 ^ 7 = pow-add 2 shift 7 in
    omega arith

-- the same of the shift that the code makes, which loses no bit
pub low_room : (bits shift sum b c : ℕ) → sum < 2 ^ shift → bits ≤ 64 → 7 < bits - shift → b < 256 → c ≡ b - 128 →
    (sum + c * 2 ^ shift % 2 ^ 64 < 2 ^ 63) × (sum + c * 2 ^ shift % 2 ^ 64 ≡ sum + (b - 128) * 2 ^ shift)
low_room bits shift sum b c below most wide small same =
    let l = next_low sum (b - 128) (2 ^ shift) below (omega arith) in
    let power : 2 ^ (shift + 7) ≡ 128 * 2 ^ shift = power_more shift in
    let few : shift + 7 ≤ 63 = omega arith in
    let room : 2 ^ (shift + 7) ≤ 2 ^ 63 = pow_mono few in
    let same' : c * 2 ^ shift ≡ (b - 128) * 2 ^ shift = ap (λ (k : ℕ). k * 2 ^ shift) same in
    (omega arith, omega arith)
