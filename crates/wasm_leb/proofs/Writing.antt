-- The shortest spelling, byte by byte.
use Rattle.std.proofs.Common.{◌≡◌, ℕ, zero, suc, ◌+◌, ◌-◌, ◌/◌, ◌%◌, ◌<◌, ◌≤◌, List, [], ◌∷◌, ◌++◌, length, take, set, refl, sym, ap, ◌∙◌, arith, append_assoc, le-ltb, lt-ltb, ◌^◌}
use Rattle.std.proofs.lemmas.List.{take_more_set}
use Rattle.wasm_leb.specs.Leb.{shortest, leb, inverted, inverted_byte}
use Rattle.wasm_leb.proofs.Shortest.{held, inverted_high}

pub shortest_last : (more limit n : ℕ) → n < limit → shortest more limit n ≡ n ∷ []
unfolding shortest
shortest_last zero limit n h = refl
shortest_last (suc more) limit n h = rw (lt-ltb n limit h) refl

pub shortest_step : (more limit n : ℕ) → limit ≤ n → n < held more limit →
    (fewer : ℕ) × (more ≡ suc fewer) × (n / 128 < held fewer limit) × (shortest more limit n ≡ (n % 128 + 128) ∷ shortest fewer limit (n / 128))
unfolding shortest
shortest_step zero limit n h bound = absurd (omega arith)
shortest_step (suc more) limit n h bound = (more, refl, omega arith, rw (le-ltb n limit h) refl)

-- ten bytes hold any number
pub room_for : (limit n : ℕ) → 64 ≤ limit → n < 2 ^ 64 → n < held 9 limit
room_for limit n low fits = omega arith

-- one byte more is written
pub one_more : (text : List ℕ) (len b : ℕ) (rest all : List ℕ) → len < length text → take len text ++ (b ∷ rest) ≡ all →
    take (len + 1) (set text len b) ++ rest ≡ all
one_more text len b rest all h e = rw (take_more_set text len b h) (append_assoc (take len text) (b ∷ []) rest ∙ e)

pub one_more_inverted : (text : List ℕ) (len b limit rest fewer : ℕ) (all : List ℕ) → 64 ≤ rest → b ≡ 255 - rest % 128 → len < length text →
    take len text ++ inverted ((rest % 128 + 128) ∷ shortest fewer limit (rest / 128)) ≡ all →
    take (len + 1) (set text len b) ++ inverted (shortest fewer limit (rest / 128)) ≡ all
one_more_inverted text len b limit rest fewer all low same h e =
    let first : inverted_byte (rest % 128 + 128) ≡ b = inverted_high (rest % 128 + 128) (omega arith) ∙ omega arith in
    one_more text len b (inverted (shortest fewer limit (rest / 128))) all h
    (ap (λ (z : ℕ). take len text ++ (z ∷ inverted (shortest fewer limit (rest / 128)))) (sym first) ∙ e)

-- ---- how long it is

long_more : (more n : ℕ) → 128 ≤ n → length (shortest (suc more) 128 n) ≡ suc (length (shortest more 128 (n / 128)))
unfolding shortest
long_more more n h = rw (le-ltb n 128 h) refl

long_one : (more n : ℕ) → n < 128 → length (shortest more 128 n) ≡ 1
long_one more n h = rw (shortest_last more 128 n h) refl

pub long_1 : (n : ℕ) → n < 2 ^ 7 → 1 ≡ length (leb n)
long_1 n h = sym (long_one 9 n (omega arith))

long_2' : (more n : ℕ) → 2 ^ 7 ≤ n → n < 2 ^ 14 → length (shortest (suc more) 128 n) ≡ 2
long_2' more n low h = long_more more n (omega arith) ∙ ap suc (long_one more (n / 128) (omega arith))

long_3' : (more n : ℕ) → 2 ^ 14 ≤ n → n < 2 ^ 21 → length (shortest (suc (suc more)) 128 n) ≡ 3
long_3' more n low h = long_more (suc more) n (omega arith) ∙ ap suc (long_2' more (n / 128) (omega arith) (omega arith))

long_4' : (more n : ℕ) → 2 ^ 21 ≤ n → n < 2 ^ 28 → length (shortest (suc (suc (suc more))) 128 n) ≡ 4
long_4' more n low h = long_more (suc (suc more)) n (omega arith) ∙ ap suc (long_3' more (n / 128) (omega arith) (omega arith))

pub long_2 : (n : ℕ) → 2 ^ 7 ≤ n → n < 2 ^ 14 → 2 ≡ length (leb n)
long_2 n low h = sym (long_2' 8 n low h)

pub long_3 : (n : ℕ) → 2 ^ 14 ≤ n → n < 2 ^ 21 → 3 ≡ length (leb n)
long_3 n low h = sym (long_3' 7 n low h)

pub long_4 : (n : ℕ) → 2 ^ 21 ≤ n → n < 2 ^ 28 → 4 ≡ length (leb n)
long_4 n low h = sym (long_4' 6 n low h)

pub long_5 : (n : ℕ) → 2 ^ 28 ≤ n → n < 2 ^ 35 → 5 ≡ length (leb n)
long_5 n low h = sym (long_more 8 n (omega arith) ∙ ap suc (long_4' 5 (n / 128) (omega arith) (omega arith)))
