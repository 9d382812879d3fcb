-- Operators whose one immediate is a number of one or two bytes.
use Rattle.std.proofs.Common.{◌≡◌, ℕ, ◌+◌, ◌/◌, ◌%◌, ◌^◌, ◌<◌, ◌≤◌, List, [], ◌∷◌, ◌++◌, ap, ◌∙◌, append_assoc, arith, le-ltb}
use Rattle.wasm_leb.specs.Leb.{leb, shortest}
use Rattle.wasm_leb.proofs.Writing.{shortest_last}

pub one_byte : (n : ℕ) → n < 128 → leb n ≡ n ∷ []
one_byte n h = shortest_last 9 128 n h

pub two_bytes : (n : ℕ) → 128 ≤ n → n < 2 ^ 14 → leb n ≡ (n % 128 + 128) ∷ (n / 128) ∷ []
unfolding shortest
two_bytes n low high = rw (le-ltb n 128 low) (ap (λ (z : List ℕ). (n % 128 + 128) ∷ z) (shortest_last 8 128 (n / 128) (omega arith)))

-- some bytes were added one by one
pub added_two : (old : List ℕ) (a b : ℕ) → (old ++ a ∷ []) ++ b ∷ [] ≡ old ++ (a ∷ b ∷ [])
added_two old a b = append_assoc old (a ∷ []) (b ∷ [])

pub added_three : (old : List ℕ) (a b c : ℕ) → ((old ++ a ∷ []) ++ b ∷ []) ++ c ∷ [] ≡ old ++ (a ∷ b ∷ c ∷ [])
added_three old a b c = ap (λ (z : List ℕ). z ++ c ∷ []) (added_two old a b) ∙ append_assoc old (a ∷ b ∷ []) (c ∷ [])
