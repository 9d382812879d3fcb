-- The laws of numbers.
use Rattle.std.specs.Prelude.{◌≡◌, ℕ, ℤ, ◌^◌, ◌-◌, ◌<◌, ◌≤◌, List, ◌++◌, length, pos, negsuc, ◌≤ℤ◌, ◌<ℤ◌}
use Rattle.wasm_leb.specs.Leb.{IsUnsigned, IsSignedIndex, IsSigned, leb, signed_leb, shortest_signed}

-- No spelling of a number without sign begins another, and it has one value.
abbrev pub IsUnsignedUnique : Type 0
IsUnsignedUnique = (bits m n : ℕ) (x y a b : List ℕ) → IsUnsigned bits x m → IsUnsigned bits y n → x ++ a ≡ y ++ b → (x ≡ y) × (m ≡ n)

-- The same of an index as a number with sign.
abbrev pub IsIndexUnique : Type 0
IsIndexUnique = (m n : ℕ) (x y a b : List ℕ) → IsSignedIndex x m → IsSignedIndex y n → x ++ a ≡ y ++ b → (x ≡ y) × (m ≡ n)

-- The same of a number with sign.
abbrev pub IsSignedUnique : Type 0
IsSignedUnique = (bits : ℕ) (z w : ℤ) (x y a b : List ℕ) → IsSigned bits x z → IsSigned bits y w → x ++ a ≡ y ++ b → (x ≡ y) × (z ≡ w)

-- The shortest spelling of a number without sign spells it, and no spelling of it is shorter.
abbrev pub IsUnsignedShortest : ℕ → Type 0
IsUnsignedShortest bits = (n : ℕ) → n < 2 ^ bits → IsUnsigned bits (leb n) n × ((x : List ℕ) → IsUnsigned bits x n → length (leb n) ≤ length x)

-- The same of an index as a number with sign.
abbrev pub IsIndexShortest : Type 0
IsIndexShortest = (n : ℕ) → n < 2 ^ 32 → IsSignedIndex (signed_leb n) n × ((x : List ℕ) → IsSignedIndex x n → length (signed_leb n) ≤ length x)

-- The same of a number with sign.
abbrev pub IsSignedShortest : ℕ → Type 0
IsSignedShortest bits = (z : ℤ) → negsuc (2 ^ (bits - 1) - 1) ≤ℤ z → z <ℤ pos (2 ^ (bits - 1)) →
    IsSigned bits (shortest_signed z) z × ((x : List ℕ) → IsSigned bits x z → length (shortest_signed z) ≤ length x)
