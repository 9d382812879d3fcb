-- LEB128 numbers (WebAssembly Core Specification 3.0, section 5.2.2).
use Rattle.std.specs.Prelude.{◌≡◌, ℕ, zero, suc, ◌+◌, ◌-◌, ◌*◌, ◌/◌, ◌%◌, ◌^◌, ◌<◌, ◌≤◌, ℤ, pos, negsuc, List, [], ◌∷◌, length, nat_lt, if◌then◌else◌}

-- Each byte but the last has its top bit set, and the low seven bits come lowest first. The last byte is below
-- a limit: 128 for a number without sign, and 64 for a number with sign that is not negative, whose bit 6 is clear.
abbrev pub IsLeb : ℕ → List ℕ → ℕ → Type 0
IsLeb limit [] n = ⊥
IsLeb limit (b ∷ []) n = (b < limit) × (n ≡ b)
IsLeb limit (b ∷ c ∷ bs) n =
    (128 ≤ b) × (b < 256) × (high : ℕ) × (n + 128 ≡ b + 128 * high) × IsLeb limit (c ∷ bs) high

-- The same of a negative number -(n + 1), in two's complement: each byte holds the low seven bits of n inverted,
-- and the last byte has bit 6 set.
abbrev pub IsNegative : List ℕ → ℕ → Type 0
IsNegative [] n = ⊥
IsNegative (b ∷ []) n = (64 ≤ b) × (b < 128) × (n + b ≡ 127)
IsNegative (b ∷ c ∷ bs) n =
    (128 ≤ b) × (b < 256) × (high : ℕ) × (n + b ≡ 255 + 128 * high) × IsNegative (c ∷ bs) high

-- the most bytes that a number of so many bits takes
abbrev pub most_bytes : ℕ → ℕ
most_bytes bits = (bits + 6) / 7

-- a spelling whose last byte is below a limit, no longer than so many bits take, of a number below a power of two
pub record IsNumber (limit bits size : ℕ) (bytes : List ℕ) (n : ℕ) : Type 0 where
  pub spelled : IsLeb limit bytes n
  pub short : length bytes ≤ most_bytes bits
  pub fits : n < 2 ^ size

-- a spelling of -(n + 1), no longer than so many bits take, where n is below a power of two
pub record IsNegativeNumber (bits size : ℕ) (bytes : List ℕ) (n : ℕ) : Type 0 where
  pub spelled : IsNegative bytes n
  pub short : length bytes ≤ most_bytes bits
  pub fits : n < 2 ^ size

-- a number of so many bits without sign
abbrev pub IsUnsigned : ℕ → List ℕ → ℕ → Type 0
IsUnsigned bits bytes n = IsNumber 128 bits bits bytes n

-- an index as a number of 33 bits with sign that is not negative
abbrev pub IsSignedIndex : List ℕ → ℕ → Type 0
IsSignedIndex bytes n = IsNumber 64 33 32 bytes n

-- a number of so many bits with sign
abbrev pub IsSigned : ℕ → List ℕ → ℤ → Type 0
IsSigned bits bytes (pos n) = IsNumber 64 bits (bits - 1) bytes n
IsSigned bits bytes (negsuc n) = IsNegativeNumber bits (bits - 1) bytes n

-- the shortest spelling, in at most one byte more than `more`
unfoldable pub shortest : ℕ → ℕ → ℕ → List ℕ
shortest zero limit n = n ∷ []
shortest (suc more) limit n =
    if nat_lt n limit then n ∷ [] else ((n % 128 + 128) ∷ shortest more limit (n / 128))

-- the shortest spelling of a number of up to 64 bits without sign
abbrev pub leb : ℕ → List ℕ
leb n = shortest 9 128 n

-- the shortest spelling of an index as a number with sign
abbrev pub signed_leb : ℕ → List ℕ
signed_leb n = shortest 9 64 n

-- the low seven bits of a byte inverted, and of each byte
abbrev pub inverted_byte : ℕ → ℕ
inverted_byte b = if nat_lt b 128 then 127 - b else 383 - b

abbrev pub inverted : List ℕ → List ℕ
inverted [] = []
inverted (b ∷ bs) = inverted_byte b ∷ inverted bs

-- the shortest spelling of a number of up to 64 bits with sign
abbrev pub shortest_signed : ℤ → List ℕ
shortest_signed (pos n) = shortest 9 64 n
shortest_signed (negsuc n) = inverted (shortest 9 64 n)

-- the number with sign that one byte below 128 spells
abbrev pub one_byte_signed : ℕ → ℤ
one_byte_signed b = if nat_lt b 64 then pos b else negsuc (127 - b)

-- the magnitude of a number of so many bits with sign
abbrev pub FitsBits : ℕ → ℤ → Type 0
FitsBits bits (pos n) = n < 2 ^ (bits - 1)
FitsBits bits (negsuc n) = n < 2 ^ (bits - 1)
