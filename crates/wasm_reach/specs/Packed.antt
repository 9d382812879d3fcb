-- Numbers by the bytes that spell them, one behind another.
use Rattle.std.specs.Prelude.{◌≡◌, ℕ, ◌+◌, ◌-◌, ◌*◌, List, [], ◌∷◌, ◌++◌, nat_lt, if◌then◌else◌}
use Rattle.wasm_leb.specs.Leb.{IsLeb}

-- seven low bits in front of the first number
abbrev pub with_low : ℕ → List ℕ → List ℕ
with_low low [] = []
with_low low (high ∷ others) = (low + 128 * high) ∷ others

-- the numbers that the bytes spell
abbrev pub numbers : List ℕ → List ℕ
numbers [] = []
numbers (b ∷ bytes) = if nat_lt b 128 then b ∷ numbers bytes else with_low (b - 128) (numbers bytes)

-- they spell these numbers and end with the last
abbrev pub ArePacked : List ℕ → List ℕ → Type 0
ArePacked bytes [] = bytes ≡ []
ArePacked bytes (n ∷ others) = (text rest : List ℕ) × (bytes ≡ text ++ rest) × IsLeb 128 text n × ArePacked rest others
