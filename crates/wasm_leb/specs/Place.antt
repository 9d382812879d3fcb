-- Numbers at the front of some bytes.
use Rattle.std.specs.Prelude.{◌≡◌, ℕ, ℤ, List, ◌++◌}
use Rattle.wasm_leb.specs.Leb.{IsNumber, IsSigned}

-- the bytes begin with a spelling of the number, and these are left behind it
abbrev pub BeginsNumber : ℕ → ℕ → ℕ → List ℕ → ℕ → List ℕ → Type 0
BeginsNumber limit bits size bytes n left = (text : List ℕ) × IsNumber limit bits size text n × (bytes ≡ text ++ left)

-- they begin with no such spelling
abbrev pub BeginsNoNumber : ℕ → ℕ → ℕ → List ℕ → Type 0
BeginsNoNumber limit bits size bytes = (text left : List ℕ) (n : ℕ) → IsNumber limit bits size text n → bytes ≡ text ++ left → ⊥

-- the same of numbers with sign
abbrev pub BeginsSigned : ℕ → List ℕ → ℤ → List ℕ → Type 0
BeginsSigned bits bytes z left = (text : List ℕ) × IsSigned bits text z × (bytes ≡ text ++ left)

-- they begin with no spelling of a number with sign
abbrev pub BeginsNoSigned : ℕ → List ℕ → Type 0
BeginsNoSigned bits bytes = (text left : List ℕ) (z : ℤ) → IsSigned bits text z → bytes ≡ text ++ left → ⊥
