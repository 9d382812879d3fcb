-- What a source has left, what a sink holds and how often either failed.
use Rattle.std.specs.Prelude.{◌≡◌, ℕ, ◌^◌, ◌-◌, ◌<◌, ◌≤◌, ◌⊎◌, Option, Some, None, List, [], ◌++◌, length, take}

-- a count of faults rose, or stands at the largest number that it can show
abbrev pub Rose : ℕ → ℕ → Type 0
Rose old new = (old < new) ⊎ (new ≡ 2 ^ 64 - 1)

-- the first, where it is told, is the second
abbrev pub WhereTold : Option (List ℕ) → Option (List ℕ) → Type 0
WhereTold None expected = Unit {0}
WhereTold (Some told) expected = expected ≡ Some told

-- these bytes and then what is told to come behind them
abbrev pub before : List ℕ → Option (List ℕ) → Option (List ℕ)
before front None = None
before front (Some rest) = Some (front ++ rest)

-- what is told to be held and then these bytes
abbrev pub followed : Option (List ℕ) → List ℕ → Option (List ℕ)
followed None more = None
followed (Some held) more = Some (held ++ more)

-- a source gave these bytes and has no more; they are at most so many
pub record GaveAll (most : ℕ) (old new : Option (List ℕ)) (bytes : List ℕ) : Type 0 where
  pub gave : old ≡ before bytes new
  pub ended : WhereTold new (Some [])
  pub within : length bytes ≤ most

-- more than so many bytes were taken of a source
abbrev pub TookMore : ℕ → Option (List ℕ) → Option (List ℕ) → Type 0
TookMore most old new = (taken : List ℕ) × (most < length taken) × (old ≡ before taken new)

-- a shelf, where it is told and has the name, has this text of it
abbrev pub HasText : Option (List ℕ → Option (List ℕ)) → List ℕ → List ℕ → Type 0
HasText None name text = Unit {0}
HasText (Some texts) name text = WhereTold (texts name) (Some text)

-- a shelf, where it is told, has a text of this name with more than so many bytes
abbrev pub IsLonger : Option (List ℕ → Option (List ℕ)) → List ℕ → ℕ → Type 0
IsLonger None name most = Unit {0}
IsLonger (Some texts) name most = (text : List ℕ) × (texts name ≡ Some text) × (most < length text)

-- a sink took a front of this text
abbrev pub TookFront : Option (List ℕ) → Option (List ℕ) → List ℕ → Type 0
TookFront old new text = (n : ℕ) × WhereTold new (followed old (take n text))
