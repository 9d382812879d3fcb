-- What is told of a place in a file.
use Rattle.std.specs.Prelude.{◌≡◌, ◌⊎◌, ◌-◌, ◌^◌, ◌<◌, ℕ, true, List, [], ◌∷◌, ◌++◌, length, Option, None, Some, IsUtf8, codes, decimal, take}
use Rattle.std.specs.Char.{digit_value}
use Rattle.std.specs.Int.{from_le_bytes, w32}
use Rattle.std.specs.Str.Parse.{AllDigits, digits_value}
use Rattle.wasm_strip.specs.Choices.{begins}
use Rattle.wasm_reencode.specs.declared.sections.Section.{Section}
use Rattle.wasm_reencode.specs.Sections.{IsAtIn, IsHeadless, kind_name}

-- the bytes at the front of each binary, whatever its version
abbrev pub magic : List ℕ
magic = 0 ∷ 97 ∷ 115 ∷ 109 ∷ []

-- what a file without a header is said to be, and is
pub data IsKind : List ℕ → List ℕ → Type 0 where
  empty : {bytes : List ℕ} → length bytes ≡ 0 → IsKind bytes (codes "empty")
  other_version : {bytes rest : List ℕ} (a b c d : ℕ) → bytes ≡ magic ++ a ∷ b ∷ c ∷ d ∷ rest
      → IsKind bytes (codes "WebAssembly of version " ++ decimal (from_le_bytes w32 (a ∷ b ∷ c ∷ d ∷ [])))
  cut : {bytes : List ℕ} → begins magic bytes ≡ true → IsKind bytes (codes "cut short in the header")
  gzip : {bytes : List ℕ} → begins (31 ∷ 139 ∷ []) bytes ≡ true → IsKind bytes (codes "a gzip archive")
  zip : {bytes : List ℕ} → begins (codes "PK" ++ 3 ∷ 4 ∷ []) bytes ≡ true → IsKind bytes (codes "a zip archive")
  elf : {bytes : List ℕ} → begins (127 ∷ codes "ELF") bytes ≡ true → IsKind bytes (codes "an ELF file")
  ar : {bytes : List ℕ} → begins (codes "!<arch>") bytes ≡ true → IsKind bytes (codes "an ar archive")
  text : {bytes : List ℕ} → IsUtf8 bytes → IsKind bytes (codes "text")
  other : {bytes : List ℕ} → ¬ IsUtf8 bytes → IsKind bytes (codes "no WebAssembly")

-- which section it is, and where it begins
abbrev pub section_text : Option Section → List ℕ
section_text None = []
section_text (Some s) = codes ": section " ++ decimal s.number ++ codes ", " ++ kind_name s.layer s.id ++ codes ", at " ++ decimal s.start

-- what is told of a place: of a file without a header what it is, and else the section that stands there
abbrev pub IsTold : List ℕ → (place : ℕ) → List ℕ → Type 0
IsTold bytes place detail =
    (IsHeadless bytes × ((kind : List ℕ) × IsKind bytes kind × (detail ≡ codes ": " ++ kind)))
    ⊎ ((r : Option Section) × IsAtIn bytes place r × (detail ≡ section_text r))

-- a byte is a decimal digit
abbrev pub IsDigit : ℕ → Type 0
IsDigit byte = digit_value byte < 10

-- these bytes begin with no digit
abbrev pub BeginsNoDigit : List ℕ → Type 0
BeginsNoDigit [] = Unit {0}
BeginsNoDigit (x ∷ xs) = ¬ IsDigit x

-- digits say a number, of 64 bits
abbrev pub SaysNumber : List ℕ → ℕ → Type 0
SaysNumber digits n = (0 < length digits) × (digits_value 10 digits < 2 ^ 64) × (n ≡ digits_value 10 digits)

-- a line tells this place of the file of this name
pub record TellsPlace (name line : List ℕ) (place : ℕ) : Type 0 where
  pub digits : List ℕ
  pub behind : List ℕ
  pub stands : line ≡ name ++ (codes ": parse error at " ++ (digits ++ behind))
  pub are : AllDigits 10 digits
  pub past : BeginsNoDigit behind
  pub says : SaysNumber digits place

-- the place that is looked at: that which the line tells, or one behind the end where it tells none
abbrev pub IsPlaceOf : (name line : List ℕ) → ℕ → Type 0
IsPlaceOf name line place = TellsPlace name line place ⊎ (((n : ℕ) → ¬ TellsPlace name line n) × (place ≡ 2 ^ 64 - 1))

-- a line with more before its end
abbrev pub with_detail : List ℕ → List ℕ → List ℕ
with_detail line detail = take (length line - 1) line ++ detail ++ codes "\n"

-- the same, where more is said
abbrev pub with_said : List ℕ → Option (List ℕ) → List ℕ
with_said line None = line
with_said line (Some why) = with_detail line (codes ": " ++ why)
