-- The lines of sections.
use Rattle.std.specs.Prelude.{◌≡◌, ◌⊎◌, ◌^◌, ◌-◌, ℕ, false, List, [], ◌∷◌, ◌++◌, length, Option, None, Some, IfSome, codes, decimal}
use Rattle.std.specs.Fmt.{debug_str, format_spec, padded, padded_integral}
use Rattle.std.specs.List.{repeat}
use Rattle.wasm_reencode.specs.declared.sections.Section.{Section}
use Rattle.wasm_reencode.specs.Sections.{Frame, HasName, HasRows, kind_name}

-- a number that ends in this column
abbrev pub column : ℕ → ℕ → List ℕ
column width n = padded_integral (format_spec 32 3 0 width (2 ^ 64 - 1)) false [] (decimal n)

-- a text that has so many columns
abbrev pub label : ℕ → List ℕ → List ℕ
label width text = padded (format_spec 32 1 0 width (2 ^ 64 - 1)) text

-- what tells which section this is, and where
abbrev pub front_of : Section → List ℕ
front_of s = repeat s.depth (codes "  ") ++ column 4 s.number ++ codes " " ++ column 3 s.id ++ codes " " ++ label 13 (kind_name s.layer s.id) ++ codes " " ++ column 10 s.start

-- the size of its body
abbrev pub size_of : Option Frame → List ℕ
size_of None = codes "  cut short"
size_of (Some f) = codes " " ++ column 10 (length f.0.now)

-- how many rows it has, where it is a vector
abbrev pub TellsRows : Section → List ℕ → Type 0
TellsRows s text = ((n : ℕ) × HasRows s n × (text ≡ codes " " ++ column 8 n)) ⊎ (((n : ℕ) → ¬ HasRows s n) × (text ≡ []))

-- the name of a custom section in quotes, where these are told of it
abbrev pub TellsName : Section → List ℕ → Type 0
TellsName s text =
    ((name : List ℕ) × HasName s name × IfSome (debug_str name) (λ quoted. text ≡ codes "          " ++ quoted))
    ⊎ (((name : List ℕ) → ¬ HasName s name) × (text ≡ []))

-- the line of a section
pub record IsLine (s : Section) (line : List ℕ) : Type 0 where
  pub rows : List ℕ
  pub name : List ℕ
  pub tells_rows : TellsRows s rows
  pub tells_name : TellsName s name
  pub is : line ≡ front_of s ++ size_of s.frame ++ rows ++ name ++ codes "\n"

-- a line for each section, in order
pub data AreLines : List Section → List ℕ → Type 0 where
  none : AreLines [] []
  more : {s : Section} {sections : List Section} {line lines : List ℕ} → IsLine s line → AreLines sections lines → AreLines (s ∷ sections) (line ++ lines)
