-- What the program prints.
use Rattle.std.specs.Prelude.{ℕ, suc, zero, List, [], ◌∷◌, ◌++◌, codes, decimal, length, Option, Some, None}
use Rattle.hex.specs.Hex.{encode_lower}
use Rattle.reencode_run.specs.declared.words.Notation.{Notation}
use Rattle.reencode_run.specs.declared.words.Notation.TheVariants.{Hexadecimal, Binary}

-- what a task shows: the bytes of its output, where it has one, and lines about it
pub record Shown : Type 0 where
  pub output : Option (List ℕ)
  pub lines : List ℕ

abbrev pub shown : Option (List ℕ) → List ℕ → Shown
shown output lines = record { output = output; lines = lines }

-- an output, and lines about it
abbrev pub with_output : List ℕ → List ℕ → Shown
with_output output lines = shown (Some output) lines

-- lines alone
abbrev pub lines_alone : List ℕ → Shown
lines_alone lines = shown None lines

-- an output in lower-case hexadecimal, a line end and the lines about it; or lines alone
abbrev pub as_text : Option (List ℕ) → List ℕ → List ℕ
as_text None lines = lines
as_text (Some output) lines = encode_lower output ++ codes "\n" ++ lines

-- the bytes of an output alone
abbrev pub as_binary : Option (List ℕ) → List ℕ
as_binary None = []
as_binary (Some output) = output

-- what is printed of what a task shows, in the notation that is asked for
abbrev pub printed_as : Notation → Shown → List ℕ
printed_as Hexadecimal s = as_text s.output s.lines
printed_as Binary s = as_binary s.output

-- the names of the counts, in order
abbrev pub keys : List (List ℕ)
keys =
    codes "data" ∷ codes "element" ∷ codes "function" ∷ codes "global" ∷ codes "memory" ∷ codes "table" ∷ codes "tag" ∷ codes "type"
    ∷ codes "data_count" ∷ codes "component_type" ∷ codes "component_instance" ∷ codes "component_func" ∷ codes "component"
    ∷ codes "module" ∷ codes "instance" ∷ codes "component_value" ∷ codes "section_hook" ∷ codes "push" ∷ codes "pop" ∷ []

-- a count with its name, left out where it is 0
abbrev pub part : List ℕ → ℕ → List ℕ
part key zero = []
part key (suc n) = codes " " ++ key ++ codes " " ++ decimal (suc n)

-- each count with its name
abbrev pub parts : List (List ℕ) → List ℕ → List ℕ
parts (key ∷ keys) (count ∷ counts) = part key count ++ parts keys counts
parts _ _ = []

-- the line of the counts, without its end
abbrev pub asked : List ℕ → List ℕ
asked counts = codes "asked" ++ parts keys counts

-- a line of each renaming's counts, with its end
abbrev pub asked_lines : List (List ℕ) → List ℕ
asked_lines [] = []
asked_lines (c ∷ cs) = asked c ++ codes "\n" ++ asked_lines cs

-- what stands behind a line: its end, and the lines of the counts
abbrev pub tail : List (List ℕ) → List ℕ
tail counts = codes "\n" ++ asked_lines counts

-- the output and the lines of the counts
abbrev pub report : List ℕ → List (List ℕ) → Shown
report output counts = with_output output (asked_lines counts)

-- how many functions a made module has, its length and that of the output, without the line's end
abbrev pub made_line : ℕ → ℕ → ℕ → List ℕ
made_line n input output = codes "functions " ++ decimal n ++ codes " input " ++ decimal input ++ codes " output " ++ decimal output

-- what is printed of a made module of so many functions, and of this length: that line, and the lines of the counts
abbrev pub lengths_report : (n input : ℕ) → List ℕ → List (List ℕ) → Shown
lengths_report n input output counts = lines_alone (made_line n input (length output) ++ tail counts)
