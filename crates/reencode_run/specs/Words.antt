-- What the words of the command line ask for.
use Rattle.std.specs.Prelude.{ℕ, ◌-◌, ◌^◌, ◌&&◌, nat_eq, nat_le, Bool, true, false, codes, List, [], ◌∷◌, Option, Some, None, option_map, option_and_then, if◌then◌else◌}
use Rattle.std.specs.Cmp.Lexicographic.{pointwise}
use Rattle.reencode_run.specs.declared.words.Command as of_command
use Rattle.reencode_run.specs.declared.words.Command.TheVariants as said
use Rattle.reencode_run.specs.declared.words.Job as of_job
use Rattle.reencode_run.specs.declared.words.Notation.{Notation}
use Rattle.reencode_run.specs.declared.words.Notation.TheVariants.{Hexadecimal}
use Rattle.reencode_run.specs.Numerals.{index_of}

-- what is to be done; renamings are strict where that is asked for, and the file of a merge has at most so many bytes
pub data Command : Type 0 where
  plain : Command
  rename : (strict : Bool) → List ℕ → Command
  twice : (strict : Bool) → List ℕ → List ℕ → Command
  generate : ℕ → Command
  keep_report : Command
  renumber : List ℕ → Command
  prune : Command
  merge : ℕ → List ℕ → Command

-- whether the input is hexadecimal text, how the output is written, the most bytes that a frame of it may have, those that the input may have, and
-- what is to be done
pub record Job : Type 0 where
  pub is_text : Bool
  pub notation : Notation
  pub ceiling : ℕ
  pub most : ℕ
  pub command : Command

-- what a file of a command is to say: a renaming, an order, or a module of at most so many bytes
pub data Kind : Type 0 where
  of_renaming : Kind
  of_order : Kind
  of_module : ℕ → Kind

-- What a command is: what its files are to say, these files in order, and how many functions it makes a module of, where it reads no source.
pub record Form : Type 0 where
  pub says : Kind
  pub files : List (List ℕ)
  pub functions : Option ℕ

abbrev pub form : Command → Form
form plain = record { says = of_renaming; files = []; functions = None }
form (rename strict name) = record { says = of_renaming; files = name ∷ []; functions = None }
form (twice strict first second) = record { says = of_renaming; files = first ∷ second ∷ []; functions = None }
form (generate n) = record { says = of_renaming; files = []; functions = Some n }
form keep_report = record { says = of_renaming; files = []; functions = None }
form (renumber name) = record { says = of_order; files = name ∷ []; functions = None }
form prune = record { says = of_renaming; files = []; functions = None }
form (merge most name) = record { says = of_module most; files = name ∷ []; functions = None }

-- what its files are to say
abbrev pub says : Command → Kind
says command = (form command).says

-- the files that it names, in order
abbrev pub files : Command → List (List ℕ)
files command = (form command).files

-- how many functions it makes a module of, where it makes one
abbrev pub functions : Command → Option ℕ
functions command = (form command).functions

-- the most bytes that the program takes of an input, or of the file of a module
abbrev pub most_bytes : ℕ
most_bytes = 67108864

abbrev pub is_word : List ℕ → List ℕ → Bool
is_word word text = pointwise nat_eq word text

-- whether `-x` stands in front, and the words without it
abbrev pub without_flag : List (List ℕ) → Bool × List (List ℕ)
without_flag [] = (false, [])
without_flag (w ∷ ws) = if is_word w (codes "-x") then (true, ws) else (false, w ∷ ws)

abbrev with_rest : List (List ℕ) → Option ℕ → Option (ℕ × List (List ℕ))
with_rest ws ceiling = option_map (λ c. (c, ws)) ceiling

-- the ceiling that stands in front, or the greatest, and the words without it
abbrev pub without_ceiling : List (List ℕ) → Option (ℕ × List (List ℕ))
without_ceiling (w ∷ c ∷ ws) = if is_word w (codes "-m") then with_rest ws (index_of c) else Some (2 ^ 32 - 1, w ∷ c ∷ ws)
without_ceiling ws = Some (2 ^ 32 - 1, ws)

abbrev pub short_command : List ℕ → Option Command
short_command w =
    if is_word w (codes "plain") then Some plain
    else if is_word w (codes "keep-report") then Some keep_report
    else if is_word w (codes "prune") then Some prune
    else None

-- a number of functions, from 1 to 1,000,000
abbrev pub some_functions : ℕ → Option Command
some_functions n = if nat_le 1 n && nat_le n 1000000 then Some (generate n) else None

abbrev pub long_command : List ℕ → List ℕ → Option Command
long_command w a =
    if is_word w (codes "rename") then Some (rename false a)
    else if is_word w (codes "generate") then option_and_then some_functions (index_of a)
    else if is_word w (codes "renumber") then Some (renumber a)
    else if is_word w (codes "merge") then Some (merge most_bytes a)
    else None

abbrev pub longer_command : List ℕ → List ℕ → List ℕ → Option Command
longer_command w a b = if is_word w (codes "twice") then Some (twice false a b) else None

abbrev pub command : List (List ℕ) → Option Command
command (w ∷ []) = short_command w
command (w ∷ a ∷ []) = long_command w a
command (w ∷ a ∷ b ∷ []) = longer_command w a b
command _ = None

-- what all words ask for, or nothing
abbrev pub job : List (List ℕ) → Option Job
job words =
    option_and_then (λ p. option_map (λ c. record { is_text = (without_flag words).0; notation = Hexadecimal; ceiling = p.0; most = most_bytes; command = c }) (command p.1))
    (without_ceiling (without_flag words).1)

-- what is seen of a command, whose file of a module has at most so many bytes
abbrev pub command_seen : ℕ → of_command.Command → Command
command_seen most said.Plain = plain
command_seen most (said.Rename name strict) = rename strict name.now
command_seen most (said.Twice first second strict) = twice strict first.now second.now
command_seen most (said.Generate n) = generate n
command_seen most said.KeepReport = keep_report
command_seen most (said.Renumber name) = renumber name.now
command_seen most said.Prune = prune
command_seen most (said.Merge name) = merge most name.now

-- what is seen of a job
abbrev pub job_seen : of_job.Job → Job
job_seen j = record { is_text = j.is_text; notation = j.notation; ceiling = j.ceiling; most = j.most; command = command_seen j.most j.command }
