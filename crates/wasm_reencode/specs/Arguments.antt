-- What a command and its arguments ask for.
use Rattle.std.specs.Prelude.{◌≡◌, ℕ, ◌-◌, ◌^◌, ◌<◌, ◌||◌, List, [], Option, Some, None, codes, option_map, unwrap_or, map, if◌then◌else◌, Bool, true, false, IfNone, IfSome}
use Rattle.std.specs.Str.Parse.{IsNumeral, digits_value, without_leading_plus}
use Rattle.clap.specs.declared.parser.matches.Found.{Found}
use Rattle.clap.specs.Matches.{first_value, matched_of, one_text, raw_values, subcommand_name_of}
use Rattle.clap.specs.Simple.{subcommand_rows}
use Rattle.clap.specs.Walk.{rows_of}
use Rattle.clap.specs.declared.parser.matches.ArgMatches.{ArgMatches}
use Rattle.clap.specs.declared.parser.matches.ArgMatches.TheViews.{out-ArgMatches}
use Rattle.wasm_reencode.specs.declared.words.Asked.{Asked}
use Rattle.wasm_reencode.specs.declared.words.Custom.{Custom}
use Rattle.wasm_strip.specs.declared.choice.Choice.{Choice}
use Rattle.reencode_run.specs.Words.{Command, command_seen, is_word, plain, rename, twice, renumber, prune, merge, keep_report}

-- the text of an argument, or nothing
abbrev pub argument : Found → List ℕ → List ℕ
argument found id = unwrap_or (first_value found id) []

-- the texts of an argument that may stand more than once
abbrev pub texts : Found → List ℕ → List (List ℕ)
texts found id = unwrap_or (option_map raw_values (matched_of found id)) []

-- a renaming by the first file, or by both
abbrev pub renaming : (strict : Bool) → List ℕ → Option (List ℕ) → Command
renaming strict first None = rename strict first
renaming strict first (Some second) = twice strict first second

-- what a command of this name asks for by its arguments; renamings are strict where that is asked for, and the file of a module has at most so many
-- bytes
abbrev pub named : ℕ → (strict : Bool) → List ℕ → Found → Option Command
named most strict name found =
    if is_word name (codes "plain") then Some plain
    else if is_word name (codes "rename") then Some (renaming strict (argument found (codes "map")) (first_value found (codes "then")))
    else if is_word name (codes "renumber") then Some (renumber (argument found (codes "order")))
    else if is_word name (codes "prune") then Some prune
    else if is_word name (codes "merge") then Some (merge most (argument found (codes "second")))
    else if is_word name (codes "strip") then Some plain
    else if is_word name (codes "kept") then Some keep_report
    else None

-- the name of a command
abbrev pub is_command : List ℕ → Bool
is_command name = is_word name (codes "plain") || is_word name (codes "rename") || is_word name (codes "renumber")
    || is_word name (codes "prune") || is_word name (codes "merge") || is_word name (codes "strip") || is_word name (codes "kept")

-- the number that a text says in decimal digits, behind a plus or none
abbrev pub number_of : List ℕ → ℕ
number_of t = digits_value 10 (without_leading_plus t)

-- a text that says a number of 32 bits
abbrev pub IsNumber : List ℕ → Type 0
IsNumber t = IsNumeral 10 (without_leading_plus t) × (number_of t < 2 ^ 32)

-- the number that an argument says, and the greatest where it stands nowhere or says none
pub record IsMost (found : Found) (id : List ℕ) (n : ℕ) : Type 0 where
  pub absent : one_text found id ≡ None → n ≡ 2 ^ 32 - 1
  pub number : (t : List ℕ) → one_text found id ≡ Some t → IsNumber t → n ≡ number_of t
  pub other : (t : List ℕ) → one_text found id ≡ Some t → ¬ (IsNumber t) → n ≡ 2 ^ 32 - 1

-- a flag is set, or not, as the words have it
pub record IsFlag (found : Found) (id : List ℕ) (flag : Bool) : Type 0 where
  pub none : one_text found id ≡ None → flag ≡ false
  pub set : one_text found id ≡ Some (codes "true") → flag ≡ true
  pub unset : one_text found id ≡ Some (codes "false") → flag ≡ false

-- what is asked for by a command of this name with these arguments
pub record AsksBy (name : List ℕ) (found : Found) (a : Asked) : Type 0 where
  pub strict : Bool
  pub is_strict : IsFlag found (codes "strict") strict
  pub command : (most : ℕ) → named most strict name found ≡ Some (command_seen most a.request.command)
  pub input : a.request.input.now ≡ argument found (codes "input")
  pub output : a.request.output.now ≡ argument found (codes "output")
  pub most : IsMost found (codes "max-input") a.request.most
  pub ceiling : IsMost found (codes "max-frame") a.request.ceiling
  pub counts : IsFlag found (codes "counts") a.counts
  pub quiet : IsFlag found (codes "quiet") a.quiet
  pub force : IsFlag found (codes "force") a.force
  pub ignores_malformed : a.ignores_malformed ≡ is_word (argument found (codes "names")) (codes "ignore-malformed")
  pub sorts_names : a.sorts_names ≡ is_word (argument found (codes "names")) (codes "sort")
  pub kept : option_map (λ name. name.now) a.kept ≡ first_value found (codes "kept")

-- what is asked for by the command that the words name, and by its arguments
pub record IsAsked (m : ArgMatches) (a : Asked) : Type 0 where
  pub name : List ℕ
  pub found : Found
  pub named : subcommand_name_of m ≡ Some name
  pub arguments : option_map (λ p. p.1) (subcommand_rows (out-ArgMatches m).subcommand) ≡ Some (rows_of found)
  pub asks : AsksBy name found a

-- no command stands there
abbrev pub NamesNone : ArgMatches → Type 0
NamesNone m = (name : List ℕ) → subcommand_name_of m ≡ Some name → is_command name ≡ false

-- the words of a command that makes a binary tell that sections are removed
abbrev pub drops : Found → Bool
drops found = is_word (argument found (codes "stale")) (codes "drop") || is_word (argument found (codes "names")) (codes "drop")

-- which sections these words tell to remove, of which there are some
pub record Drops (found : Found) (c : Choice) : Type 0 where
  pub some : drops found ≡ true
  pub stale : c.stale ≡ is_word (argument found (codes "stale")) (codes "drop")
  pub names : c.names ≡ is_word (argument found (codes "names")) (codes "drop")
  pub malformed : c.malformed ≡ false
  pub debug : c.debug ≡ false
  pub all : c.all ≡ false
  pub sections : c.sections.now ≡ []

-- which sections the words of the command that strips tell to remove
pub record Strips (found : Found) (c : Choice) : Type 0 where
  pub names : IsFlag found (codes "names") c.names
  pub malformed : c.malformed ≡ false
  pub debug : IsFlag found (codes "debug") c.debug
  pub stale : IsFlag found (codes "stale") c.stale
  pub all : IsFlag found (codes "all") c.all
  pub sections : map (λ name. name.now) c.sections.now ≡ texts found (codes "section")

-- what a command of this name does with custom sections
pub record IsCustom (name : List ℕ) (found : Found) (c : Custom) : Type 0 where
  pub stripped : is_word name (codes "strip") ≡ true → (choice : Choice) × (c.removed ≡ Some choice) × Strips found choice
  pub told : is_word name (codes "strip") ≡ true → c.refuses ≡ false
  pub removed : is_word name (codes "strip") ≡ false → IfSome c.removed (Drops found)
  pub kept : is_word name (codes "strip") ≡ false → IfNone c.removed (drops found ≡ false)
  pub refuses : is_word name (codes "strip") ≡ false → c.refuses ≡ is_word (argument found (codes "stale")) (codes "refuse")
