-- What the files of a command say, and what the command then does: its task.
use Rattle.std.specs.Prelude.{◌≡◌, ℕ, List, [], ◌∷◌, length, map, Bool, true, false, Option, Some, None, option_map, Result, Ok, Err}
use Rattle.reencode_hooks.specs.Renamings.{Renaming, no_renaming}
use Rattle.reencode_run.specs.declared.answer.ReencodingFault.{ReencodingFault}
use Rattle.reencode_run.specs.declared.answer.TaskFault.{TaskFault}
use Rattle.reencode_run.specs.declared.renamers.Renamers.{Renamers}
use Rattle.reencode_run.specs.declared.renamers.Renamers.TheVariants.{Alone}
use Rattle.reencode_run.specs.declared.binary_taken.Taken.{Taken}
use Rattle.reencode_run.specs.declared.binary_taken.Taken.TheVariants.{Modules, Binaries}
use Rattle.reencode_run.specs.declared.task.Task.{Task}
use Rattle.reencode_run.specs.declared.task.Task.TheVariants as task
use Rattle.reencode_run.specs.Hexadecimal.{bytes_of}
use Rattle.reencode_run.specs.Kept.{Keeps}
use Rattle.reencode_run.specs.Orders.{IsOrderText}
use Rattle.reencode_run.specs.Plain.{IsPlain}
use Rattle.reencode_run.specs.Reencoded.{IsMakingFault, IsReencoded, IsRefused}
use Rattle.reencode_run.specs.Renamers.{AreCounts, renamers_of}
use Rattle.reencode_run.specs.Renamings.{IsRenaming}
use Rattle.reencode_run.specs.Report.{Shown, lengths_report, report}
use Rattle.reencode_run.specs.Tools.{Merges, Prunes, Renumbers}
use Rattle.reencode_run.specs.Words.{Command, plain, rename, twice, generate, keep_report, renumber, prune, merge, Kind, of_renaming, of_order, of_module, says}

-- ---- what a file says, by its kind

-- what is said
abbrev pub Saying : Kind → Type 0
Saying of_renaming = Renaming
Saying of_order = List ℕ
Saying (of_module most) = List ℕ

-- the most bytes that the file may have
abbrev pub most_of : Kind → ℕ
most_of of_renaming = 1048576
most_of of_order = 1048576
most_of (of_module most) = most

-- The text of the file says this. Every text says what may be a module: itself.
abbrev pub IsSaying : (k : Kind) → List ℕ → Saying k → Type 0
IsSaying of_renaming text r = IsRenaming text r
IsSaying of_order text order = IsOrderText text order
IsSaying (of_module most) text m = m ≡ text

-- it says nothing of its kind
abbrev pub NoSaying : Kind → List ℕ → Type 0
NoSaying k text = (c : Saying k) → IsSaying k text c → ⊥

-- what the first of some files says
abbrev pub first_said : List (List ℕ) → List ℕ
first_said [] = []
first_said (c ∷ cs) = c

-- a renaming that is strict also where that is asked for
abbrev pub strictly : Bool → Renaming → Renaming
strictly false r = r
strictly true r = record r { strict = true }

-- the task of a command whose files say this
abbrev pub task_of : (c : Command) → List (Saying (says c)) → Task
task_of plain said = task.Reencode (renamers_of said)
task_of (rename strict name) said = task.Reencode (renamers_of (map (strictly strict) said))
task_of (twice strict first second) said = task.Reencode (renamers_of (map (strictly strict) said))
task_of (generate n) said = task.Generate n
task_of keep_report said = task.KeepReport
task_of (renumber name) said = task.Renumber (first_said said)
task_of prune said = task.Prune
task_of (merge most name) said = task.Merge (first_said said)

-- the task in the form that is asked for: with `-x` the module of a file is what its text is the hexadecimal text of, or nothing
abbrev pub formed : Bool → Task → Option Task
formed is_text (task.Merge text) = option_map (λ bytes. task.Merge bytes) (bytes_of is_text text)
formed is_text t = Some t

-- ---- what a task does

-- What is made shows the output and the counts that the bytes have under these renamings and the ceiling. Where nothing is renamed, the output
-- is the normal spelling itself.
pub record Reports (k : Taken) (ceiling : ℕ) (rs : Renamers) (bytes : List ℕ) (shown : List ℕ → List (List ℕ) → Shown) (made : Shown) : Type 0 where
  pub output : List ℕ
  pub counts : List (List ℕ)
  pub reencoded : IsReencoded k ceiling rs bytes output counts
  pub plain : rs ≡ Alone no_renaming → IsPlain k bytes output counts
  pub told : made ≡ shown output counts

-- The re-encoding is refused. Where all visits are accepted and all frames fit, that is out of memory alone.
abbrev pub IsStopped : Taken → ℕ → Renamers → List ℕ → ReencodingFault → Type 0
IsStopped k ceiling rs bytes fault = IsRefused k ceiling rs bytes fault × IsMakingFault k ceiling rs bytes fault

-- what is shown of a re-encoding, or why nothing is
abbrev pub Reencodes : Taken → ℕ → Renamers → List ℕ → (List ℕ → List (List ℕ) → Shown) → Result Shown TaskFault → Type 0
Reencodes k ceiling rs bytes shown (Ok made) = Reports k ceiling rs bytes shown made
Reencodes k ceiling rs bytes shown (Err e) = (e.by ≡ None) × IsStopped k ceiling rs bytes e.fault

-- the same of one that tells what it keeps
abbrev pub TellsKept : ℕ → List ℕ → Result Shown TaskFault → Type 0
TellsKept ceiling bytes (Ok made) = (made.output ≡ None) × Keeps ceiling bytes made.lines
TellsKept ceiling bytes (Err e) = (e.by ≡ None) × IsStopped Modules ceiling (Alone no_renaming) bytes e.fault

-- What a task does with some bytes under a ceiling: what it shows, or why it shows nothing. It is the output, or in its place the lengths of a
-- made module and its output, or what is kept; and the counts. Of a tool over modules it is the output alone, and of one that
-- removes functions also which are kept.
abbrev pub Does : Task → ℕ → List ℕ → Result Shown TaskFault → Type 0
Does (task.Reencode rs) ceiling bytes result = Reencodes Binaries ceiling rs bytes report result
Does (task.Generate n) ceiling bytes result = Reencodes Modules ceiling (Alone no_renaming) bytes (lengths_report n (length bytes)) result
Does task.KeepReport ceiling bytes result = TellsKept ceiling bytes result
Does (task.Renumber order) ceiling bytes result = Renumbers order ceiling bytes result
Does task.Prune ceiling bytes result = Prunes ceiling bytes result
Does (task.Merge second) ceiling bytes result = Merges second ceiling bytes result

-- each renamer has a count of everything that is counted
abbrev pub HasCounts : Task → Type 0
HasCounts (task.Reencode rs) = AreCounts rs
HasCounts (task.Generate n) = Unit {0}
HasCounts task.KeepReport = Unit {0}
HasCounts (task.Renumber order) = Unit {0}
HasCounts task.Prune = Unit {0}
HasCounts (task.Merge second) = Unit {0}
