-- How the program ends.
use Rattle.std.specs.Prelude.{◌≡◌, ℕ, suc, zero, ◌-◌, ◌<◌, ◌≤◌, ◌==◌, ◌⊎◌, if◌then◌else◌, Bool, true, Option, Some, None, MatchOption, List, [], ◌∷◌, ◌++◌, codes, decimal, length, Result, Ok, Err}
use Rattle.reencode_run.specs.declared.answer.Answer.{Answer}
use Rattle.reencode_run.specs.declared.answer.Answer.TheVariants.{Printed, Words, File, Input, Digits, Reencoding, Writing}
use Rattle.reencode_run.specs.declared.answer.WordsFault.TheVariants as words_fault
use Rattle.reencode_run.specs.declared.answer.FileFault.{FileFault}
use Rattle.reencode_run.specs.declared.answer.FileFault.TheVariants as file_fault
use Rattle.reencode_run.specs.declared.input.InputFault.{InputFault}
use Rattle.reencode_run.specs.declared.input.InputFault.TheVariants as input_fault
use Rattle.reencode_run.specs.declared.hexadecimal.TextFault.{TextFault}
use Rattle.reencode_run.specs.declared.hexadecimal.TextFault.TheVariants as digits_fault
use Rattle.reencode_run.specs.declared.answer.ReencodingFault.{ReencodingFault}
use Rattle.reencode_run.specs.declared.answer.TaskFault.{TaskFault}
use Rattle.reencode_run.specs.declared.answer.ReencodingFault.TheVariants as reencoding_fault
use Rattle.reencode_run.specs.declared.answer.WritingFault.TheVariants as writing_fault
use Rattle.reencode_run.specs.declared.renamers.Refusal.{Refusal}
use Rattle.reencode_run.specs.declared.task.Task.{Task}
use Rattle.reencode_run.specs.Outside.{Rose, WhereTold, followed, HasText, IsLonger, GaveAll, TookMore, TookFront}
use Rattle.reencode_run.specs.Hexadecimal.{binary, bytes_of}
use Rattle.reencode_run.specs.Renamers.{refusal_text}
use Rattle.reencode_run.specs.Report.{Shown, as_binary, printed_as}
use Rattle.reencode_run.specs.Generated.{generated}
use Rattle.wasm_shapes.specs.declared.Space.{Space}
use Rattle.wasm_shapes.specs.Names.{space_name}
use Rattle.reencode_run.specs.Tasks.{Saying, Does, IsSaying, NoSaying, formed, most_of, task_of}
use Rattle.reencode_run.specs.Tools.{stop}
use Rattle.reencode_run.specs.Words.{Command, Job, Kind, files, functions, says}
use Rattle.reencode_run.specs.declared.outside.Shelf as shelves
use Rattle.reencode_run.specs.declared.outside.Source as sources
use Rattle.reencode_run.specs.declared.outside.Sink as sinks

-- what shelves tell
abbrev pub Texts : Type 0
Texts = Option (List ℕ → Option (List ℕ))

-- where the shelf, the source and the sink stood before the program and stand after it
pub record Outside : Type 0 where
  pub texts : Texts
  pub shelf_faults_old : ℕ
  pub shelf_faults_new : ℕ
  pub left_old : Option (List ℕ)
  pub left_new : Option (List ℕ)
  pub read_faults_old : ℕ
  pub read_faults_new : ℕ
  pub held_old : Option (List ℕ)
  pub held_new : Option (List ℕ)
  pub write_faults_old : ℕ
  pub write_faults_new : ℕ

-- the same of a shelf, a source and a sink
abbrev pub outside : {F S K : Type 0} → shelves.Ghosts F → sources.Ghosts S → sinks.Ghosts K → (shelf_old shelf_new : F) → (input_old input_new : S) → (out_old out_new : K) → Outside
outside f s k shelf_old shelf_new input_old input_new out_old out_new =
    record {
      texts = f.texts shelf_old;
      shelf_faults_old = f.faults shelf_old;
      shelf_faults_new = f.faults shelf_new;
      left_old = s.left input_old;
      left_new = s.left input_new;
      read_faults_old = s.faults input_old;
      read_faults_new = s.faults input_new;
      held_old = k.held out_old;
      held_new = k.held out_new;
      write_faults_old = k.faults out_old;
      write_faults_new = k.faults out_new;
    }

-- ---- what is done

-- the file of this name, which is of this kind, says this
abbrev pub FileSays : (k : Kind) → Texts → List ℕ → Saying k → Type 0
FileSays k texts name c = (text : List ℕ) × HasText texts name text × (length text ≤ most_of k) × IsSaying k text c

-- the files of these names say this, in order
abbrev pub FilesSay : (k : Kind) → Texts → List (List ℕ) → List (Saying k) → Type 0
FilesSay k texts [] [] = Unit {0}
FilesSay k texts (name ∷ names) (c ∷ cs) = FileSays k texts name c × FilesSay k texts names cs
FilesSay k texts _ _ = ⊥

-- this holds of one of these files, and all before it say what they are to say
abbrev pub AtFile : (k : Kind) → Texts → List (List ℕ) → (List ℕ → Type 0) → Type 0
AtFile k texts [] P = ⊥
AtFile k texts (name ∷ names) P = P name ⊎ (((c : Saying k) × FileSays k texts name c) × AtFile k texts names P)

-- this holds of the file at this place, and all before it say what they are to say
abbrev pub AtPlace : (k : Kind) → Texts → List (List ℕ) → ℕ → (List ℕ → Type 0) → Type 0
AtPlace k texts [] place P = ⊥
AtPlace k texts (name ∷ names) zero P = P name
AtPlace k texts (name ∷ names) (suc place) P = ((c : Saying k) × FileSays k texts name c) × AtPlace k texts names place P

-- the same of the files of a command
abbrev pub AtFileOf : Command → Texts → (List ℕ → Type 0) → Type 0
AtFileOf command texts P = AtFile (says command) texts (files command) P

-- the task of a command, by what its files say
abbrev pub Uses : Command → Texts → Task → Type 0
Uses command texts task = (said : List (Saying (says command))) × FilesSay (says command) texts (files command) said × (task ≡ task_of command said)

-- each file of a command says what it is to say
abbrev pub HasTask : Command → Texts → Type 0
HasTask command texts = (task : Task) × Uses command texts task

-- the source, of at most so many bytes, was read to its end, and these are the bytes that its text is, or is the hexadecimal text of
pub record HasBytes (most : ℕ) (is_text : Bool) (left_old left_new : Option (List ℕ)) (bytes : List ℕ) : Type 0 where
  pub text : List ℕ
  pub gave : GaveAll most left_old left_new text
  pub are : bytes_of is_text text ≡ Some bytes

-- the bytes: those of a made module of so many functions, or of the source
abbrev pub TakesFrom : Option ℕ → (most : ℕ) → Bool → (left_old left_new : Option (List ℕ)) → List ℕ → Type 0
TakesFrom None most is_text left_old left_new bytes = HasBytes most is_text left_old left_new bytes
TakesFrom (Some n) most is_text left_old left_new bytes = bytes ≡ generated n

-- the bytes of a command
abbrev pub Takes : Command → (most : ℕ) → Bool → (left_old left_new : Option (List ℕ)) → List ℕ → Type 0
Takes command most is_text left_old left_new bytes = TakesFrom (functions command) most is_text left_old left_new bytes

-- the task of a job, in the form that it asks for, and its bytes
pub record Work (job : Job) (texts : Texts) (left_old left_new : Option (List ℕ)) : Type 0 where
  pub said : Task
  pub task : Task
  pub bytes : List ℕ
  pub uses : Uses job.command texts said
  pub is_formed : formed job.is_text said ≡ Some task
  pub takes : Takes job.command job.most job.is_text left_old left_new bytes

-- This is shown for a job.
pub record Made (job : Job) (texts : Texts) (left_old left_new : Option (List ℕ)) : Type 0 where
  pub work : Work job texts left_old left_new
  pub shown : Shown
  pub does : Does work.task job.ceiling work.bytes (Ok shown)

-- what is printed of what was made, in the job's notation
abbrev pub report_of : {job : Job} {texts : Texts} {left_old left_new : Option (List ℕ)} → Made job texts left_old left_new → List ℕ
report_of {job} made = printed_as job.notation made.shown

-- the bytes of the output that was made
abbrev pub output_of : {job : Job} {texts : Texts} {left_old left_new : Option (List ℕ)} → Made job texts left_old left_new → List ℕ
output_of made = as_binary made.shown.output

-- the lines about it
abbrev pub lines_of : {job : Job} {texts : Texts} {left_old left_new : Option (List ℕ)} → Made job texts left_old left_new → List ℕ
lines_of made = made.shown.lines

abbrev pub MadeFor : Job → Outside → Type 0
MadeFor job o = Made job o.texts o.left_old o.left_new

-- ---- why nothing is printed

-- the file of this name was read whole, and says nothing of its kind
abbrev pub SaysNone : Kind → List ℕ → Texts → Type 0
SaysNone k name texts = (text : List ℕ) × HasText texts name text × (length text ≤ most_of k) × NoSaying k text

-- why the file of this name says nothing
abbrev pub RefusesFile : Kind → List ℕ → Texts → (faults_old faults_new : ℕ) → FileFault → Type 0
RefusesFile k name texts faults_old faults_new file_fault.Failed = Rose faults_old faults_new
RefusesFile k name texts faults_old faults_new file_fault.TooLong = IsLonger texts name (most_of k)
RefusesFile k name texts faults_old faults_new file_fault.Bad = SaysNone k name texts
RefusesFile k name texts faults_old faults_new file_fault.NoMemory = Unit {0}

-- why a command has no task: its file at this place says nothing, and all before it say what they are to say
abbrev pub RefusesTask : Command → Texts → (faults_old faults_new : ℕ) → FileFault → (place : ℕ) → Type 0
RefusesTask command texts faults_old faults_new fault place =
    AtPlace (says command) texts (files command) place (λ name. RefusesFile (says command) name texts faults_old faults_new fault)

-- why the source gives no text
abbrev pub RefusesInput : (most : ℕ) (faults_old faults_new : ℕ) (left_old left_new : Option (List ℕ)) → InputFault → Type 0
RefusesInput most faults_old faults_new left_old left_new input_fault.Failed = Rose faults_old faults_new
RefusesInput most faults_old faults_new left_old left_new input_fault.TooLong = TookMore most left_old left_new
RefusesInput most faults_old faults_new left_old left_new input_fault.NoMemory = Unit {0}

-- the source was read to its end, and its text is no hexadecimal text, as `-x` asks
abbrev pub NoDigits : (most : ℕ) → Bool → (left_old left_new : Option (List ℕ)) → Type 0
NoDigits most is_text left_old left_new =
    (is_text ≡ true) × ((text : List ℕ) × GaveAll most left_old left_new text × (binary text ≡ None))

-- why the text gives no bytes
abbrev pub RefusesDigits : (most : ℕ) → Bool → (left_old left_new : Option (List ℕ)) → TextFault → Type 0
RefusesDigits most is_text left_old left_new digits_fault.NotHexadecimal = NoDigits most is_text left_old left_new
RefusesDigits most is_text left_old left_new digits_fault.NoMemory = Unit {0}

-- a made module takes nothing of the source
abbrev pub IsMaking : Command → Type 0
IsMaking command = MatchOption (functions command) ⊥ (λ n. Unit {0})

-- why the source gives no bytes
abbrev pub RefusesSource : (most : ℕ) → Bool → (faults_old faults_new : ℕ) (left_old left_new : Option (List ℕ)) → Answer → Type 0
RefusesSource most is_text faults_old faults_new left_old left_new (Input fault) = RefusesInput most faults_old faults_new left_old left_new fault
RefusesSource most is_text faults_old faults_new left_old left_new (Digits fault) = RefusesDigits most is_text left_old left_new fault
RefusesSource most is_text faults_old faults_new left_old left_new _ = ⊥

-- why there are no bytes, of a made module or of the source
abbrev pub RefusesFrom : Option ℕ → (most : ℕ) → Bool → (faults_old faults_new : ℕ) (left_old left_new : Option (List ℕ)) → Answer → Type 0
RefusesFrom None most is_text faults_old faults_new left_old left_new answer = RefusesSource most is_text faults_old faults_new left_old left_new answer
RefusesFrom (Some n) most is_text faults_old faults_new left_old left_new answer = answer ≡ Input input_fault.NoMemory

-- why a command has no bytes
abbrev pub RefusesBytes : Command → (most : ℕ) → Bool → (faults_old faults_new : ℕ) (left_old left_new : Option (List ℕ)) → Answer → Type 0
RefusesBytes command most is_text faults_old faults_new left_old left_new answer =
    RefusesFrom (functions command) most is_text faults_old faults_new left_old left_new answer

-- The files and the bytes were accepted, and the task makes nothing of these.
pub record StopsAtReencoding (job : Job) (texts : Texts) (left_old left_new : Option (List ℕ)) (fault : TaskFault) : Type 0 where
  pub work : Work job texts left_old left_new
  pub stops : Does work.task job.ceiling work.bytes (Err fault)

abbrev pub StopsFor : Job → Outside → TaskFault → Type 0
StopsFor job o fault = StopsAtReencoding job o.texts o.left_old o.left_new fault

-- how a job ended, by what came of it: with all output written where something came
abbrev pub ended : {A : Type 0} → Result A Answer → Answer
ended (Ok made) = Printed
ended (Err answer) = answer

-- a fault of a file is that of the file at its place
abbrev pub IsOfFile : Command → Texts → (faults_old faults_new : ℕ) → Answer → Type 0
IsOfFile command texts faults_old faults_new (File fault place) = RefusesTask command texts faults_old faults_new fault place
IsOfFile command texts faults_old faults_new _ = Unit {0}

-- the name at a place
abbrev pub name_at : List (List ℕ) → ℕ → List ℕ
name_at [] place = []
name_at (name ∷ names) place = if place == 0 then name else name_at names (place - 1)

-- of which of two modules an end is said, by its number: the second is that in the file of the command
abbrev pub module_name : Command → (input : List ℕ) → Option ℕ → List ℕ
module_name command input None = input
module_name command input (Some n) = if n == 2 then name_at (files command) 0 else input

-- the name of the file that an end is said of
abbrev pub name_of : Command → (input output : List ℕ) → Answer → List ℕ
name_of command input output (File fault place) = name_at (files command) place
name_of command input output (Reencoding e) = module_name command input e.by
name_of command input output (Writing fault) = output
name_of command input output _ = input

-- ---- what is said where the words are accepted

-- the words ask for a job, and this holds of it
abbrev pub ForJob : Option Job → (Job → Type 0) → Type 0
ForJob None P = ⊥
ForJob (Some job) P = P job

-- the files and the bytes were accepted, and the re-encoding ends so
abbrev pub StopsWith : Option Job → Texts → (left_old left_new : Option (List ℕ)) → TaskFault → Type 0
StopsWith j texts left_old left_new fault = ForJob j (λ job. StopsAtReencoding job texts left_old left_new fault)

-- the words ask for a made module
abbrev pub MakesModule : Option Job → Type 0
MakesModule j = ForJob j (λ job. IsMaking job.command)

-- the words ask for a command that reads the source
abbrev pub ReadsSource : Option Job → Type 0
ReadsSource j = ForJob j (λ job. functions job.command ≡ None)

-- the words name no file
abbrev pub NamesNone : Option Job → Type 0
NamesNone j = ForJob j (λ job. files job.command ≡ [])

-- a file of the command was read whole, and says nothing of its kind; all before it say what they are to say
abbrev pub IsBadFile : Command → Texts → Type 0
IsBadFile command texts = AtFileOf command texts (λ name. SaysNone (says command) name texts)

-- a file of the command could not be fetched; all before it say what they are to say
abbrev pub IsUnfetched : Command → Texts → (faults_old faults_new : ℕ) → Type 0
IsUnfetched command texts faults_old faults_new = AtFileOf command texts (λ name. Rose faults_old faults_new)

-- the source could not be read; all files of the command say what they are to say
abbrev pub IsUnread : Command → Texts → (faults_old faults_new : ℕ) → Type 0
IsUnread command texts faults_old faults_new = ¬ IsMaking command × HasTask command texts × Rose faults_old faults_new

-- A file of the command is too long, and all before it say what they are to say, and this holds, which is that the source is as it was; or
-- all say it, and the input is too long.
abbrev pub IsTooLong : Command → (most : ℕ) → Texts → (left_old left_new : Option (List ℕ)) → (Unread : Type 0) → Type 0
IsTooLong command most texts left_old left_new Unread =
    (AtFileOf command texts (λ name. IsLonger texts name (most_of (says command))) × Unread)
    ⊎ (¬ IsMaking command × HasTask command texts × TookMore most left_old left_new)

-- The files were accepted, the source was read to its end, and its text, or that of a module which a file has, is no hexadecimal
-- text, as `-x` asks.
pub record HasNoDigits (job : Job) (texts : Texts) (left_old left_new : Option (List ℕ)) : Type 0 where
  pub reads : ¬ IsMaking job.command
  pub asked : job.is_text ≡ true
  pub said : Task
  pub uses : Uses job.command texts said
  pub text : List ℕ
  pub gave : GaveAll job.most left_old left_new text
  pub none : (binary text ≡ None) ⊎ (formed true said ≡ None)

-- ---- statuses and what is said with them

-- the status of what is wrong
abbrev pub fault_status : ReencodingFault → ℕ
fault_status reencoding_fault.NoMemory = 1
fault_status (reencoding_fault.ParseError at) = 5
fault_status (reencoding_fault.Refused u) = 6
fault_status reencoding_fault.CodeSectionSize = 7
fault_status reencoding_fault.NonCoreModule = 8
fault_status reencoding_fault.NonComponent = 9
fault_status (reencoding_fault.TooLarge size ceiling) = 10
fault_status (reencoding_fault.Uneven stated rows) = 15
fault_status (reencoding_fault.Repeated id) = 16
fault_status (reencoding_fault.NotAnOrder place) = 17
fault_status (reencoding_fault.Dangling space index) = 18
fault_status (reencoding_fault.Clash name) = 19
fault_status reencoding_fault.TwoStarts = 20

-- the status of an end
abbrev pub status_of : Answer → ℕ
status_of Printed = 0
status_of (Words words_fault.NoMemory) = 1
status_of (File file_fault.NoMemory place) = 1
status_of (Input input_fault.NoMemory) = 1
status_of (Digits digits_fault.NoMemory) = 1
status_of (Writing writing_fault.NoMemory) = 1
status_of (Words words_fault.NotAccepted) = 2
status_of (Input input_fault.Failed) = 3
status_of (Writing writing_fault.Failed) = 4
status_of (Reencoding e) = fault_status e.fault
status_of (File file_fault.Bad place) = 11
status_of (File file_fault.Failed place) = 12
status_of (File file_fault.TooLong place) = 13
status_of (Input input_fault.TooLong) = 13
status_of (Digits digits_fault.NotHexadecimal) = 14

-- what is said with a status, where that holds neither a number nor a name, without the line end
abbrev pub message : ℕ → List ℕ
message status =
    if status == 1 then codes "no memory"
    else if status == 2 then codes "usage: [-x] [-m CEILING] plain | rename FILE | twice FILE FILE | generate N | keep-report | renumber FILE | prune | merge FILE"
    else if status == 3 then codes "read fault"
    else if status == 4 then codes "write fault"
    else if status == 7 then codes "invalid code section size"
    else if status == 8 then codes "There was a section that does not belong in a core wasm module"
    else if status == 9 then codes "There was a section that does not belong in a component"
    else if status == 11 then codes "bad renaming"
    else if status == 12 then codes "shelf fault"
    else if status == 13 then codes "too long"
    else if status == 20 then codes "two starts"
    else codes "not hex"

-- what is wrong, in words
abbrev pub fault_text : ReencodingFault → List ℕ
fault_text (reencoding_fault.ParseError at) = codes "parse error at " ++ decimal at
fault_text (reencoding_fault.Refused u) = refusal_text u
fault_text (reencoding_fault.TooLarge size ceiling) = codes "too large: " ++ decimal size ++ codes " over " ++ decimal ceiling
fault_text (reencoding_fault.Uneven stated rows) = codes "uneven: " ++ decimal stated ++ codes " and " ++ decimal rows
fault_text (reencoding_fault.Repeated id) = codes "repeated section " ++ decimal id
fault_text (reencoding_fault.NotAnOrder place) = codes "not an order at " ++ decimal place
fault_text (reencoding_fault.Dangling space index) = codes "dangling " ++ space_name space ++ codes " " ++ decimal index
fault_text (reencoding_fault.Clash name) = codes "export clash " ++ name
fault_text fault = message (fault_status fault)

-- they are the status's message alone
abbrev pub HasFaultMessage : ReencodingFault → Type 0
HasFaultMessage (reencoding_fault.ParseError at) = ⊥
HasFaultMessage (reencoding_fault.Refused u) = ⊥
HasFaultMessage (reencoding_fault.TooLarge size ceiling) = ⊥
HasFaultMessage (reencoding_fault.Uneven stated rows) = ⊥
HasFaultMessage (reencoding_fault.Repeated id) = ⊥
HasFaultMessage (reencoding_fault.NotAnOrder place) = ⊥
HasFaultMessage (reencoding_fault.Dangling space index) = ⊥
HasFaultMessage (reencoding_fault.Clash name) = ⊥
HasFaultMessage _ = Unit {0}

-- of which input it is said: want of memory of none
abbrev pub said_by : ReencodingFault → Option ℕ → Option ℕ
said_by reencoding_fault.NoMemory by = None
said_by _ by = by

-- the same in words
abbrev pub by_text : Option ℕ → List ℕ
by_text None = []
by_text (Some n) = codes " by " ++ decimal n

-- what is said of an end, without the line end
abbrev pub text_of : Answer → List ℕ
text_of Printed = []
text_of (Reencoding e) = fault_text e.fault ++ by_text (said_by e.fault e.by)
text_of answer = message (status_of answer)

-- it is the status's message alone
abbrev pub HasMessage : Answer → Type 0
HasMessage (Reencoding e) = ⊥
HasMessage _ = Unit {0}

-- a sink took this text, or a front of it where it failed
abbrev pub Says : (faults_old faults_new : ℕ) (held_old held_new : Option (List ℕ)) → List ℕ → Type 0
Says faults_old faults_new held_old held_new text =
    WhereTold held_new (followed held_old text) ⊎ (TookFront held_old held_new text × Rose faults_old faults_new)

-- How the program ends for a job: the status, what is said, and what then holds. Unread is that the source is as it was.
pub data Ends (job : Job) (o : Outside) (Unread : Type 0) : ℕ → List ℕ → Type 0 where
  printed : (made : MadeFor job o) → WhereTold o.held_new (followed o.held_old (report_of made)) → Ends job o Unread 0 []
  no_memory : Ends job o Unread 1 (message 1)
  read_fault : IsUnread job.command o.texts o.read_faults_old o.read_faults_new → Ends job o Unread 3 (message 3)
  write_fault : (made : MadeFor job o) → TookFront o.held_old o.held_new (report_of made) → Rose o.write_faults_old o.write_faults_new
      → Ends job o Unread 4 (message 4)
  parse_error : (at : ℕ) (by : Option ℕ) → StopsFor job o (stop (reencoding_fault.ParseError at) by)
      → Ends job o Unread 5 (codes "parse error at " ++ decimal at ++ by_text by)
  refused : (u : Refusal) (by : Option ℕ) → StopsFor job o (stop (reencoding_fault.Refused u) by) → Ends job o Unread 6 (refusal_text u ++ by_text by)
  code_size : (by : Option ℕ) → StopsFor job o (stop reencoding_fault.CodeSectionSize by) → Ends job o Unread 7 (message 7 ++ by_text by)
  component : (by : Option ℕ) → StopsFor job o (stop reencoding_fault.NonCoreModule by) → Ends job o Unread 8 (message 8 ++ by_text by)
  core_module : (by : Option ℕ) → StopsFor job o (stop reencoding_fault.NonComponent by) → Ends job o Unread 9 (message 9 ++ by_text by)
  too_large : (size ceiling : ℕ) (by : Option ℕ) → StopsFor job o (stop (reencoding_fault.TooLarge size ceiling) by)
      → Ends job o Unread 10 (codes "too large: " ++ decimal size ++ codes " over " ++ decimal ceiling ++ by_text by)
  uneven : (stated rows : ℕ) (by : Option ℕ) → StopsFor job o (stop (reencoding_fault.Uneven stated rows) by)
      → Ends job o Unread 15 (codes "uneven: " ++ decimal stated ++ codes " and " ++ decimal rows ++ by_text by)
  repeated : (id : ℕ) (by : Option ℕ) → StopsFor job o (stop (reencoding_fault.Repeated id) by)
      → Ends job o Unread 16 (codes "repeated section " ++ decimal id ++ by_text by)
  not_an_order : (place : ℕ) (by : Option ℕ) → StopsFor job o (stop (reencoding_fault.NotAnOrder place) by)
      → Ends job o Unread 17 (codes "not an order at " ++ decimal place ++ by_text by)
  dangling : (space : Space) (index : ℕ) (by : Option ℕ) → StopsFor job o (stop (reencoding_fault.Dangling space index) by)
      → Ends job o Unread 18 (codes "dangling " ++ space_name space ++ codes " " ++ decimal index ++ by_text by)
  clash : (name : List ℕ) (by : Option ℕ) → StopsFor job o (stop (reencoding_fault.Clash name) by)
      → Ends job o Unread 19 (codes "export clash " ++ name ++ by_text by)
  two_starts : (by : Option ℕ) → StopsFor job o (stop reencoding_fault.TwoStarts by) → Ends job o Unread 20 (message 20 ++ by_text by)
  bad_file : IsBadFile job.command o.texts → Unread → Ends job o Unread 11 (message 11)
  unfetched : IsUnfetched job.command o.texts o.shelf_faults_old o.shelf_faults_new → Unread → Ends job o Unread 12 (message 12)
  too_long : IsTooLong job.command job.most o.texts o.left_old o.left_new Unread → Ends job o Unread 13 (message 13)
  no_digits : HasNoDigits job o.texts o.left_old o.left_new → Ends job o Unread 14 (message 14)

-- How the program ends for the words: without a job by these alone, with the source and the shelf as they were.
abbrev pub EndsFor : Option Job → Outside → (Unread Unfetched : Type 0) → ℕ → List ℕ → Type 0
EndsFor None o Unread Unfetched status text = (status ≡ 2) × (text ≡ message 2) × Unread × Unfetched
EndsFor (Some job) o Unread Unfetched status text = Ends job o Unread status text

-- ---- what decides: the words, each file, the input, its digits, the re-encoding and the output, in this order

-- Which status comes by the task and the bytes: 0, or 4 where the sink failed, where the task shows what it makes of them, and else by why it shows nothing.
abbrev pub IsDecidedByBytes : (Unwritten : Type 0) → Task → ℕ → List ℕ → ℕ → Type 0
IsDecidedByBytes Unwritten task ceiling bytes status =
    (((status ≡ 0) ⊎ ((status ≡ 4) × Unwritten)) × ((shown : Shown) × Does task ceiling bytes (Ok shown)))
    ⊎ ((fault : TaskFault) × (status ≡ fault_status fault.fault) × Does task ceiling bytes (Err fault))

-- which status comes by the form of what the files say
abbrev pub IsDecidedByTask : (Unwritten : Type 0) → Option Task → ℕ → List ℕ → ℕ → Type 0
IsDecidedByTask Unwritten None ceiling bytes status = (status ≡ 14) ⊎ (status ≡ 1)
IsDecidedByTask Unwritten (Some task) ceiling bytes status = IsDecidedByBytes Unwritten task ceiling bytes status

-- which status comes by the form of the text and the bytes that it is
abbrev pub IsDecidedByForm : (Unwritten : Type 0) → Option Task → ℕ → Option (List ℕ) → ℕ → Type 0
IsDecidedByForm Unwritten task ceiling None status = (status ≡ 14) ⊎ (status ≡ 1)
IsDecidedByForm Unwritten task ceiling (Some bytes) status = IsDecidedByTask Unwritten task ceiling bytes status

-- which status comes for an input that was read
pub record IsDecidedFor (Unwritten : Type 0) (job : Job) (task : Task) (text : List ℕ) (status : ℕ) : Type 0 where
  pub long : job.most < length text → (status ≡ 13) ⊎ (status ≡ 1)
  pub short : length text ≤ job.most → IsDecidedByForm Unwritten (formed job.is_text task) job.ceiling (bytes_of job.is_text text) status

-- which status comes for the input, where it is told: 3 where the source failed, and else by what was read
abbrev pub IsDecidedByLeft : (Unread Unwritten : Type 0) → Job → Task → Option (List ℕ) → ℕ → Type 0
IsDecidedByLeft Unread Unwritten job task None status = Unit {0}
IsDecidedByLeft Unread Unwritten job task (Some text) status = ((status ≡ 3) × Unread) ⊎ IsDecidedFor Unwritten job task text status

-- which status comes of a task, for a made module of so many functions or the input
abbrev pub IsDecidedByInput : (Unread Unwritten : Type 0) → Option ℕ → Job → Task → Option (List ℕ) → ℕ → Type 0
IsDecidedByInput Unread Unwritten None job task left status = IsDecidedByLeft Unread Unwritten job task left status
IsDecidedByInput Unread Unwritten (Some n) job task left status = IsDecidedByTask Unwritten (formed job.is_text task) job.ceiling (generated n) status

-- which status comes for the text of a file of this kind that was fetched, where that of what it says is told
pub record IsDecidedForFile (k : Kind) (text : List ℕ) (status : ℕ) (by : Saying k → Type 0) : Type 0 where
  pub long : most_of k < length text → (status ≡ 13) ⊎ (status ≡ 1)
  pub none : length text ≤ most_of k → NoSaying k text → (status ≡ 11) ⊎ (status ≡ 1)
  pub some : length text ≤ most_of k → (c : Saying k) → IsSaying k text c → by c

-- which status comes for a file, where its text is told: 12 where the shelf failed, and else by what was fetched
abbrev pub IsDecidedByFile : (Unfetched : Type 0) (k : Kind) → Option (List ℕ) → ℕ → (Saying k → Type 0) → Type 0
IsDecidedByFile Unfetched k None status by = Unit {0}
IsDecidedByFile Unfetched k (Some text) status by = ((status ≡ 12) × Unfetched) ⊎ IsDecidedForFile k text status by

-- the text of a name, where it is told
abbrev pub told_text : Texts → List ℕ → Option (List ℕ)
told_text None name = None
told_text (Some texts) name = texts name

-- which status comes for some files, where that of what they say is told
abbrev pub IsDecidedByFiles : (Unfetched : Type 0) (k : Kind) → Texts → List (List ℕ) → ℕ → (List (Saying k) → Type 0) → Type 0
IsDecidedByFiles Unfetched k texts [] status by = by []
IsDecidedByFiles Unfetched k texts (name ∷ names) status by =
    IsDecidedByFile Unfetched k (told_text texts name) status (λ c. IsDecidedByFiles Unfetched k texts names status (λ cs. by (c ∷ cs)))

-- Which status comes for a job. What stands first decides, whatever failed behind it: where a file, its shelf not having failed, says nothing of
-- its kind, it is 11, and where the input, its source not having failed either, or a module that a file has, is no hexadecimal text, it is 14;
-- or memory runs out.
abbrev pub IsDecidedByJob : (Unfetched Unread Unwritten : Type 0) → Job → Texts → Option (List ℕ) → ℕ → Type 0
IsDecidedByJob Unfetched Unread Unwritten job texts left status =
    IsDecidedByFiles Unfetched (says job.command) texts (files job.command) status
    (λ said. IsDecidedByInput Unread Unwritten (functions job.command) job (task_of job.command said) left status)

-- Which status comes for the words, where this is that the shelf failed, that the source did, and that the sink did.
abbrev pub IsDecided : (Unfetched Unread Unwritten : Type 0) → Option Job → Texts → Option (List ℕ) → ℕ → Type 0
IsDecided Unfetched Unread Unwritten None texts left status = status ≡ 2
IsDecided Unfetched Unread Unwritten (Some job) texts left status = IsDecidedByJob Unfetched Unread Unwritten job texts left status
