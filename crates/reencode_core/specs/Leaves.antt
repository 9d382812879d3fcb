-- What an error leaves: the visits that were made, and the state after them.
use Rattle.std.specs.Prelude.{◌≡◌, ◌≢◌, ◌⊎◌, ◌<◌, List, [], ◌++◌, ℕ, length, true, Bool, None, Result, IfErr, IsTrue}
use Rattle.wasm_leb.specs.Place.{BeginsNoNumber}
use Rattle.wasm_shapes.specs.declared.SectionId.{SectionId}
use Rattle.wasm_shapes.specs.declared.Space.{Space}
use Rattle.wasm_shapes.specs.declared.Visit.{Visit}
use Rattle.wasm_shapes.specs.Drawn.{Drawn}
use Rattle.wasm_shapes.specs.Shape.{Shape}
use Rattle.wasm_shapes.specs.Tree.{Tree, visits}
use Rattle.wasm_shapes.specs.Place.{Begins, BeginsNone}
use Rattle.wasm_shapes.specs.Rows.{RowsLeft}
use Rattle.wasm_shapes.specs.Types.{rows_tree}
use Rattle.wasm_shapes.specs.Spells.{Spells}
use Rattle.wasm_shapes.specs.Module.{body, core_header, row_of, alsos, CoreReading, FaultAt, core_module, name_subsection}
use Rattle.wasm_read.specs.declared.types.Name.{Name}
use Rattle.wasm_read.specs.Names.{Due, MapStanding, NamesStanding, standing_due}
use Rattle.wasm_read.specs.Reading.{Standing, CountRead}
use Rattle.reencode_hooks.specs.declared.error.Error.{Error}
use Rattle.reencode_hooks.specs.declared.error.Error.TheVariants.{InvalidCodeSectionSize, UnexpectedNonCoreModuleSection, UnexpectedNonComponentSection, ParseError, UserError, TooLarge, NoMemory}
use Rattle.reencode_hooks.specs.Run.{Step, accepted, refused, state_after, run}
use Rattle.reencode_core.specs.Rows.{Asks, RowsBefore, locals}
use Rattle.reencode_core.specs.NameFormats.{CustomFormat, NameFormat, core_custom, core_names}
use Rattle.reencode_core.specs.Names.{AreLeft, ReadsCustomOf}
use Rattle.reencode_core.specs.Sections.{HasItem, HasRows, LeftBehind, ReadsAs}

-- What is to be read: the bytes, the trees that they are read as, and what stands in front of the place where they are at fault, with the
-- bytes from there on.
pub record Text : Type 1 where
  pub bytes : List ℕ
  pub reads : Tree → Type 0
  pub faulty : Tree → List ℕ → Type 0

-- How the visits that were made ended, by the error that came: by a refusal the last of them was refused; with `NoMemory` any of
-- them may have been the last; by any other all were accepted.
abbrev pub Ended : {S E A : Type 0} → Error E → Step S (Error E) A → S → Type 0
Ended (UserError x) step m = step ≡ refused (UserError x) m
Ended NoMemory step m = state_after step ≡ m
Ended {A = A} e step m = (a : A) × (step ≡ accepted a m)

-- How the visits that were made ended, by the error: a refusal was the last of them, and else each was accepted.
pub record EndsBy {S E : Type 0} (asked : Asks S E) (s : S) (made : List Visit) (e : Error E) (m : S) : Type 0 where
  pub by : Ended e (run asked s made) m

-- an error of the bytes: the place of a fault, the size of a code section, or a header of the other kind
abbrev pub TellsFault : {E : Type 0} → Error E → Type 0
TellsFault (ParseError _) = Unit {0}
TellsFault InvalidCodeSectionSize = Unit {0}
TellsFault UnexpectedNonCoreModuleSection = Unit {0}
TellsFault UnexpectedNonComponentSection = Unit {0}
TellsFault _ = ⊥

-- the first list is a front part of the second
pub record IsFront (front all : List Visit) : Type 0 where
  pub rest : List Visit
  pub parts : all ≡ front ++ rest

-- A front part of these visits was made; or all of them, and then others that are drawn from these bytes. With an error of the bytes
-- all were made.
abbrev pub MadeUpTo : {E : Type 0} → Error E → List Visit → List Visit → List ℕ → Type 0
MadeUpTo e made all rest = (¬ TellsFault e × IsFront made all) ⊎ ((further : List Visit) × (made ≡ all ++ further) × Drawn rest further)

-- These visits were made, and then the error came, in this state: of a reading a front part of its visits; of bytes that have none a
-- front part of the visits of what stands in front of the fault, or all of them and then some that are drawn from the bytes from there on.
pub record Leaves {S E : Type 0} (asked : Asks S E) (text : Text) (s : S) (e : Error E) (m : S) : Type 0 where
  pub made : List Visit
  pub ended : EndsBy asked s made e m
  pub drawn : Drawn text.bytes made
  pub reading : (t : Tree) → text.reads t → IsFront made (visits t)
  pub fault : ((t : Tree) → text.reads t → ⊥) → (t : Tree) (rest : List ℕ) → text.faulty t rest → MadeUpTo e made (visits t) rest

-- the same of an error; of `NoMemory` nothing is said unless the reencoder is sure
abbrev pub LeavesMade : {S E A : Type 0} → Bool → Asks S E → Text → S → S → Result A (Error E) → Type 0
LeavesMade sure asked text s m result = IfErr result (λ e. (e ≡ NoMemory → IsTrue sure) → Leaves asked text s e m)

-- a size that is too large
abbrev pub IsSize : {E : Type 0} → Error E → Type 0
IsSize (TooLarge _) = Unit {0}
IsSize _ = ⊥

-- The same of a module. Where the section hook or the closing hook adds, nothing is said of a size that is too large, which may be that
-- of a section of a hook's own.
abbrev pub LeavesCore : {S E A : Type 0} → Bool → Bool → Asks S E → Text → S → S → Result A (Error E) → Type 0
LeavesCore sure nothing asked text s m result = IfErr result (λ e. (e ≡ NoMemory → IsTrue sure) → (IsSize e → IsTrue nothing) → Leaves asked text s e m)

-- ---- rows

-- the rows that a reader has still to read
abbrev pub RowsOf : Shape → Standing → Tree → Type 0
RowsOf row reader rows = RowsLeft row reader.left reader.rest rows

-- Rows stand there one behind another, and then the next one is due and none begins, or bytes are left behind the last.
pub record RowsUpTo (row : Shape) (reader : Standing) (t : Tree) (rest : List ℕ) : Type 0 where
  pub rows : List Tree
  pub are : t ≡ rows_tree rows
  pub front : RowsBefore row reader.rest rows rest
  pub missing : ((length rows < reader.left) × BeginsNone row rest) ⊎ ((length rows ≡ reader.left) × (rest ≢ []))

-- rows that a reader still has
abbrev pub rows_in : Shape → Standing → Text
rows_in row reader = record { bytes = reader.rest; reads = RowsOf row reader; faulty = RowsUpTo row reader }

-- ---- function bodies

-- the locals that a body begins with
abbrev pub LocalsOf : List ℕ → Tree → Type 0
LocalsOf bytes t = (rest : List ℕ) × Begins locals bytes t rest

-- a function body
abbrev pub BodyOf : List ℕ → Tree → Type 0
BodyOf bytes t = Spells body bytes t

-- No locals begin there; or locals and operators stand there one behind another, and then an operator is due and none begins.
pub data BodyUpTo (bytes : List ℕ) : Tree → List ℕ → Type 0 where
  no_locals : BeginsNone locals bytes → BodyUpTo bytes Tree.nil bytes
  behind : (l : Tree) (start : List ℕ) (operators : List Tree) (rest : List ℕ) → Begins locals bytes l start → RowsBefore (Shape.op true) start operators rest →
      BeginsNone (Shape.op true) rest → rest ≢ [] → BodyUpTo bytes (Tree.pair l (rows_tree operators)) rest

-- the locals that a body begins with
abbrev pub locals_in : List ℕ → Text
locals_in bytes = record { bytes = bytes; reads = LocalsOf bytes; faulty = λ t rest. BeginsNone locals bytes × (t ≡ Tree.nil) × (rest ≡ bytes) }

-- a whole body
abbrev pub body_in : List ℕ → Text
body_in bytes = record { bytes = bytes; reads = BodyOf bytes; faulty = BodyUpTo bytes }

-- ---- sections

-- The count of the rows or the one item is due and none begins; or rows stand behind their count up to where one is missing; or bytes
-- are left behind the one item.
pub data SectionUpTo (kind : SectionId) (bytes : List ℕ) : Tree → List ℕ → Type 0 where
  uncounted : BeginsNoNumber 128 32 32 bytes → SectionUpTo kind bytes Tree.nil bytes
  rows : (reader : Standing) (t : Tree) (rest : List ℕ) → HasRows kind → CountRead bytes reader → RowsUpTo (row_of kind) reader t rest → SectionUpTo kind bytes t rest
  behind : (s : Space) (at : ℕ) (b : LeftBehind bytes at) → HasItem kind s → SectionUpTo kind bytes Tree.nil b.rest

-- the body of a section of a kind
abbrev pub section_in : SectionId → List ℕ → Text
section_in kind bytes = record { bytes = bytes; reads = ReadsAs kind bytes; faulty = SectionUpTo kind bytes }

-- ---- name sections and custom sections

-- Entries of a map stand there one behind another, and then the next one is due and none begins, or bytes are left behind the last; or
-- the count of the entries is due and none begins.
pub data EntriesUpTo (row : Shape) (map : MapStanding) : Tree → List ℕ → Type 0 where
  uncounted : map.left ≡ None → BeginsNoNumber 128 32 32 map.rest → EntriesUpTo row map Tree.nil map.rest
  entries : (count : ℕ) (start : List ℕ) (t : Tree) (rest : List ℕ) → Due map count start → RowsUpTo row (standing_due map count start) t rest → EntriesUpTo row map t rest

-- one subsection of a format
abbrev pub subsection_of : {N : Type 0} → NameFormat N → N → Text
subsection_of f n = record { bytes = f.entries n; reads = f.reads n; faulty = λ t rest. f.of_map n (λ row map. EntriesUpTo row map t rest) }

-- one subsection of a name section
abbrev pub subsection_in : Name → Text
subsection_in n = subsection_of core_names n

-- Subsections of a shape stand there one behind another, and then one is due and none begins.
pub record ManyUpTo (row : Shape) (bytes : List ℕ) (t : Tree) (rest : List ℕ) : Type 0 where
  pub rows : List Tree
  pub are : t ≡ rows_tree rows
  pub front : RowsBefore row bytes rows rest
  pub missing : BeginsNone row rest
  pub some : rest ≢ []

-- the same in a name section
abbrev pub NamesUpTo : List ℕ → Tree → List ℕ → Type 0
NamesUpTo = ManyUpTo name_subsection

-- the subsections of a shape that a reader still has
abbrev pub many_in : Shape → NamesStanding → Text
many_in row reader = record { bytes = reader.rest; reads = AreLeft row reader; faulty = ManyUpTo row reader.rest }

-- the subsections that a reader still has
abbrev pub names_in : NamesStanding → Text
names_in reader = many_in name_subsection reader

-- a custom section of a format, by its name
abbrev pub custom_of : {N : Type 0} → CustomFormat N → List ℕ → List ℕ → Text
custom_of form name contents = record {
  bytes = contents;
  reads = ReadsCustomOf form name contents;
  faulty = λ t rest. (name ≡ form.called) × ManyUpTo form.names.row contents t rest;
}

-- the same in a core module
abbrev pub custom_in : List ℕ → List ℕ → Text
custom_in name contents = custom_of core_custom name contents

-- ---- modules

-- sections stand behind the header up to the first place where none begins
pub data CoreUpTo (bytes : List ℕ) : Tree → List ℕ → Type 0 where
  sections : (before : List Tree) (rest : List ℕ) → FaultAt bytes before rest → CoreUpTo bytes (alsos before Tree.empty) rest

-- the bytes of a core module, read as its sections behind the header
abbrev pub module_in : List ℕ → Text
module_in bytes = record { bytes = bytes; reads = CoreReading bytes; faulty = CoreUpTo bytes }

-- the header of a core module does not stand there
abbrev pub NoCoreHeading : List ℕ → Type 0
NoCoreHeading bytes = (rest : List ℕ) → bytes ≢ core_header ++ rest

-- the same, read as the whole module
abbrev pub core_in : List ℕ → Text
core_in bytes = record { bytes = bytes; reads = Spells core_module bytes; faulty = CoreUpTo bytes }
