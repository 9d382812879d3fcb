-- What the calls that map name sections, custom sections and sections of other ids give.
use Rattle.std.specs.Prelude.{◌≡◌, ◌≢◌, ◌-◌, ◌⊎◌, ◌<◌, ℕ, List, [], length, Result, Ok, Err, IfOk, IfErr}
use Rattle.std.specs.List.{FoldsTo}
use Rattle.wasm_leb.specs.Place.{BeginsNumber}
use Rattle.wasm_shapes.specs.declared.Space.{Space}
use Rattle.wasm_shapes.specs.declared.Space.TheVariants as space
use Rattle.wasm_shapes.specs.Shape.{Shape}
use Rattle.wasm_shapes.specs.Tree.{Tree}
use Rattle.wasm_shapes.specs.Spells.{Spells}
use Rattle.wasm_shapes.specs.Place.{Begins, BeginsNone}
use Rattle.wasm_shapes.specs.Types.{rows_tree}
use Rattle.wasm_shapes.specs.Module.{name_subsection, names_name, frame, custom_frame}
use Rattle.wasm_read.specs.declared.types.Name.{Name}
use Rattle.wasm_read.specs.Names.{NamesStanding}
use Rattle.wasm_read.specs.Subsections.{subsection_frame, subsection_frame_tree}
use Rattle.wasm_read.specs.Names.{MapStanding, map_place, Due, EntryRead, EntryMissing}
use Rattle.wasm_write.specs.declared.fault.WriteFault.{WriteFault}
use Rattle.wasm_write.specs.Bodies.{CodeRows, with_row}
use Rattle.wasm_write.specs.Counts.{counts, IsTooLarge}
use Rattle.wasm_write.specs.Sections.{Sections}
use Rattle.reencode_hooks.specs.declared.error.Error.{Error}
use Rattle.reencode_hooks.specs.declared.error.Error.TheVariants.{TooLarge, NoMemory}
use Rattle.reencode_hooks.specs.Errors.{error_of_write}
use Rattle.reencode_hooks.specs.Run.{accepted, refused}
use Rattle.reencode_hooks.specs.Walk.{walk}
use Rattle.reencode_core.specs.Errors.{IfParse, IfRefused}
use Rattle.reencode_core.specs.NameFormats.{CustomFormat, NameFormat, core_custom, core_names}
use Rattle.reencode_core.specs.Rows.{Asks, AcceptsRows, AcceptedHooks, RefusesRow, RowsBefore, StopsEach}
use Rattle.reencode_core.specs.Sections.{GivesAdded}

-- ---- one subsection

-- what a writer answered, as an answer of the reencoder
abbrev pub of_writer : {E : Type 0} → Result (Unit {0}) WriteFault → Result (Unit {0}) (Error E)
of_writer (Ok u) = Ok u
of_writer (Err f) = Err (error_of_write f)

-- the id of the subsection that has the names of a space of core modules
abbrev pub names_id : Space → ℕ
names_id space.Function = 1
names_id space.Type_ = 4
names_id space.Table = 5
names_id space.Memory = 6
names_id space.Global = 7
names_id space.Element = 8
names_id space.Data = 9
names_id _ = 11

-- A subsection of the id has maps of names, by indices of the space: those of locals, of labels or of fields.
abbrev pub IsIndirect : ℕ → Space → Type 0
IsIndirect id s = ((id ≡ 2) × (s ≡ space.Function)) ⊎ ((id ≡ 3) × (s ≡ space.Function)) ⊎ ((id ≡ 10) × (s ≡ space.Type_))

-- In what a map still has entries stand and were accepted, and the next one, which is due, stands whole and is refused.
pub record StopsMap {S E : Type 0} (asked : Asks S E) (c : ℕ) (row : Shape) (m : MapStanding) (s : S) (e : Error E) (k : S) : Type 0 where
  pub count : ℕ
  pub start : List ℕ
  pub due : Due m count start
  pub stops : StopsEach asked c row start s e k
  pub more : length stops.read < count

-- these entries were read one behind another, and this is left
abbrev pub EntriesRead : Shape → MapStanding → List Tree → MapStanding → Type 0
EntriesRead row = FoldsTo (EntryRead row)

-- Entries of a map were read, and all were accepted. At this place, behind them, the count or an entry is due and none begins, or
-- bytes are left where no entry is due.
pub record MapFault {S E : Type 0} (asked : Asks S E) (c : ℕ) (row : Shape) (m : MapStanding) (s k : S) (at : ℕ) : Type 0 where
  pub read : List Tree
  pub rest : MapStanding
  pub made : List Tree
  pub front : EntriesRead row m read rest
  pub missing : EntryMissing row rest
  pub place : at ≡ map_place rest
  pub accepts : AcceptsRows asked c s read made k

-- a length in what the subsection became is too large
abbrev pub TooLargeIn : {E : Type 0} → Error E → Tree → Type 0
TooLargeIn (TooLarge size) u = IsTooLarge (counts u) size
TooLargeIn _ u = ⊥

-- all visits are accepted, and a length in what the subsection became is too large
pub record TooLargeNames {S E : Type 0} (asked : Asks S E) (s : S) (t : Tree) (e : Error E) (m : S) : Type 0 where
  pub accepts : AcceptedHooks asked s t m
  pub large : TooLargeIn e accepts.made

-- The subsection became another, which was added, or it was refused, and nothing was added.
abbrev pub GivesNaming : {S E : Type 0} → Asks S E → S × CodeRows → Tree → S × CodeRows → Result (Unit {0}) (Error E) → Type 0
GivesNaming asked before t after (Ok _) = (u : Tree) × (walk asked before.1.ceiling before.0 t ≡ accepted u after.0) × (after.1 ≡ with_row before.1 u)
GivesNaming asked before t after (Err e) =
    (after.1 ≡ before.1)
    × (e ≢ NoMemory → (walk asked before.1.ceiling before.0 t ≡ refused e after.0) ⊎ TooLargeNames asked before.0 t e after.0)

-- The same by a subsection of a format: of each reading; or it has none, and its map has no entry where one is due, or bytes are left
-- behind the last; or an entry of its map is refused.
pub record GivesSubsectionOf {N : Type 0} (f : NameFormat N) {S E : Type 0} (asked : Asks S E) (n : N) (before after : S × CodeRows) (result : Result (Unit {0}) (Error E)) : Type 0 where
  pub reading : (t : Tree) → f.reads n t → GivesNaming asked before t after result
  pub readable : IfOk result (λ _. (t : Tree) × f.reads n t)
  pub unreadable : IfErr result (λ e. IfParse e (λ at.
      ((t : Tree) → f.reads n t → ⊥) × (after.1 ≡ before.1) × f.of_map n (λ row m. MapFault asked before.1.ceiling row m before.0 after.0 at)))
  pub refusal : IfErr result (λ e.
      IfRefused e (((t : Tree) × f.reads n t) ⊎ ((after.1 ≡ before.1) × f.of_map n (λ row m. StopsMap asked before.1.ceiling row m before.0 e after.0))))

-- that of a name section
abbrev pub GivesSubsection : {S E : Type 0} → Asks S E → Name → S × CodeRows → S × CodeRows → Result (Unit {0}) (Error E) → Type 0
GivesSubsection asked n before after result = GivesSubsectionOf core_names asked n before after result

-- ---- subsections one behind another

-- the subsections of a shape that a reader has still to read
abbrev pub AreLeft : Shape → NamesStanding → Tree → Type 0
AreLeft row reader rows = Spells (Shape.many row) reader.rest rows

-- At this place a subsection is due and none begins. All subsections before it were accepted.
pub record SubsectionsFaultOf (row : Shape) {S E : Type 0} (asked : Asks S E) (c : ℕ) (reader : NamesStanding) (s : S) (at : ℕ) : Type 0 where
  pub none : (rows : Tree) → AreLeft row reader rows → ⊥
  pub read : List Tree
  pub rest : List ℕ
  pub made : List Tree
  pub state : S
  pub front : RowsBefore row reader.rest read rest
  pub some : rest ≢ []
  pub missing : BeginsNone row rest
  pub place : at ≡ reader.len - length rest
  pub accepts : AcceptsRows asked c s read made state

-- The frame of a subsection stands there, and an entry of its map is refused.
pub record RefusesEntryOf {N : Type 0} (f : NameFormat N) {S E : Type 0} (asked : Asks S E) (bytes : List ℕ) (c : ℕ) (s : S) (e : Error E) (m : S) : Type 0 where
  pub id : ℕ
  pub body : List ℕ
  pub left : List ℕ
  pub begins : Begins subsection_frame bytes (subsection_frame_tree id body) left
  pub row : Shape
  pub map : List ℕ
  pub is_map : f.map_at id body row map
  pub count : ℕ
  pub start : List ℕ
  pub counted : BeginsNumber 128 32 32 map count start
  pub stops : StopsEach asked c row start s e m
  pub more : length stops.read < count

-- Subsections stand there and were accepted, and the next one is refused: it stands whole, or an entry of its map is refused.
pub record StopsNamesOf {N : Type 0} (f : NameFormat N) {S E : Type 0} (asked : Asks S E) (c : ℕ) (reader : NamesStanding) (s : S) (e : Error E) (m : S) : Type 0 where
  pub read : List Tree
  pub rest : List ℕ
  pub made : List Tree
  pub state : S
  pub front : RowsBefore f.row reader.rest read rest
  pub accepts : AcceptsRows asked c s read made state
  pub refuses : RefusesRow asked c f.row rest state e m ⊎ RefusesEntryOf f asked rest c state e m

-- The subsections became others, which are the answer, or one of them was refused.
abbrev pub GivesSubsections : {S E A : Type 0} → Asks S E → ℕ → S → Tree → S → Result A (Error E) → (A → CodeRows) → Type 0
GivesSubsections asked c s rows m (Ok a) view =
    (made : List Tree) × (walk asked c s rows ≡ accepted (rows_tree made) m) × (view a ≡ record { ceiling = c; rows = made })
GivesSubsections asked c s rows m (Err e) view = e ≢ NoMemory → walk asked c s rows ≡ refused e m

pub record GivesNamesOf {N : Type 0} (f : NameFormat N) {S E A : Type 0} (asked : Asks S E) (c : ℕ) (reader : NamesStanding) (s m : S) (result : Result A (Error E)) (view : A → CodeRows) : Type 0 where
  pub reading : (rows : Tree) → AreLeft f.row reader rows → GivesSubsections asked c s rows m result view
  pub readable : IfOk result (λ _. (rows : Tree) × AreLeft f.row reader rows)
  pub unreadable : IfErr result (λ e. IfParse e (SubsectionsFaultOf f.row asked c reader s))
  pub refusal : IfErr result (λ e. IfRefused e (((rows : Tree) × AreLeft f.row reader rows) ⊎ StopsNamesOf f asked c reader s e m))

-- ---- a name section

abbrev pub SubsectionsLeft : NamesStanding → Tree → Type 0
SubsectionsLeft reader rows = AreLeft name_subsection reader rows

abbrev pub SubsectionsFault : {S E : Type 0} → Asks S E → ℕ → NamesStanding → S → ℕ → Type 0
SubsectionsFault asked c reader s at = SubsectionsFaultOf name_subsection asked c reader s at

-- A subsection stands whole there, and it is refused.
abbrev pub RefusesSubsection : {S E : Type 0} → Asks S E → ℕ → List ℕ → S → Error E → S → Type 0
RefusesSubsection asked c bytes s e m = RefusesRow asked c name_subsection bytes s e m

abbrev pub RefusesEntry : {S E : Type 0} → Asks S E → List ℕ → ℕ → S → Error E → S → Type 0
RefusesEntry asked bytes c s e m = RefusesEntryOf core_names asked bytes c s e m

abbrev pub StopsNames : {S E : Type 0} → Asks S E → ℕ → NamesStanding → S → Error E → S → Type 0
StopsNames asked c reader s e m = StopsNamesOf core_names asked c reader s e m

abbrev pub GivesNames : {S E A : Type 0} → Asks S E → ℕ → NamesStanding → S → S → Result A (Error E) → (A → CodeRows) → Type 0
GivesNames asked c reader s m result view = GivesNamesOf core_names asked c reader s m result view

-- ---- a custom section

-- the contents of a section, of which nothing was read
abbrev pub contents_standing : List ℕ → NamesStanding
contents_standing contents = record { rest = contents; len = length contents }

-- what the contents of a custom section are read as: of one of names, its subsections; else they are themselves
abbrev pub ReadsContentsOf : {N : Type 0} → CustomFormat N → List ℕ → List ℕ → Tree → Type 0
ReadsContentsOf form name contents u = ((name ≡ form.called) × Spells (Shape.many form.names.row) contents u) ⊎ ((name ≢ form.called) × (u ≡ Tree.raw contents))

-- the tree is what a custom section is read as
abbrev pub ReadsCustomOf : {N : Type 0} → CustomFormat N → List ℕ → List ℕ → Tree → Type 0
ReadsCustomOf form name contents t =
    (u : Tree) × (t ≡ Tree.row form.number (Tree.pair (Tree.fixed 0) (Tree.sized (Tree.pair (Tree.name name) u)))) × ReadsContentsOf form name contents u

-- it is one of names, and one of these is refused
abbrev pub StopsCustomOf : {N S E : Type 0} → CustomFormat N → Asks S E → ℕ → List ℕ → List ℕ → S → Error E → S → Type 0
StopsCustomOf form asked c name contents s e m = (name ≡ form.called) × StopsNamesOf form.names asked c (contents_standing contents) s e m

pub record GivesCustomOf {N : Type 0} (form : CustomFormat N) {S E : Type 0} (asked : Asks S E) (name contents : List ℕ) (before after : S × Sections) (result : Result (Unit {0}) (Error E)) : Type 0 where
  pub reading : (t : Tree) → ReadsCustomOf form name contents t → GivesAdded asked 0 before t after result
  pub readable : IfOk result (λ _. (t : Tree) × ReadsCustomOf form name contents t)
  pub unreadable : IfErr result (λ e. IfParse e (λ at.
      ((t : Tree) → ReadsCustomOf form name contents t → ⊥) × (name ≡ form.called)
      × SubsectionsFaultOf form.names.row asked before.1.ceiling (contents_standing contents) before.0 at))
  pub refusal : IfErr result (λ e.
      IfRefused e (((t : Tree) × ReadsCustomOf form name contents t) ⊎ StopsCustomOf form asked before.1.ceiling name contents before.0 e after.0))
  pub unchanged : IfErr result (λ _. after.1 ≡ before.1)

-- the same in a core module
abbrev pub StopsCustom : {S E : Type 0} → Asks S E → ℕ → List ℕ → List ℕ → S → Error E → S → Type 0
StopsCustom asked c name contents s e m = StopsCustomOf core_custom asked c name contents s e m

abbrev pub GivesCustom : {S E : Type 0} → Asks S E → List ℕ → List ℕ → S × Sections → S × Sections → Result (Unit {0}) (Error E) → Type 0
GivesCustom asked name contents before after result = GivesCustomOf core_custom asked name contents before after result

-- A custom section that has no reading stands there in its frame, and an entry of its names is refused.
pub record StopsInNames {S E : Type 0} (asked : Asks S E) (c : ℕ) (bytes : List ℕ) (s : S) (e : Error E) (m : S) : Type 0 where
  pub contents : List ℕ
  pub left : List ℕ
  pub framed : Begins frame bytes (custom_frame names_name contents) left
  pub stops : StopsNames asked c (contents_standing contents) s e m
