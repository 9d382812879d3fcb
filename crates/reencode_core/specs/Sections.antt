-- What the call that maps one section gives.
use Rattle.std.specs.Prelude.{◌≡◌, ◌≢◌, ◌≤◌, ◌<◌, ◌-◌, ◌⊎◌, ℕ, List, [], length, Result, Ok, Err, IfOk, IfErr}
use Rattle.wasm_leb.specs.declared.fault.Fault.{Fault}
use Rattle.wasm_leb.specs.declared.fault.ReadError.{ReadError}
use Rattle.wasm_leb.specs.Leb.{IsUnsigned}
use Rattle.wasm_leb.specs.Place.{BeginsNumber, BeginsNoNumber}
use Rattle.wasm_shapes.specs.declared.SectionId.{SectionId}
use Rattle.wasm_shapes.specs.declared.SectionId.TheVariants as id
use Rattle.wasm_shapes.specs.declared.Space.{Space}
use Rattle.wasm_shapes.specs.Shape.{Shape}
use Rattle.wasm_shapes.specs.Tree.{Tree, normal}
use Rattle.wasm_shapes.specs.Spells.{Spells}
use Rattle.wasm_shapes.specs.Module.{body_of, row_of, tree_of}
use Rattle.wasm_shapes.specs.SectionTable.{number}
use Rattle.wasm_read.specs.Reading.{Standing, CountRead, ReadsNone}
use Rattle.wasm_write.specs.declared.fault.WriteFault.{WriteFault}
use Rattle.wasm_write.specs.Faults.{IfTooLarge}
use Rattle.wasm_write.specs.Sections.{Sections, SectionRow, section_row, section_bytes, with_section}
use Rattle.reencode_hooks.specs.declared.error.Error.{Error}
use Rattle.reencode_hooks.specs.declared.error.Error.TheVariants.{NoMemory, ParseError}
use Rattle.reencode_hooks.specs.Errors.{error_of_fault, error_of_write}
use Rattle.reencode_hooks.specs.Run.{accepted, refused}
use Rattle.reencode_hooks.specs.Walk.{walk}
use Rattle.reencode_hooks.specs.Hooks.{Gains}
use Rattle.reencode_core.specs.declared.sections.Body.{Body}
use Rattle.reencode_core.specs.declared.sections.Body.TheVariants as body
use Rattle.reencode_core.specs.Errors.{IfParse, IfRefused}
use Rattle.reencode_core.specs.Rows.{Asks, RowsFault, StopsDue}

-- the second has the first's ceiling and sections, and perhaps more sections after them
abbrev pub KeepsModule : Sections → Sections → Type 0
KeepsModule old new = (rows : List SectionRow) × Gains old new rows

-- the tree is what the body of a section of a kind is read as
abbrev pub ReadsAs : SectionId → List ℕ → Tree → Type 0
ReadsAs kind body t = (u : Tree) × (t ≡ tree_of kind u) × Spells (body_of kind) body u

-- the bodies of the sections of a kind are vectors of its rows
abbrev pub HasRows : SectionId → Type 0
HasRows kind = body_of kind ≡ Shape.vec (row_of kind)

-- they are one item each, an index of this space
abbrev pub HasItem : SectionId → Space → Type 0
HasItem kind space = body_of kind ≡ Shape.ix space

-- The body of a section of a kind is read as this: the count of its rows stands there, or its one item fills it.
abbrev pub HasBody : SectionId → List ℕ → Body → Type 0
HasBody kind bytes (body.Types reader) = (kind ≡ id.Type_) × CountRead bytes reader
HasBody kind bytes (body.Imports reader) = (kind ≡ id.Import) × CountRead bytes reader
HasBody kind bytes (body.Functions reader) = (kind ≡ id.Function) × CountRead bytes reader
HasBody kind bytes (body.Tables reader) = (kind ≡ id.Table) × CountRead bytes reader
HasBody kind bytes (body.Memories reader) = (kind ≡ id.Memory) × CountRead bytes reader
HasBody kind bytes (body.Globals reader) = (kind ≡ id.Global) × CountRead bytes reader
HasBody kind bytes (body.Exports reader) = (kind ≡ id.Export) × CountRead bytes reader
HasBody kind bytes (body.Elements reader) = (kind ≡ id.Element) × CountRead bytes reader
HasBody kind bytes (body.Code reader) = (kind ≡ id.Code) × CountRead bytes reader
HasBody kind bytes (body.Data reader) = (kind ≡ id.Data) × CountRead bytes reader
HasBody kind bytes (body.Tags reader) = (kind ≡ id.Tag) × CountRead bytes reader
HasBody kind bytes (body.Start item) = (kind ≡ id.Start) × IsUnsigned 32 bytes item
HasBody kind bytes (body.DataCount item) = (kind ≡ id.DataCount) × IsUnsigned 32 bytes item

-- A section whose rows were mapped was added, or it is too large, or memory runs out; where its rows were refused, that is
-- the answer.
abbrev pub AddsMapped : {E : Type 0} → SectionRow → Sections → Result (Unit {0}) (Error E) → Sections → Result (Unit {0}) (Error E) → Type 0
AddsMapped row old (Err e) new result = (result ≡ Err e) × (new ≡ old)
AddsMapped row old (Ok _) new (Ok _) = (new ≡ with_section old row) × (length row.body ≤ old.ceiling)
AddsMapped row old (Ok _) new (Err e) =
    (new ≡ old) × (w : WriteFault) × (e ≡ error_of_write w) × IfTooLarge w (λ size. (size ≡ length row.body) × (old.ceiling < size))

-- The section became another of an id, which was added, or it was refused, and nothing was added.
abbrev pub GivesAdded : {S E : Type 0} → Asks S E → ℕ → S × Sections → Tree → S × Sections → Result (Unit {0}) (Error E) → Type 0
GivesAdded asked id before t after (Ok _) =
    (u : Tree) × (body : List ℕ) × (walk asked before.1.ceiling before.0 t ≡ accepted u after.0)
    × (after.1 ≡ with_section before.1 (section_row id body)) × (section_bytes (section_row id body) ≡ normal u)
GivesAdded asked id before t after (Err e) =
    (after.1 ≡ before.1) × (e ≢ NoMemory → walk asked before.1.ceiling before.0 t ≡ refused e after.0)

-- the same of the id of a kind
abbrev pub GivesOne : {S E : Type 0} → Asks S E → SectionId → S × Sections → Tree → S × Sections → Result (Unit {0}) (Error E) → Type 0
GivesOne asked kind before t after result = GivesAdded asked (number kind) before t after result

-- The count of the rows stands there. At this place a row is due and none begins, or bytes are left behind the last row, and
-- all rows before it were accepted.
pub record RowsFaultIn {S E : Type 0} (asked : Asks S E) (c : ℕ) (kind : SectionId) (body : List ℕ) (s m : S) (at : ℕ) : Type 0 where
  pub has_rows : HasRows kind
  pub reader : Standing
  pub made : List Tree
  pub counted : CountRead body reader
  pub fault : RowsFault asked c (row_of kind) reader (s, []) (m, made) at

-- One number stands there, and bytes are left behind it, from this place on.
pub record LeftBehind (body : List ℕ) (at : ℕ) : Type 0 where
  pub item : ℕ
  pub rest : List ℕ
  pub begins : BeginsNumber 128 32 32 body item rest
  pub some : rest ≢ []
  pub place : at ≡ length body - length rest

-- At the front the one item is due and none begins; or it stands there, and bytes are left behind it.
abbrev pub NoItem : List ℕ → ℕ → Type 0
NoItem body at = ((at ≡ 0) × BeginsNoNumber 128 32 32 body) ⊎ LeftBehind body at

-- No body of the kind is in force, or the count of its rows or its one item is missing, and the error tells of that.
abbrev pub NoBody : {E : Type 0} → SectionId → List ℕ → Error E → Type 0
NoBody kind bytes e =
    ((body_of kind ≡ Shape.none) × (e ≡ ParseError (record { at = 0 })))
    ⊎ (HasRows kind × (f : Fault) × ReadsNone f 0 (BeginsNoNumber 128 32 32 bytes) × (e ≡ error_of_fault f))
    ⊎ ((space : Space) × HasItem kind space × (r : ReadError) × NoItem bytes r.at × (e ≡ ParseError r))

-- The body is none of its kind: at its front the count of the rows or the one item is due and none begins, or no body of the
-- kind is in force; or the fault stands in its rows; or bytes are left behind its one item.
abbrev pub BodyFault : {S E : Type 0} → Asks S E → ℕ → SectionId → List ℕ → S → S → ℕ → Type 0
BodyFault asked c kind body s m at =
    ((t : Tree) → ReadsAs kind body t → ⊥)
    × (((at ≡ 0) × (BeginsNoNumber 128 32 32 body ⊎ (body_of kind ≡ Shape.none)) × (m ≡ s)) ⊎ RowsFaultIn asked c kind body s m at
    ⊎ ((space : Space) × HasItem kind space × LeftBehind body at × (m ≡ s)))

-- The count of the rows stands there, rows behind it were accepted, and the next one is refused. None is one too many: what they
-- became is in a section of its own, and the count is below 2^32.
pub record StopsSection {S E : Type 0} (asked : Asks S E) (c : ℕ) (kind : SectionId) (body : List ℕ) (s : S) (e : Error E) (m : S) : Type 0 where
  pub reader : Standing
  pub counted : CountRead body reader
  pub stops : StopsDue asked c (row_of kind) reader s e m

-- The section became another, which was added; or it was refused, or has no reading, and nothing was added.
pub record GivesSection {S E : Type 0} (asked : Asks S E) (kind : SectionId) (body : List ℕ) (before after : S × Sections)
    (result : Result (Unit {0}) (Error E)) : Type 0 where
  pub reading : (t : Tree) → ReadsAs kind body t → GivesOne asked kind before t after result
  pub readable : IfOk result (λ _. (t : Tree) × ReadsAs kind body t)
  pub unreadable : IfErr result (λ e. IfParse e (BodyFault asked before.1.ceiling kind body before.0 after.0))
  pub refusal : IfErr result (λ e.
      IfRefused e (((t : Tree) × ReadsAs kind body t) ⊎ StopsSection asked before.1.ceiling kind body before.0 e after.0))
  pub unchanged : IfErr result (λ _. after.1 ≡ before.1)
