-- What a component, or a section of one, is read as and where it is at fault, for what an error leaves.
use Rattle.std.specs.Prelude.{◌≡◌, ◌≢◌, ◌⊎◌, ◌+◌, ℕ, zero, suc, Bool, List, [], ◌∷◌, ◌++◌, Result, IfErr, IsTrue}
use Rattle.wasm_leb.specs.Place.{BeginsNoNumber}
use Rattle.wasm_shapes.specs.declared.Visit.{Visit}
use Rattle.wasm_shapes.specs.declared.Visit.TheVariants.{Push}
use Rattle.wasm_shapes.specs.Component.{component_body_of, component_name_subsection, component_names_name}
use Rattle.wasm_shapes.specs.Drawn.{Drawn}
use Rattle.wasm_shapes.specs.Module.{component_header, custom_frame, frame, numbered_frame}
use Rattle.wasm_shapes.specs.Place.{Begins}
use Rattle.wasm_shapes.specs.Rows.{rows_then}
use Rattle.wasm_shapes.specs.Shape.{Shape}
use Rattle.wasm_shapes.specs.Tree.{Tree, normal, visits}
use Rattle.wasm_shapes.specs.Types.{rows_tree}
use Rattle.wasm_read.specs.Reading.{Standing, CountRead}
use Rattle.wasm_write.specs.Sections.{Sections, SectionRow, sections_bytes}
use Rattle.reencode_hooks.specs.declared.error.Error.{Error}
use Rattle.reencode_hooks.specs.declared.error.Error.TheVariants.{NoMemory}
use Rattle.reencode_hooks.specs.Hooks.{Gains}
use Rattle.reencode_core.specs.Holds.{IfWants}
use Rattle.reencode_core.specs.Leaves.{IsFront, IsSize, Leaves, ManyUpTo, TellsFault, Text}
use Rattle.reencode_core.specs.Rows.{Asks}
use Rattle.reencode_core.specs.Weave.{Puts, added}
use Rattle.reencode_component.specs.Components.{FaultAt, ComponentReading, ReadsSection}
use Rattle.reencode_component.specs.Causes.{AcceptedFront, room}
use Rattle.reencode_component.specs.ScopedRows.{ShallowUpTo, standing_at}

-- the bytes in a frame
abbrev pub bytes_in : Tree → List ℕ
bytes_in (Tree.row k (Tree.pair b (Tree.sized (Tree.raw body)))) = body
bytes_in (Tree.row k (Tree.pair b (Tree.sized (Tree.pair n (Tree.raw contents))))) = contents
bytes_in _ = []

-- The count of the rows is due and none begins; or rows, of which none opens a scope too many, stand behind their count up to where such a
-- one is missing; or subsections of names stand up to where one is missing. Of other sections nothing is said.
pub data SectionUpTo (depth : ℕ) : Tree → Tree → List ℕ → Type 0 where
  uncounted : (id : ℕ) (body : List ℕ) (row : Shape) → component_body_of id ≡ Shape.vec row → BeginsNoNumber 128 32 32 body → SectionUpTo depth (numbered_frame id body) Tree.nil body
  rows : (id : ℕ) (body : List ℕ) (row : Shape) (reader : Standing) (t : Tree) (rest : List ℕ) → component_body_of id ≡ Shape.vec row → CountRead body reader → ShallowUpTo row (standing_at depth reader) t rest →
      SectionUpTo depth (numbered_frame id body) t rest
  names : (name contents : List ℕ) (t : Tree) (rest : List ℕ) → name ≡ component_names_name → ManyUpTo component_name_subsection contents t rest → SectionUpTo depth (custom_frame name contents) t rest

-- a section in its frame
abbrev pub section_in : ℕ → Tree → Text
section_in depth f = record { bytes = bytes_in f; reads = ReadsSection depth f; faulty = SectionUpTo depth f }

-- sections stand behind the header up to the first place where none begins that is read
pub data ComponentUpTo (depth : ℕ) (bytes : List ℕ) : Tree → List ℕ → Type 0 where
  sections : (before : List Tree) (rest : List ℕ) → FaultAt depth bytes before rest → ComponentUpTo depth bytes (rows_tree before) rest

-- the bytes of a component, read as its sections behind the header
abbrev pub component_in : ℕ → List ℕ → Text
component_in depth bytes = record { bytes = bytes; reads = ComponentReading depth bytes; faulty = ComponentUpTo depth bytes }

-- the header of a component does not stand there
abbrev pub NoComponentHeading : List ℕ → Type 0
NoComponentHeading bytes = (rest : List ℕ) → bytes ≢ component_header ++ rest

-- ---- the scopes that an error leaves open

-- Visits that were made, where these are those in front of a fault: a front part of these, but with no error of the bytes; or all of
-- them, and then some that are drawn from the bytes from there on, of which this holds by the frame that stands there.
abbrev pub MadeAt : Type 0 → (Tree → List Visit → Type 0) → List Visit → List Visit → List ℕ → Type 0
MadeAt told nested made all rest =
    (¬ told × IsFront made all)
    ⊎ ((further : List Visit) × (made ≡ all ++ further) × Drawn rest further × ((f : Tree) (left : List ℕ) → Begins frame rest f left → nested f further))

-- the same of a component that has no reading, by the first place where no section begins that is read
abbrev pub MadeBy : Type 0 → ℕ → (Tree → List Visit → Type 0) → List ℕ → List Visit → Type 0
MadeBy told depth nested bytes made = (before : List Tree) (rest : List ℕ) → FaultAt depth bytes before rest → MadeAt told nested made (visits (rows_tree before)) rest

-- Visits that were made of a nested section that has no reading, in its frame: none; or its push, and then some that are drawn from what
-- it holds, so that its scope stays open; of a component these are so inside it. Where no further scope may be opened, none are made.
abbrev pub StaysOpen : Type 0 → ℕ → ℕ → Tree → List Visit → Type 0
StaysOpen told depth zero f made = (id : ℕ) (body : List ℕ) → f ≡ numbered_frame id body → (id ≡ 1) ⊎ (id ≡ 4) → made ≡ []
StaysOpen told depth (suc scopes) f made =
    (id : ℕ) (body : List ℕ) → f ≡ numbered_frame id body → (id ≡ 1) ⊎ (id ≡ 4) →
    (made ≡ [])
    ⊎ ((inner : List Visit) × (made ≡ Push ∷ inner) × Drawn body inner × (id ≡ 4 → MadeBy told (depth + 1) (StaysOpen told (depth + 1) scopes) body inner))

-- a section in its frame, with so many scopes open round it, and the error
abbrev pub SectionMade : {E : Type 0} → ℕ → Tree → Error E → List Visit → Type 0
SectionMade depth f e made = StaysOpen (TellsFault e) depth (room depth) f made

-- the bytes of a component
abbrev pub ComponentMade : {E : Type 0} → ℕ → List ℕ → Error E → List Visit → Type 0
ComponentMade depth bytes e made = MadeBy (TellsFault e) depth (StaysOpen (TellsFault e) depth (room depth)) bytes made

-- What an error leaves; and where there is no reading, this of the visits that were made.
pub record LeavesScopes {S E : Type 0} (asked : Asks S E) (text : Text) (scopes : Error E → List Visit → Type 0) (s : S) (e : Error E) (m : S) : Type 0 where
  pub leaves : Leaves asked text s e m
  pub unread : ((t : Tree) → text.reads t → ⊥) → scopes e leaves.made

-- of a section in its frame
abbrev pub LeavesSection : {S E : Type 0} → Asks S E → ℕ → Tree → S → Error E → S → Type 0
LeavesSection asked depth f s e m = LeavesScopes asked (section_in depth f) (SectionMade depth f) s e m

-- of the bytes of a component
abbrev pub LeavesComponent : {S E : Type 0} → Asks S E → ℕ → List ℕ → S → Error E → S → Type 0
LeavesComponent asked depth bytes s e m = LeavesScopes asked (component_in depth bytes) (ComponentMade depth bytes) s e m

-- The fact about an error: of `NoMemory` where the reencoder is sure, of a size that is too large where its section hook adds nothing.
abbrev pub IfLeaves : {E : Type 0} → Bool → Bool → (Error E → Type 0) → Result (Unit {0}) (Error E) → Type 0
IfLeaves sure nothing P result = IfErr result (λ e. (e ≡ NoMemory → IsTrue sure) → (IsSize e → IsTrue nothing) → P e)

-- ---- what a component holds where memory ran out

-- Sections stand behind the header and were accepted, and what they became was added, and no more; the next one stands in its frame and
-- was asked in part. Of a reading they are the first sections.
pub record HoldsFront {S E : Type 0} (asked : Asks S E) (adds : Puts S SectionRow) (depth : ℕ) (bytes : List ℕ) (before after : S × Sections) : Type 0 where
  pub front : AcceptedFront asked adds before.1.ceiling depth bytes before.0
  pub parts : (t : Tree) → ComponentReading depth bytes t → (others : Tree) × (t ≡ rows_then front.read others)
  pub rows : List SectionRow
  pub next : Tree
  pub left : List ℕ
  pub framed : Begins frame front.rest next left
  pub spelled : sections_bytes rows ≡ normal (rows_tree front.made)
  pub gains : Gains before.1 after.1 rows
  pub leaves : LeavesSection asked depth next front.at NoMemory after.0

-- the same after a call in which memory ran out
abbrev pub HoldsComponent : {S E : Type 0} → Asks S E → Puts S SectionRow → ℕ → List ℕ → S × Sections → S × Sections → Result (Unit {0}) (Error E) → Type 0
HoldsComponent asked adds depth bytes before after result = IfWants result (HoldsFront asked adds depth bytes before after)
