-- Why an error of a component comes, and what was asked by then.
use Rattle.std.specs.Prelude.{◌≡◌, ◌≢◌, ◌⊎◌, ◌+◌, ◌-◌, ℕ, zero, suc, List, ◌++◌}
use Rattle.wasm_leb.specs.declared.fault.Fault.{Fault}
use Rattle.wasm_leb.specs.declared.fault.Fault.TheVariants as fault
use Rattle.wasm_leb.specs.declared.fault.Kind.TheVariants as kind
use Rattle.wasm_shapes.specs.declared.Visit.TheVariants.{Push}
use Rattle.wasm_shapes.specs.Component.{component_body_of}
use Rattle.wasm_shapes.specs.Module.{component_header, custom_frame, frame, numbered_frame}
use Rattle.wasm_shapes.specs.Depth.{Shallow}
use Rattle.wasm_shapes.specs.Place.{Begins, BeginsNone}
use Rattle.wasm_shapes.specs.Shape.{Shape}
use Rattle.wasm_shapes.specs.Tree.{Tree, visits}
use Rattle.wasm_shapes.specs.Types.{rows_tree}
use Rattle.wasm_read.specs.Reading.{Standing, CountRead}
use Rattle.wasm_write.specs.Sections.{SectionRow}
use Rattle.reencode_hooks.specs.declared.error.Error.{Error}
use Rattle.reencode_hooks.specs.declared.error.Error.TheVariants.{InvalidCodeSectionSize, UnexpectedNonCoreModuleSection, UnexpectedNonComponentSection, ParseError, UserError, TooLarge, NoMemory}
use Rattle.reencode_hooks.specs.Run.{accepted, refused}
use Rattle.reencode_core.specs.Errors.{placed_at}
use Rattle.reencode_core.specs.Names.{StopsCustomOf}
use Rattle.reencode_core.specs.Rows.{Asks, StopsDue}
use Rattle.reencode_core.specs.Weave.{Puts, added}
use Rattle.reencode_core.specs.Woven.{AddsFit, FitsUpTo, IsWovenCause, OwnTooLarge}
use Rattle.reencode_component.specs.ComponentNames.{component_custom}
use Rattle.reencode_component.specs.Components.{BeginsSection, ComponentFault, FaultAt, Framed, ReadsSection, SectionsFirst}
use Rattle.reencode_component.specs.ScopedRows.{AllShallow}
use Rattle.reencode_component.specs.WeaveIn.{AcceptsAll, RefusesAmong, weave_in}

-- what is said of a section in its frame: the state before, the state after, and the error
abbrev pub Stops : Type 0 → Type 0 → Type 1
Stops S E = Tree → S → S → Error E → Type 0

-- ---- the sections in front

-- Some sections stand behind the header, were accepted and became those, and what the section hooks added in them fits; what stands behind
-- them is walked from here.
pub record AcceptedFront {S E : Type 0} (asked : Asks S E) (adds : Puts S SectionRow) (c depth : ℕ) (bytes : List ℕ) (s : S) : Type 0 where
  pub read : List Tree
  pub rest : List ℕ
  pub made : List Tree
  pub at : S
  pub first : SectionsFirst depth bytes read rest
  pub accepts : AcceptsAll asked (added adds) c s read made at
  pub fits : AddsFit asked adds c s (visits (rows_tree read))

-- behind some sections that were accepted stands one of which this holds
abbrev pub BehindFront : {S E : Type 0} → Asks S E → Puts S SectionRow → ℕ → ℕ → Stops S E → List ℕ → S → S → Error E → Type 0
BehindFront asked adds c depth stops bytes s m e =
    (f : AcceptedFront asked adds c depth bytes s) × Framed (λ x. stops x f.at m e) f.rest

-- ---- errors of the bytes

-- The error tells this fault of the bytes. A refusal, a size and `NoMemory` tell none, and no other error comes.
abbrev pub IfFault : {E : Type 0} → Error E → (Fault → Type 0) → Type 0
IfFault (ParseError e) P = P (fault.Read e)
IfFault InvalidCodeSectionSize P = P fault.CodeSize
IfFault UnexpectedNonCoreModuleSection P = P (fault.Header kind.Component)
IfFault UnexpectedNonComponentSection P = P (fault.Header kind.Module)
IfFault (UserError _) P = Unit {0}
IfFault (TooLarge _) P = Unit {0}
IfFault NoMemory P = Unit {0}
IfFault _ P = ⊥

-- The bytes have this fault; and where it stands behind their header, all sections before it were accepted.
pub record IsFault {S E : Type 0} (asked : Asks S E) (adds : Puts S SectionRow) (c depth : ℕ) (bytes : List ℕ) (s : S) (x : Fault) : Type 0 where
  pub fault : ComponentFault depth bytes x
  pub accepted : (before : List Tree) (rest : List ℕ) → FaultAt depth bytes before rest → (made : List Tree) × (n : S) × AcceptsAll asked (added adds) c s before made n

-- ---- refusals

-- A refusal, or a size that is too large. Where the bytes have a fault, it comes of the sections before it; or all of these were
-- accepted, and it comes of what stands whole, before the fault, in the section there; or a section hook in a nested module was to
-- add a section above the ceiling.
pub record BeforeFault {S E : Type 0} (asked : Asks S E) (adds : Puts S SectionRow) (c depth : ℕ) (inner own : Stops S E) (bytes : List ℕ) (s m : S) (e : Error E) : Type 0 where
  pub rest : List ℕ
  pub stands : bytes ≡ component_header ++ rest
  pub fault : (before : List Tree) (rest : List ℕ) → FaultAt depth bytes before rest → RefusesAmong asked (added adds) c s before e m
      ⊎ ((made : List Tree) × (n : S) × AcceptsAll asked (added adds) c s before made n × Framed (λ f. inner f n m e) rest)
      ⊎ BehindFront asked adds c depth own bytes s m e

-- why an error comes, by what is said of one section where it has no reading, and where a section hook's own is too large
abbrev pub CauseBy : {S E : Type 0} → Asks S E → Puts S SectionRow → ℕ → ℕ → (inner own : Stops S E) → List ℕ → S → S → Error E → Type 0
CauseBy asked adds c depth inner own bytes s m (UserError e) = BeforeFault asked adds c depth inner own bytes s m (UserError e)
CauseBy asked adds c depth inner own bytes s m (TooLarge size) = BeforeFault asked adds c depth inner own bytes s m (TooLarge size)
CauseBy asked adds c depth inner own bytes s m e = IfFault e (λ x. IsFault asked adds c depth bytes s x)

-- ---- inside a section

-- The count of the rows stands there, rows behind it were accepted, and the next one is refused; none of them opens a scope too many.
pub record StopsInRows {S E : Type 0} (asked : Asks S E) (c depth id : ℕ) (body : List ℕ) (s m : S) (e : Error E) : Type 0 where
  pub row : Shape
  pub are_rows : component_body_of id ≡ Shape.vec row
  pub reader : Standing
  pub counted : CountRead body reader
  pub stops : StopsDue asked c row reader s e m
  pub shallow : AllShallow depth (rows_tree stops.read)
  pub next : (t : Tree) (left : List ℕ) → Begins row stops.rest t left → Shallow depth t

-- A nested section stands in the frame, its push is accepted, and from there this holds of its body: of a core module the first, of
-- a component the second. No pop follows.
abbrev pub Pushed : {S E : Type 0} → Asks S E → (module_by component_by : List ℕ → S → S → Error E → Type 0) → Stops S E
Pushed {S} asked module_by component_by f s m e =
    (id : ℕ) × (body : List ℕ) × (f ≡ numbered_frame id body) × (k : S) × (asked s Push ≡ accepted 0 k)
    × (((id ≡ 1) × module_by body k m e) ⊎ ((id ≡ 4) × component_by body k m e))

-- A section hook in a nested module was to add a section above the ceiling; so many scopes may still be opened.
abbrev pub OwnInside : {S E : Type 0} → Asks S E → Puts S SectionRow → ℕ → ℕ → ℕ → Stops S E
OwnInside asked adds c depth zero f s m e = ⊥
OwnInside asked adds c depth (suc room) f s m e =
    Pushed asked (λ b k n x. OwnTooLarge asked adds c b k x)
    (λ b k n x. BehindFront asked adds c (depth + 1) (OwnInside asked adds c (depth + 1) room) b k n x) f s m e

-- ---- what the section hooks added

-- a nested section stands in the frame
abbrev pub IsNestedFrame : Tree → Type 0
IsNestedFrame f = (id : ℕ) × (body : List ℕ) × (f ≡ numbered_frame id body) × ((id ≡ 1) ⊎ (id ≡ 4))

-- What was added in a component before an error fits: behind sections that were accepted, in which it fits, no frame begins; or one does, and
-- this is said of it. Where it is read, it is the one that was refused. Nothing was added where the header is missing.
abbrev pub FitsFront : {S E : Type 0} → Asks S E → Puts S SectionRow → ℕ → ℕ → (inside own : Stops S E) → List ℕ → S → S → Error E → Type 0
FitsFront asked adds c depth inside own bytes s m e =
    ((rest : List ℕ) → bytes ≢ component_header ++ rest)
    ⊎ ((f : AcceptedFront asked adds c depth bytes s)
    × ((t : Tree) (left : List ℕ) → BeginsSection depth f.rest t left → Framed (λ x. own x f.at m e) f.rest ⊎ (weave_in asked (added adds) c f.at t ≡ refused e m))
    × (BeginsNone frame f.rest ⊎ Framed (λ x. inside x f.at m e) f.rest))

-- Its scope was opened, and behind the push what was added fits.
abbrev pub FitsPushed : {S E : Type 0} → Asks S E → Puts S SectionRow → ℕ → ℕ → (inside own : Stops S E) → Stops S E
FitsPushed asked adds c depth inside own f s m e =
    Pushed asked (λ b k n x. FitsUpTo asked adds c b k n x) (λ b k n x. FitsFront asked adds c depth inside own b k n x) f s m e

-- What was added in a nested section before its error fits, which holds the section's place where it is of its bytes: up to where it stopped; or
-- the error is of a section that a hook was to add, which is too large; or it is read, and all that was added in it fits. So many scopes may
-- still be opened.
abbrev pub FitsInside : {S E : Type 0} → Asks S E → Puts S SectionRow → ℕ → ℕ → ℕ → Stops S E
FitsInside {S} {E} asked adds c depth zero f s m e = Unit {0}
FitsInside {S} {E} asked adds c depth (suc room) f s m e =
    IsNestedFrame f →
    ((w : Error E) × (at : ℕ) × (e ≡ placed_at w at) × (OwnInside asked adds c depth (suc room) f s m w
    ⊎ FitsPushed asked adds c (depth + 1) (FitsInside asked adds c (depth + 1) room) (OwnInside asked adds c (depth + 1) room) f s m w))
    ⊎ ((t : Tree) × ReadsSection depth f t × AddsFit asked adds c s (visits t))

-- A custom section stands in the frame, and one of its names is refused.
abbrev pub StopsNamed : {S E : Type 0} → Asks S E → ℕ → Stops S E
StopsNamed asked c f s m e = (name : List ℕ) × (contents : List ℕ) × (f ≡ custom_frame name contents) × StopsCustomOf component_custom asked c name contents s e m

-- What was refused inside a section that has no reading: a row of it; or one of its names; or what stands inside a nested one, by what
-- is said of that.
abbrev pub StopsBy : {S E : Type 0} → Asks S E → ℕ → ℕ → Stops S E → Stops S E
StopsBy asked c depth nested f s m e =
    ((id : ℕ) × (body : List ℕ) × (f ≡ numbered_frame id body) × StopsInRows asked c depth id body s m e) ⊎ StopsNamed asked c f s m e ⊎ nested f s m e

-- A nested section stands in the frame, and this error comes of it; so many scopes may still be opened.
abbrev pub StopsNested : {S E : Type 0} → Asks S E → Puts S SectionRow → ℕ → ℕ → ℕ → Stops S E
StopsNested asked adds c depth zero f s m e = ⊥
StopsNested asked adds c depth (suc room) f s m e =
    Pushed asked (λ b k n x. IsWovenCause asked adds c b k n x)
    (λ b k n x. CauseBy asked adds c (depth + 1) (StopsBy asked c (depth + 1) (StopsNested asked adds c (depth + 1) room)) (OwnInside asked adds c (depth + 1) room) b k n x) f s m e

-- ---- with so many scopes open round it

-- the scopes that may still be opened
abbrev pub room : ℕ → ℕ
room depth = 200 - depth

abbrev pub inside : {S E : Type 0} → Asks S E → Puts S SectionRow → ℕ → ℕ → Stops S E
inside asked adds c depth = StopsBy asked c depth (StopsNested asked adds c depth (room depth))

abbrev pub fits_inside : {S E : Type 0} → Asks S E → Puts S SectionRow → ℕ → ℕ → Stops S E
fits_inside asked adds c depth = FitsInside asked adds c depth (room depth)

abbrev pub own_inside : {S E : Type 0} → Asks S E → Puts S SectionRow → ℕ → ℕ → Stops S E
own_inside asked adds c depth = OwnInside asked adds c depth (room depth)

-- why an error of a component comes
abbrev pub ComponentCause : {S E : Type 0} → Asks S E → Puts S SectionRow → ℕ → ℕ → List ℕ → S → S → Error E → Type 0
ComponentCause asked adds c depth bytes s m e = CauseBy asked adds c depth (inside asked adds c depth) (own_inside asked adds c depth) bytes s m e
