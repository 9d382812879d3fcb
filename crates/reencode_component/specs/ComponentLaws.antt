-- The laws of components: what the clauses of a call that maps one say of the bytes it reads, in terms of their reading, its visits, the
-- run of the hooks over these, the filled reading, its normal spelling and its frames. `i` are the meanings of the reencoder; `s` is its
-- state and `old` what the component holds before the call, `m` and `new` are the same after it.
use Rattle.std.specs.Prelude.{◌≡◌, ◌≢◌, ◌⊎◌, ℕ, List, Result, Ok, Err, IsTrue}
use Rattle.wasm_leb.specs.declared.fault.Fault.{Fault}
use Rattle.wasm_shapes.specs.Fits.{Fits}
use Rattle.wasm_shapes.specs.Tree.{Tree, fill, normal, visits}
use Rattle.wasm_shapes.specs.Types.{rows_tree}
use Rattle.wasm_write.specs.Sections.{SectionRow, Sections, sections_bytes}
use Rattle.reencode_hooks.specs.declared.error.Error.{Error}
use Rattle.reencode_hooks.specs.declared.error.Error.TheVariants.{InvalidCodeSectionSize, UnexpectedNonCoreModuleSection, UnexpectedNonComponentSection, ParseError, UserError, NoMemory}
use Rattle.reencode_hooks.specs.declared.indices.ReencodeIndices.{Ghosts}
use Rattle.reencode_hooks.specs.Hooks.{Gains}
use Rattle.reencode_hooks.specs.Moments.{Stops, moments}
use Rattle.reencode_hooks.specs.Run.{accepted, answers, refused, run}
use Rattle.reencode_core.specs.Clauses.{asks}
use Rattle.reencode_core.specs.Errors.{IfRefused}
use Rattle.reencode_core.specs.Refusals.{RefusedUpTo, RefusesNone}
use Rattle.reencode_core.specs.Rows.{Asks}
use Rattle.reencode_component.specs.Causes.{IfFault, inside}
use Rattle.reencode_component.specs.ComponentClauses.{ComponentClauses}
use Rattle.reencode_component.specs.ComponentLeaves.{ComponentUpTo}
use Rattle.reencode_component.specs.Components.{ComponentFault, FaultAt, Framed, ComponentReading}

-- What a law says of every call that answered this, from its clauses: the depth, the bytes, and what stood before and after it.
abbrev pub OfCalls : {S E : Type 0} → Ghosts S E → (ℕ → List ℕ → S → Sections → S → Sections → Result (Unit {0}) (Error E) → Type 0) → Type 0
OfCalls {S} {E} i P =
    (depth : ℕ) (bytes : List ℕ) (s m : S) (old new : Sections) (result : Result (Unit {0}) (Error E)) → ComponentClauses i depth bytes s old m new result →
    IsTrue i.keeps_defaults → P depth bytes s old m new result

-- the same of those that answered an error
abbrev pub OfErrors : {S E : Type 0} → Ghosts S E → (ℕ → List ℕ → S → Sections → S → Sections → Error E → Type 0) → Type 0
OfErrors {S} {E} i P =
    (depth : ℕ) (bytes : List ℕ) (s m : S) (old new : Sections) (e : Error E) → ComponentClauses i depth bytes s old m new (Err e) →
    IsTrue i.keeps_defaults → P depth bytes s old m new e

-- ---- output

-- The trees of the sections were accepted: the run over their visits gave these answers and left this state, and no frame of the filled
-- tree is above the ceiling.
pub record Filled {S E : Type 0} (asked : Asks S E) (ceiling : ℕ) (s : S) (t : Tree) (m : S) : Type 0 where
  pub given : List ℕ
  pub ran : run asked s (visits t) ≡ accepted given m
  pub fits : Fits (fill t given) ceiling

-- How a call takes its bytes: which trees they are read as; which sections stand in front of the first place where none begins that is read,
-- where bytes are left, which are these; and what is wrong with them.
pub record Taking : Type 1 where
  pub reads : List ℕ → Tree → Type 0
  pub faulty : List ℕ → Tree → List ℕ → Type 0
  pub fault : List ℕ → Fault → Type 0

-- as a component
abbrev pub as_component : ℕ → Taking
as_component depth = record { reads = ComponentReading depth; faulty = ComponentUpTo depth; fault = ComponentFault depth }

-- The bytes are read as this tree, whose visits were accepted and whose filled frames fit; the output is the normal spelling of the filled
-- tree, and the state is the one that the run leaves.
pub record IsTaken {S E : Type 0} (k : Taking) (asked : Asks S E) (ceiling : ℕ) (bytes : List ℕ) (s m : S) (out : List ℕ) : Type 0 where
  pub tree : Tree
  pub reads : k.reads bytes tree
  pub filled : Filled asked ceiling s tree m
  pub spelled : out ≡ normal (fill tree filled.given)

-- sections were added, and no more, and this is their spelling
pub record Adds (old new : Sections) (out : List ℕ) : Type 0 where
  pub rows : List SectionRow
  pub gains : Gains old new rows
  pub spelled : sections_bytes rows ≡ out

-- with Ok, what was added is what the bytes' reading becomes
abbrev pub IfTaken : {S E : Type 0} → Taking → Asks S E → List ℕ → S → Sections → S → Sections → Result (Unit {0}) (Error E) → Type 0
IfTaken k asked bytes s old m new (Ok _) = (out : List ℕ) × Adds old new out × IsTaken k asked old.ceiling bytes s m out
IfTaken k asked bytes s old m new (Err e) = Unit {0}

-- Where the section hooks add nothing, Ok comes only where the bytes are read as a component at this depth, whose visits are accepted and
-- whose filled frames fit; what was added is the normal spelling of the filled tree, and the state is the one that the run leaves.
abbrev pub OkIsReencoded : {S E : Type 0} → Ghosts S E → Type 0
OkIsReencoded i = OfCalls i (λ depth bytes s old m new result. IsTrue i.adds_nothing → IfTaken (as_component depth) (asks i) bytes s old m new result)

-- sections of this spelling were added, and this is the state that is left; or memory ran out
abbrev pub AddsOrWants : {S E : Type 0} → List ℕ → S → Sections → S → Sections → Result (Unit {0}) (Error E) → Type 0
AddsOrWants out n old m new (Ok _) = Adds old new out × (m ≡ n)
AddsOrWants out n old m new (Err e) = e ≡ NoMemory

-- Where the section hooks add nothing, bytes that are read as such a component come to that output and that state, or memory runs out.
abbrev pub ReencodedIsAnswered : {S E : Type 0} → Ghosts S E → Type 0
ReencodedIsAnswered {S} i =
    OfCalls i (λ depth bytes s old m new result. IsTrue i.adds_nothing → (out : List ℕ) (n : S) → IsTaken (as_component depth) (asks i) old.ceiling bytes s n out → AddsOrWants out n old m new result)

-- ---- bytes with a fault

-- an error that tells such a fault of the bytes, or a size that is too large, or out of memory; no refusal, and no output
abbrev pub AnswersFault : {E : Type 0} → (Fault → Type 0) → Result (Unit {0}) (Error E) → Type 0
AnswersFault P (Ok _) = ⊥
AnswersFault P (Err (UserError _)) = ⊥
AnswersFault P (Err e) = IfFault e P

-- Where no visit is refused, bytes that are read as no component come to the error of their fault, or to a size that is too large, or
-- memory runs out; and the fault is the one that they have.
pub record UnreadIsAnswered {S E : Type 0} (i : Ghosts S E) : Type 0 where
  pub unread : OfCalls i (λ depth bytes s old m new result. RefusesNone (asks i) → ((t : Tree) → ComponentReading depth bytes t → ⊥) → AnswersFault (ComponentFault depth bytes) result)
  pub fault : OfCalls i (λ depth bytes s old m new result. RefusesNone (asks i) → (x : Fault) → ComponentFault depth bytes x → AnswersFault (λ y. y ≡ x) result)

-- ---- refusals

-- The first moment of the walk over these sections that is not passed gave the error: a visit that was refused, or the closing of a frame
-- above the ceiling, of which the error then holds the length.
abbrev pub StopsOn : {S E : Type 0} → Asks S E → ℕ → S → Tree → Error E → S → Type 0
StopsOn asked ceiling s t e m = Stops asked ceiling s (moments t (answers asked s (visits t))) e m

-- Of sections in front of a fault: one of the moments of their walk gave the error; or they were all accepted, and it comes of what
-- stands inside the section in fault, before that.
abbrev pub StopsBefore : {S E : Type 0} → Ghosts S E → ℕ → ℕ → S → List Tree → List ℕ → Error E → S → Type 0
StopsBefore {S} i ceiling depth s before rest e m =
    StopsOn (asks i) ceiling s (rows_tree before) e m
    ⊎ ((n : S) × Filled (asks i) ceiling s (rows_tree before) n × Framed (λ f. inside (asks i) i.adds ceiling depth f n m e) rest)

-- What a refusal of the reencoder tells: where the bytes are read as a component, the run over its visits ends in it; where they have a
-- fault behind their header, the run over the visits of the sections before it, or over further ones behind these, which are drawn from
-- the bytes from the fault on. It never comes of a reencoder that refuses no visit. And where the section hooks add nothing, any error but
-- out of memory of bytes that are read is of the first moment that is not passed: no frame above the ceiling closes before a visit that is
-- refused, and all visits before a frame above the ceiling are accepted. Where they have a fault, so is a refusal, or a size that is too
-- large, that comes of the sections before it.
pub record ComponentRefusalTells {S E : Type 0} (i : Ghosts S E) : Type 0 where
  pub reading : OfErrors i (λ depth bytes s old m new e. (x : E) → e ≡ UserError x → (t : Tree) → ComponentReading depth bytes t → run (asks i) s (visits t) ≡ refused e m)
  pub fault : OfErrors i (λ depth bytes s old m new e. (x : E) → e ≡ UserError x → (before : List Tree) (rest : List ℕ) → FaultAt depth bytes before rest →
      RefusedUpTo (asks i) s (visits (rows_tree before)) rest e m)
  pub never : OfErrors i (λ depth bytes s old m new e. RefusesNone (asks i) → (x : E) → e ≢ UserError x)
  pub stops : OfErrors i (λ depth bytes s old m new e. IsTrue i.adds_nothing → e ≢ NoMemory → (t : Tree) → ComponentReading depth bytes t → StopsOn (asks i) old.ceiling s t e m)
  pub stops_before : OfErrors i (λ depth bytes s old m new e. IsTrue i.adds_nothing → (before : List Tree) (rest : List ℕ) → FaultAt depth bytes before rest →
      IfRefused e (StopsBefore i old.ceiling depth s before rest e m))

-- ---- what a fault leaves

-- an error of the bytes
abbrev pub IsOfBytes : {E : Type 0} → Error E → Type 0
IsOfBytes (ParseError _) = Unit {0}
IsOfBytes InvalidCodeSectionSize = Unit {0}
IsOfBytes UnexpectedNonCoreModuleSection = Unit {0}
IsOfBytes UnexpectedNonComponentSection = Unit {0}
IsOfBytes _ = ⊥

-- sections were accepted, and what they became was added, and no more: the normal spelling of the filled tree
pub record AddsFilled {S E : Type 0} (asked : Asks S E) (s : S) (old : Sections) (t : Tree) (new : Sections) : Type 0 where
  pub at : S
  pub filled : Filled asked old.ceiling s t at
  pub adds : Adds old new (normal (fill t filled.given))

-- With an error of the bytes whose fault stands behind their header, where the section hooks add nothing, all sections before the fault
-- were accepted, and what they became was added, and no more.
abbrev pub ComponentFaultGains : {S E : Type 0} → Ghosts S E → Type 0
ComponentFaultGains i =
    OfErrors i (λ depth bytes s old m new e. IsTrue i.adds_nothing → IsOfBytes e → (before : List Tree) (rest : List ℕ) → FaultAt depth bytes before rest →
    AddsFilled (asks i) s old (rows_tree before) new)
