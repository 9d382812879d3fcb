-- The laws of whole binaries: what the clauses of a call that answers the bytes of a new one say of those it takes, in terms of their
-- reading, its visits, the run of the hooks over these, the filled reading, its normal spelling and its frames. `i` are the meanings of the
-- reencoder; `s` is its state before the call, and `m` the one after it.
use Rattle.std.specs.Prelude.{◌≡◌, ◌≢◌, ◌⊎◌, ℕ, List, Result, Ok, Err, IfOk, IsTrue}
use Rattle.wasm_leb.specs.declared.fault.Fault.{Fault}
use Rattle.wasm_shapes.specs.declared.Visit.{Visit}
use Rattle.wasm_shapes.specs.Component.{component_tree}
use Rattle.wasm_shapes.specs.Module.{core_module}
use Rattle.wasm_shapes.specs.Spells.{Spells}
use Rattle.wasm_shapes.specs.Tree.{Tree, visits}
use Rattle.reencode_hooks.specs.declared.error.Error.{Error}
use Rattle.reencode_hooks.specs.declared.error.Error.TheVariants.{UnexpectedNonCoreModuleSection, UserError, NoMemory}
use Rattle.reencode_hooks.specs.declared.indices.ReencodeIndices.{Ghosts}
use Rattle.reencode_hooks.specs.Run.{refused, run}
use Rattle.reencode_core.specs.Clauses.{BytesClauses, asks}
use Rattle.reencode_core.specs.Leaves.{CoreUpTo}
use Rattle.reencode_core.specs.Refusals.{RefusedUpTo, RefusesNone}
use Rattle.reencode_core.specs.Woven.{IsOrWants}
use Rattle.reencode_component.specs.Causes.{IfFault}
use Rattle.reencode_component.specs.ComponentLaws.{AnswersFault, Filled, IsOfBytes, IsTaken, StopsOn, Taking}
use Rattle.reencode_component.specs.ComponentLeaves.{ComponentUpTo, NoComponentHeading}
use Rattle.reencode_component.specs.Components.{ComponentFault, ModuleFault, ComponentReading}
use Rattle.reencode_component.specs.Within.{HasComponentHeading, WithinClauses, ended}

-- ---- what bytes are taken as

-- as a core module
abbrev pub as_module : Taking
as_module = record { reads = Spells core_module; faulty = CoreUpTo; fault = ModuleFault }

-- the bytes are a core module, or a component with no scope open round it
abbrev pub ReadsBinary : List ℕ → Tree → Type 0
ReadsBinary bytes t = Spells core_module bytes t ⊎ ((u : Tree) × (t ≡ component_tree u) × ComponentReading 0 bytes u)

-- bytes that begin with the header of a component have the fault of one, and all others that of a core module
abbrev pub BinaryFault : List ℕ → Fault → Type 0
BinaryFault bytes x = (NoComponentHeading bytes × ModuleFault bytes x) ⊎ (HasComponentHeading bytes × ComponentFault 0 bytes x)

-- as a core module or a component, by the header
abbrev pub as_binary : Taking
as_binary = record { reads = ReadsBinary; faulty = λ bytes t rest. CoreUpTo bytes t rest ⊎ ComponentUpTo 0 bytes t rest; fault = BinaryFault }

-- ---- calls

-- What a call promises, by its ceiling, its bytes, the reencoder before and after it, and what it answered.
abbrev pub Promises : Type 0 → Type 0 → Type 0 → Type 1
Promises S E A = ℕ → List ℕ → S → S → Result A (Error E) → Type 0

-- what is promised where a core module is taken, and where any binary is
abbrev pub of_module : {S E A : Type 0} → Ghosts S E → (A → List ℕ) → Promises S E A
of_module i view = λ ceiling bytes s m result. BytesClauses i ceiling bytes s m result view

abbrev pub of_binary : {S E A : Type 0} → Ghosts S E → (A → List ℕ) → Promises S E A
of_binary i view = λ ceiling bytes s m result. WithinClauses i ceiling bytes s m result view

-- what a law says of every call with these promises
abbrev pub OfAnswers : {S E A : Type 0} → Ghosts S E → Promises S E A → Promises S E A → Type 0
OfAnswers {S} {E} {A} i promised P =
    (ceiling : ℕ) (bytes : List ℕ) (s m : S) (result : Result A (Error E)) → promised ceiling bytes s m result → IsTrue i.keeps_defaults → P ceiling bytes s m result

-- the same of those that answered an error
abbrev pub OfRefusals : {S E A : Type 0} → Ghosts S E → Promises S E A → (ℕ → List ℕ → S → S → Error E → Type 0) → Type 0
OfRefusals {S} {E} i promised P =
    (ceiling : ℕ) (bytes : List ℕ) (s m : S) (e : Error E) → promised ceiling bytes s m (Err e) → IsTrue i.keeps_defaults → P ceiling bytes s m e

-- ---- output

-- Where the section hooks add nothing, Ok comes only with the output of the bytes' reading, and it comes wherever there is one, or
-- memory runs out. Bytes without a reading give, where no visit is refused, the error of their fault, or a size that is too large, or
-- memory runs out.
pub record OutputIsTaken {S E A : Type 0} (k : Taking) (i : Ghosts S E) (promised : Promises S E A) (view : A → List ℕ) : Type 0 where
  pub output : OfAnswers i promised (λ ceiling bytes s m result. IsTrue i.adds_nothing → IfOk result (λ out. IsTaken k (asks i) ceiling bytes s m (view out)))
  pub complete : OfAnswers i promised (λ ceiling bytes s m result. IsTrue i.adds_nothing → (out : List ℕ) (n : S) → IsTaken k (asks i) ceiling bytes s n out →
      IsOrWants out n m result view)
  pub unread : OfAnswers i promised (λ ceiling bytes s m result. RefusesNone (asks i) → ((t : Tree) → k.reads bytes t → ⊥) → AnswersFault (k.fault bytes) (ended result))

-- ---- errors

-- What an error tells: the fault of the bytes, unless it is a refusal, a size that is too large, or out of memory; and no other comes. Where
-- the section hooks add nothing, all sections before the fault were then accepted. A refusal of the reencoder is that of the run over
-- the visits of the reading, or where there is none, of the sections before the fault, or of further ones behind these, which are drawn
-- from the bytes from the fault on; it is of the last visit that was made, and none comes of a reencoder that refuses no visit. Of bytes that are read, where the section hooks add
-- nothing, any error but out of memory is of the first moment of the walk that is not passed: a visit that is refused, or a frame above the
-- ceiling that closes.
pub record ErrorTells {S E A : Type 0} (k : Taking) (i : Ghosts S E) (promised : Promises S E A) : Type 0 where
  pub fault : OfRefusals i promised (λ ceiling bytes s m e. IfFault e (k.fault bytes))
  pub accepted : OfRefusals i promised (λ ceiling bytes s m e. IsTrue i.adds_nothing → IsOfBytes e → (t : Tree) (rest : List ℕ) → k.faulty bytes t rest →
      (n : S) × Filled (asks i) ceiling s t n)
  pub reading : OfRefusals i promised (λ ceiling bytes s m e. (x : E) → e ≡ UserError x → (t : Tree) → k.reads bytes t → run (asks i) s (visits t) ≡ refused e m)
  pub further : OfRefusals i promised (λ ceiling bytes s m e. (x : E) → e ≡ UserError x → (t : Tree) (rest : List ℕ) → k.faulty bytes t rest →
      RefusedUpTo (asks i) s (visits t) rest e m)
  pub last : OfRefusals i promised (λ ceiling bytes s m e. (x : E) → e ≡ UserError x → (made : List Visit) × (run (asks i) s made ≡ refused e m))
  pub never : OfRefusals i promised (λ ceiling bytes s m e. RefusesNone (asks i) → (x : E) → e ≢ UserError x)
  pub stops : OfRefusals i promised (λ ceiling bytes s m e. IsTrue i.adds_nothing → e ≢ NoMemory → (t : Tree) → k.reads bytes t → StopsOn (asks i) ceiling s t e m)

-- No binary without the header of a component gives the error that one stands where a core module is due.
abbrev pub KindTells : {S E A : Type 0} → Ghosts S E → Promises S E A → Type 0
KindTells i promised = OfRefusals i promised (λ ceiling bytes s m e. NoComponentHeading bytes → e ≢ UnexpectedNonCoreModuleSection)
