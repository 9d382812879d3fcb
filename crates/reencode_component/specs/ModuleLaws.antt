-- The law of a call that maps a core module and adds its sections: what its clauses say of the bytes, in terms of their reading, its
-- visits, the run of the hooks over these and the filled reading, or of their fault. `i` are the meanings of the reencoder; `s` is its state
-- and `old` what the module holds before the call, `m` and `new` are the same after it.
use Rattle.std.specs.Prelude.{◌≢◌, ℕ, List, Result, Ok, Err, IfErr, IsTrue}
use Rattle.wasm_shapes.specs.Module.{CoreReading}
use Rattle.wasm_shapes.specs.Tree.{Tree}
use Rattle.wasm_write.specs.Sections.{Sections}
use Rattle.reencode_hooks.specs.declared.error.Error.{Error}
use Rattle.reencode_hooks.specs.declared.error.Error.TheVariants.{NoMemory}
use Rattle.reencode_hooks.specs.declared.indices.ReencodeIndices.{Ghosts}
use Rattle.reencode_core.specs.Clauses.{ModuleClauses, asks}
use Rattle.reencode_core.specs.Leaves.{CoreUpTo}
use Rattle.reencode_core.specs.Refusals.{RefusesNone}
use Rattle.reencode_component.specs.Causes.{IfFault}
use Rattle.reencode_component.specs.ComponentLaws.{AddsOrWants, AnswersFault, Filled, IfTaken, IsOfBytes, IsTaken, StopsOn, Taking}
use Rattle.reencode_component.specs.Components.{ModuleFault}

-- bytes are read as the sections of a core module behind its header
abbrev pub as_sections : Taking
as_sections = record { reads = CoreReading; faulty = CoreUpTo; fault = ModuleFault }

-- what the law says of every call with the clauses of `parse_core_module`, of a reencoder that keeps the defaults
abbrev pub OfModules : {S E : Type 0} → Ghosts S E → (List ℕ → S → Sections → S → Sections → Result (Unit {0}) (Error E) → Type 0) → Type 0
OfModules {S} {E} i P =
    (bytes : List ℕ) (s m : S) (old new : Sections) (result : Result (Unit {0}) (Error E)) → ModuleClauses i bytes s old m new result → IsTrue i.keeps_defaults →
    P bytes s old m new result

-- Where the section hooks add nothing, Ok comes only with what the reading becomes, and it comes wherever there is one that is accepted, or
-- memory runs out; any other error of bytes that are read is of the first moment of the walk that is not passed. An error tells the fault
-- of the bytes, unless it is a refusal, a size that is too large, or out of memory, and no other comes; where the section hooks add nothing,
-- all sections before the fault were then accepted. Where no visit is refused, bytes without a reading give the error of their fault, or a
-- size that is too large, or memory runs out.
pub record ModuleTells {S E : Type 0} (i : Ghosts S E) : Type 0 where
  pub output : OfModules i (λ bytes s old m new result. IsTrue i.adds_nothing → IfTaken as_sections (asks i) bytes s old m new result)
  pub complete : OfModules i (λ bytes s old m new result. IsTrue i.adds_nothing → (out : List ℕ) (n : S) → IsTaken as_sections (asks i) old.ceiling bytes s n out →
      AddsOrWants out n old m new result)
  pub stops : OfModules i (λ bytes s old m new result. IfErr result (λ e. IsTrue i.adds_nothing → e ≢ NoMemory → (t : Tree) → CoreReading bytes t → StopsOn (asks i) old.ceiling s t e m))
  pub fault : OfModules i (λ bytes s old m new result. IfErr result (λ e. IfFault e (ModuleFault bytes)))
  pub accepted : OfModules i (λ bytes s old m new result. IfErr result (λ e. IsTrue i.adds_nothing → IsOfBytes e → (t : Tree) (rest : List ℕ) → CoreUpTo bytes t rest →
      (n : S) × Filled (asks i) old.ceiling s t n))
  pub unread : OfModules i (λ bytes s old m new result. RefusesNone (asks i) → ((t : Tree) → CoreReading bytes t → ⊥) → AnswersFault (ModuleFault bytes) result)
