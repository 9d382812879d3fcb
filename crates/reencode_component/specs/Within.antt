-- What a call promises that takes a whole binary and answers the bytes of the new one. `i` are the meanings of the reencoder; `s` is its
-- state before the call, and `m` the one after it.
use Rattle.std.specs.Prelude.{◌≡◌, ◌⊎◌, ℕ, List, [], ◌++◌, Result, Ok, Err, IfOk}
use Rattle.wasm_shapes.specs.Module.{component_header}
use Rattle.wasm_write.specs.Sections.{Sections}
use Rattle.wasm_write_component.specs.ComponentBytes.{component_bytes}
use Rattle.reencode_hooks.specs.declared.error.Error.{Error}
use Rattle.reencode_hooks.specs.declared.error.Error.TheVariants.{NoMemory}
use Rattle.reencode_hooks.specs.declared.indices.ReencodeIndices.{Ghosts}
use Rattle.reencode_core.specs.Clauses.{BytesClauses}
use Rattle.reencode_component.specs.ComponentClauses.{ComponentClauses}
use Rattle.reencode_component.specs.ComponentLeaves.{NoComponentHeading}

-- the bytes begin with the header of a component
abbrev pub HasComponentHeading : List ℕ → Type 0
HasComponentHeading bytes = (rest : List ℕ) × (bytes ≡ component_header ++ rest)

-- the answer of a call, without what it gives with Ok
abbrev pub ended : {E A : Type 0} → Result A (Error E) → Result (Unit {0}) (Error E)
ended (Ok _) = Ok tt
ended (Err e) = Err e

-- A component without sections was made, and gained what `parse_component` promises, with no scope open round it. With Ok the answer is
-- the header, and the sections that were added.
pub record ComponentBytes {S E A : Type 0} (i : Ghosts S E) (ceiling : ℕ) (bytes : List ℕ) (s m : S) (result : Result A (Error E)) (view : A → List ℕ) : Type 0 where
  pub made : Sections
  pub gives : ComponentClauses i 0 bytes s (record { ceiling = ceiling; sections = [] }) m made (ended result)
  pub spelled : IfOk result (λ out. view out ≡ component_bytes made.sections)

-- The bytes of a component are answered; or memory ran out before anything was asked.
abbrev pub ComponentBytesClauses : {S E A : Type 0} → Ghosts S E → ℕ → List ℕ → S → S → Result A (Error E) → (A → List ℕ) → Type 0
ComponentBytesClauses i ceiling bytes s m result view = ((result ≡ Err NoMemory) × (m ≡ s)) ⊎ ComponentBytes i ceiling bytes s m result view

-- Bytes with the header of a component are taken as one, and all others as those of a core module, as `reencode_core` does.
abbrev pub WithinClauses : {S E A : Type 0} → Ghosts S E → ℕ → List ℕ → S → S → Result A (Error E) → (A → List ℕ) → Type 0
WithinClauses i ceiling bytes s m result view =
    record {
      core : NoComponentHeading bytes → BytesClauses i ceiling bytes s m result view;
      component : HasComponentHeading bytes → ComponentBytesClauses i ceiling bytes s m result view;
    }
