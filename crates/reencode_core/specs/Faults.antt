-- The laws of fronts and faults: what stands in front in a module's bytes, what those that have no reading come to, and what then stands
-- in the module.
use Rattle.std.specs.Prelude.{◌≡◌, ◌-◌, ◌++◌, ℕ, List, length}
use Rattle.wasm_shapes.specs.Tree.{Tree}
use Rattle.wasm_shapes.specs.CodeSize.{InvalidCodeSize}
use Rattle.wasm_shapes.specs.Module.{core_header, FaultAt, Front, NoCoreReading}
use Rattle.wasm_write.specs.Sections.{Sections, SectionRow}
use Rattle.reencode_hooks.specs.declared.error.Error.{Error}
use Rattle.reencode_hooks.specs.declared.error.Error.TheVariants.{InvalidCodeSectionSize, ParseError, UserError, TooLarge, NoMemory}
use Rattle.reencode_core.specs.Leaves.{TellsFault}
use Rattle.reencode_core.specs.Rows.{Asks}
use Rattle.reencode_core.specs.Core.{RefusedIn, IsCause}
use Rattle.reencode_core.specs.Weave.{Puts}
use Rattle.reencode_core.specs.Woven.{GainsFront}

-- Bytes with the header of a core module have a front: it is refuted that there is none.
abbrev pub HasFront : Type 0
HasFront = (bytes start : List ℕ) → bytes ≡ core_header ++ start → ¬ ((before : List Tree) (rest : List ℕ) → ¬ Front bytes before rest)

-- They have a reading, or a fault: it is refuted that there is neither.
abbrev pub ReadsOrFails : Type 0
ReadsOrFails =
    (bytes start : List ℕ) → bytes ≡ core_header ++ start → NoCoreReading bytes → ¬ ((before : List Tree) (rest : List ℕ) → ¬ FaultAt bytes before rest)

-- Two fronts of the same bytes are one.
abbrev pub OneFront : Type 0
OneFront =
    (bytes : List ℕ) (before others : List Tree) (rest left : List ℕ) → Front bytes before rest → Front bytes others left → (before ≡ others) × (rest ≡ left)

-- The errors where these bytes are left at the first place where no section begins: the place, or where a code section states a
-- size past the end, that; a refusal, or a size that is too large, which is then one of the sections before; or out of memory.
abbrev pub FaultGives : {S E : Type 0} → Asks S E → ℕ → List ℕ → S → S → List Tree → List ℕ → Error E → Type 0
FaultGives asked c bytes s m before rest InvalidCodeSectionSize = InvalidCodeSize rest
FaultGives asked c bytes s m before rest (ParseError e) = ¬ InvalidCodeSize rest × (e.at ≡ length bytes - length rest)
FaultGives asked c bytes s m before rest (UserError x) = InvalidCodeSize rest → RefusedIn asked c s before (UserError x) m
FaultGives asked c bytes s m before rest (TooLarge size) = InvalidCodeSize rest → RefusedIn asked c s before (TooLarge size) m
FaultGives asked c bytes s m before rest NoMemory = Unit {0}
FaultGives asked c bytes s m before rest _ = ⊥

-- bytes with a fault have no reading, and the fault says which error comes
pub record FaultTells {S E : Type 0} (asked : Asks S E) : Type 0 where
  pub none : (bytes : List ℕ) (before : List Tree) (rest : List ℕ) → FaultAt bytes before rest → NoCoreReading bytes
  pub told : (c : ℕ) (bytes : List ℕ) (s m : S) (e : Error E) → IsCause asked c bytes s m e → (before : List Tree) (rest : List ℕ) → FaultAt bytes before rest →
      FaultGives asked c bytes s m before rest e

-- With an error of the bytes the sections of which the module gained what they became are all those before the fault.
abbrev pub FaultGains : {S E : Type 0} → Asks S E → Puts S SectionRow → Type 0
FaultGains {S} {E} asked adds =
    (c : ℕ) (bytes : List ℕ) (before after : S × Sections) (e : Error E) (g : GainsFront asked adds c bytes before after e) → TellsFault e
    → (read : List Tree) (rest : List ℕ) → FaultAt bytes read rest → (g.front.read ≡ read) × (g.front.rest ≡ rest)
