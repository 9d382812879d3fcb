-- The laws of refusals: where the visit stands that was refused, and that a reencoder that refuses none gives no refusal.
use Rattle.std.specs.Prelude.{◌≡◌, ◌⊎◌, ◌-◌, ℕ, Bool, List, length, Result, Err}
use Rattle.wasm_shapes.specs.declared.Visit.{Visit}
use Rattle.wasm_shapes.specs.Drawn.{Drawn}
use Rattle.wasm_shapes.specs.Tree.{Tree, visits}
use Rattle.wasm_shapes.specs.CodeSize.{InvalidCodeSize}
use Rattle.wasm_shapes.specs.Module.{alsos, FaultAt}
use Rattle.wasm_write.specs.Sections.{SectionRow, Sections}
use Rattle.reencode_hooks.specs.declared.error.Error.{Error}
use Rattle.reencode_hooks.specs.declared.error.Error.TheVariants.{InvalidCodeSectionSize, ParseError, UserError, TooLarge, NoMemory}
use Rattle.reencode_hooks.specs.Run.{accepted, refused, run}
use Rattle.reencode_core.specs.Leaves.{Leaves, LeavesCore, Text, core_in, module_in}
use Rattle.reencode_core.specs.Rows.{Asks}
use Rattle.reencode_core.specs.Weave.{Puts}
use Rattle.reencode_core.specs.Woven.{GivesWoven, GivesWovenBytes}

-- The run over these visits ends in the refusal; or it accepts them all, and then some further visits, drawn from these bytes, end in it.
abbrev pub RefusedUpTo : {S E : Type 0} → Asks S E → S → List Visit → List ℕ → Error E → S → Type 0
RefusedUpTo {S} asked s vs rest e m =
    (run asked s vs ≡ refused e m)
    ⊎ ((given : List ℕ) × (n : S) × (further : List Visit) × (run asked s vs ≡ accepted given n) × Drawn rest further × (run asked n further ≡ refused e m))

-- no visit is refused
abbrev pub RefusesNone : {S E : Type 0} → Asks S E → Type 0
RefusesNone {S} asked = (s : S) (v : Visit) → (n : ℕ) × (m : S) × (asked s v ≡ accepted n m)

-- What a refusal of the reencoder tells, of a call that reads its bytes so: where they have a reading, the run over its visits ends in
-- it; where they have a fault, the run over the visits of the sections before it, or over further ones behind these, which are drawn
-- from the bytes from the fault on. It never comes of a reencoder that refuses no visit.
pub record RefusalTells {S E : Type 0} (asked : Asks S E) (text : List ℕ → Text) : Type 0 where
  pub reading : (bytes : List ℕ) (s m : S) (x : E) → Leaves asked (text bytes) s (UserError x) m → (t : Tree) → (text bytes).reads t → run asked s (visits t) ≡ refused (UserError x) m
  pub fault : (bytes : List ℕ) (s m : S) (x : E) → Leaves asked (text bytes) s (UserError x) m → (before : List Tree) (rest : List ℕ) → FaultAt bytes before rest →
      RefusedUpTo asked s (visits (alsos before Tree.empty)) rest (UserError x) m
  pub never : RefusesNone asked → (bytes : List ℕ) (s m : S) (x : E) → Leaves asked (text bytes) s (UserError x) m → ⊥

-- what bytes with a fault come to where no visit is refused: the fault's error, or a size that is too large, or out of memory
abbrev pub IsFaultOr : {E A : Type 0} → List ℕ → List ℕ → Result A (Error E) → Type 0
IsFaultOr bytes rest (Err InvalidCodeSectionSize) = InvalidCodeSize rest
IsFaultOr bytes rest (Err (ParseError e)) = ¬ InvalidCodeSize rest × (e.at ≡ length bytes - length rest)
IsFaultOr bytes rest (Err (TooLarge size)) = Unit {0}
IsFaultOr bytes rest (Err NoMemory) = Unit {0}
IsFaultOr bytes rest _ = ⊥

-- Where no visit is refused, bytes with a fault give its error, or a size that is too large, or out of memory: of a call that gives a
-- module's bytes, and of one that adds its sections to a module.
pub record FaultIsAnswered {S E A : Type 0} (asked : Asks S E) (adds : Puts S SectionRow) (view : A → List ℕ) : Type 0 where
  pub bytes : RefusesNone asked → (c : ℕ) (bytes : List ℕ) (s m : S) (result : Result A (Error E)) → GivesWovenBytes asked adds c bytes s m result view →
      (sure nothing : Bool) → LeavesCore sure nothing asked (core_in bytes) s m result → (before : List Tree) (rest : List ℕ) → FaultAt bytes before rest →
      IsFaultOr bytes rest result
  pub sections : RefusesNone asked → (bytes : List ℕ) (before after : S × Sections) (result : Result (Unit {0}) (Error E)) → GivesWoven asked adds bytes before after result →
      (sure nothing : Bool) → LeavesCore sure nothing asked (module_in bytes) before.0 after.0 result → (read : List Tree) (rest : List ℕ) → FaultAt bytes read rest →
      IsFaultOr bytes rest result
