-- What the calls that map a whole core module give.
use Rattle.std.specs.Prelude.{◌≡◌, ◌≢◌, ◌-◌, ◌⊎◌, ℕ, List, [], ◌++◌, length, Option, Some, None, Result, Ok, Err, IfOk, IfErr}
use Rattle.wasm_shapes.specs.declared.SectionId.{SectionId}
use Rattle.wasm_shapes.specs.declared.Visit.TheVariants.{Section}
use Rattle.wasm_shapes.specs.Tree.{Tree, normal}
use Rattle.wasm_shapes.specs.Spells.{Spells}
use Rattle.wasm_shapes.specs.CodeSize.{InvalidCodeSize}
use Rattle.wasm_shapes.specs.Module.{core_header, component_header, core_module, alsos, frame, FaultAt, CoreReading}
use Rattle.wasm_shapes.specs.Place.{Begins}
use Rattle.wasm_shapes.specs.SectionTable.{number}
use Rattle.wasm_read.specs.Frames.{numbered_frame}
use Rattle.wasm_write.specs.Sections.{Sections, SectionRow, sections_bytes}
use Rattle.reencode_hooks.specs.declared.error.Error.{Error}
use Rattle.reencode_hooks.specs.declared.error.Error.TheVariants.{InvalidCodeSectionSize, UnexpectedNonCoreModuleSection, ParseError, UserError, TooLarge, NoMemory}
use Rattle.reencode_hooks.specs.Run.{Step, accepted, refused, and_then}
use Rattle.reencode_hooks.specs.Walk.{walk, walk_from, announced, followed}
use Rattle.reencode_hooks.specs.Hooks.{Gains}
use Rattle.reencode_core.specs.Rows.{Asks}
use Rattle.reencode_core.specs.Sections.{StopsSection}
use Rattle.reencode_core.specs.Names.{StopsInNames}

-- ---- sections one behind another

-- a section and the section hook before it
abbrev pub hooked : {S E : Type 0} → Asks S E → ℕ → Option SectionId → S → Tree → Step S (Error E) Tree
hooked asked c last s t = and_then (announced asked s last t) (λ _ m. walk asked c m t)

-- the same, and the closing hook behind it
abbrev pub closed_off : {S E : Type 0} → Asks S E → ℕ → Option SectionId → S → Tree → Step S (Error E) Tree
closed_off asked c last s t = and_then (hooked asked c last s t) (λ u n. and_then (followed asked n t) (λ _ m. accepted u m))

-- sections that were accepted, in front of a step over those behind them
abbrev pub onto : {S E : Type 0} → List Tree → Step S (Error E) Tree → Step S (Error E) Tree
onto made step = and_then step (λ u m. accepted (alsos made u) m)

-- These sections are accepted, whatever stands behind them, and become those; what stands behind them is walked from here,
-- behind a section of that kind.
abbrev pub AcceptsSections : {S E : Type 0} → Asks S E → ℕ → S → List Tree → List Tree → Option SectionId → S → Type 0
AcceptsSections asked c s read made last m =
    (others : Tree) → walk asked c s (alsos read others) ≡ onto made (walk_from asked c last m others)

-- The first of these sections is refused, or the section hook before it, and nothing of it was added; or it was accepted and added, and
-- the closing hook behind it is refused; or the section hook at the end.
abbrev pub RefusesNext : {S E : Type 0} → Asks S E → ℕ → Option SectionId → S → Tree → List SectionRow → Error E → S → Type 0
RefusesNext {S} asked c last s (Tree.also t others) own e m =
    ((own ≡ []) × (e ≢ NoMemory → hooked asked c last s t ≡ refused e m))
    ⊎ ((u : Tree) × (n : S) × (hooked asked c last s t ≡ accepted u n) × (sections_bytes own ≡ normal u) × (e ≢ NoMemory → followed asked n t ≡ refused e m))
RefusesNext asked c last s Tree.finish own e m = (own ≡ []) × (e ≢ NoMemory → asked s (Section last None) ≡ refused e m)
RefusesNext asked c last s _ own e m = ⊥

-- The sections before the refused visit were accepted, and what they became was added, and no more.
pub record StopsSections {S E : Type 0} (asked : Asks S E) (c : ℕ) (before : S × Sections) (t : Tree) (after : S × Sections) (e : Error E) : Type 0 where
  pub read : List Tree
  pub others : Tree
  pub made : List Tree
  pub rows : List SectionRow
  pub own : List SectionRow
  pub last : Option SectionId
  pub at : S
  pub parts : t ≡ alsos read others
  pub accepts : AcceptsSections asked c before.0 read made last at
  pub gains : Gains before.1 after.1 (rows ++ own)
  pub spelled : sections_bytes rows ≡ normal (alsos made Tree.finish)
  pub refuses : RefusesNext asked c last at others own e after.0

-- The sections became others, which were added, or one of them was refused, or a section hook.
abbrev pub GivesModule : {S E : Type 0} → Asks S E → S × Sections → Tree → S × Sections → Result (Unit {0}) (Error E) → Type 0
GivesModule asked before t after (Ok _) =
    (u : Tree) × (rows : List SectionRow) × (walk asked before.1.ceiling before.0 t ≡ accepted u after.0) × Gains before.1 after.1 rows
    × (sections_bytes rows ≡ normal u)
GivesModule asked before t after (Err e) = StopsSections asked before.1.ceiling before t after e

-- ---- errors

-- neither header stands there
abbrev pub NoHeader : List ℕ → Type 0
NoHeader bytes = (rest : List ℕ) → (bytes ≢ core_header ++ rest) × (bytes ≢ component_header ++ rest)

-- the walk of some sections is refused, whatever stands behind them
abbrev pub RefusedIn : {S E : Type 0} → Asks S E → ℕ → S → List Tree → Error E → S → Type 0
RefusedIn asked c s before e m = (others : Tree) → walk asked c s (alsos before others) ≡ refused e m

-- the header of a component stands there, and nothing was asked
abbrev pub NonCore : {S : Type 0} → List ℕ → S → S → Type 0
NonCore bytes s m = (rest : List ℕ) × (bytes ≡ component_header ++ rest) × (m ≡ s)

-- Neither header stands there, the place is 0 and nothing was asked; or the place is the first where no section begins, no size of
-- a code section is at fault there, and all sections before it were accepted.
abbrev pub FaultThere : {S E : Type 0} → Asks S E → ℕ → List ℕ → S → S → ℕ → Type 0
FaultThere {S} asked c bytes s m at =
    (NoHeader bytes × (at ≡ 0) × (m ≡ s))
    ⊎ ((before : List Tree) × (rest : List ℕ) × FaultAt bytes before rest × ¬ InvalidCodeSize rest × (at ≡ length bytes - length rest)
    × (made : List Tree) × (last : Option SectionId) × (n : S) × AcceptsSections asked c s before made last n)

-- At the first place where no section begins the size of a code section is at fault; all sections before it were accepted, and
-- nothing further was asked.
abbrev pub CodeSizeThere : {S E : Type 0} → Asks S E → ℕ → List ℕ → S → S → Type 0
CodeSizeThere asked c bytes s m =
    (before : List Tree) × (rest : List ℕ) × FaultAt bytes before rest × InvalidCodeSize rest
    × (made : List Tree) × (last : Option SectionId) × AcceptsSections asked c s before made last m

-- A section that has no reading stands there in its frame. The section hook before it is refused; or that is accepted, and a row of
-- the section is refused, or a part of a function body that stands in its frame.
pub record StopsInside {S E : Type 0} (asked : Asks S E) (c : ℕ) (bytes : List ℕ) (last : Option SectionId) (s : S) (e : Error E) (m : S) : Type 0 where
  pub id : SectionId
  pub body : List ℕ
  pub left : List ℕ
  pub framed : Begins frame bytes (numbered_frame (number id) body) left
  pub stops : (asked s (Section last (Some id)) ≡ refused e m)
      ⊎ ((n : S) × (asked s (Section last (Some id)) ≡ accepted 0 n) × StopsSection asked c id body n e m)

-- A section that has no reading stands there in its frame, and the section hook before it is refused, or what stands whole in it is: a
-- row, a part of a function body, or of a name section a subsection or an entry of one.
abbrev pub StopsThere : {S E : Type 0} → Asks S E → ℕ → List ℕ → Option SectionId → S → Error E → S → Type 0
StopsThere asked c bytes last s e m = StopsInside asked c bytes last s e m ⊎ StopsInNames asked c bytes s e m

-- A refusal, or a size that is too large: where the bytes have no reading, it comes of the sections before the fault; or all of
-- these were accepted, and it comes of what stands whole, before the fault, in the section in fault.
abbrev pub BeforeFault : {S E : Type 0} → Asks S E → ℕ → List ℕ → S → S → Error E → Type 0
BeforeFault {S} asked c bytes s m e =
    ((rest : List ℕ) × (bytes ≡ core_header ++ rest))
    × ((before : List Tree) (rest : List ℕ) → FaultAt bytes before rest → RefusedIn asked c s before e m
    ⊎ ((made : List Tree) × (last : Option SectionId) × (n : S) × AcceptsSections asked c s before made last n × StopsThere asked c rest last n e m))

-- why an error comes; no error comes of which nothing is said here
abbrev pub IsCause : {S E : Type 0} → Asks S E → ℕ → List ℕ → S → S → Error E → Type 0
IsCause asked c bytes s m InvalidCodeSectionSize = CodeSizeThere asked c bytes s m
IsCause asked c bytes s m UnexpectedNonCoreModuleSection = NonCore bytes s m
IsCause asked c bytes s m (ParseError e) = FaultThere asked c bytes s m e.at
IsCause asked c bytes s m (UserError e) = BeforeFault asked c bytes s m (UserError e)
IsCause asked c bytes s m (TooLarge size) = BeforeFault asked c bytes s m (TooLarge size)
IsCause asked c bytes s m NoMemory = Unit {0}
IsCause asked c bytes s m _ = ⊥

-- ---- the module, and its bytes

-- What a call that maps the bytes of a module gives: the walk over what is read, whose sections were added, or why not.
pub record GivesCore {S E : Type 0} (asked : Asks S E) (bytes : List ℕ) (before after : S × Sections) (result : Result (Unit {0}) (Error E)) : Type 0 where
  pub reading : (t : Tree) → CoreReading bytes t → GivesModule asked before t after result
  pub readable : IfOk result (λ _. (t : Tree) × CoreReading bytes t)
  pub cause : IfErr result (IsCause asked before.1.ceiling bytes before.0 after.0)

-- The bytes of the walk's tree are the answer, or the walk's refusal, or memory runs out.
abbrev pub GivesNormal : {S E A : Type 0} → Step S (Error E) Tree → S → Result A (Error E) → (A → List ℕ) → Type 0
GivesNormal step m (Ok out) view = (u : Tree) × (step ≡ accepted u m) × (view out ≡ normal u)
GivesNormal step m (Err e) view = e ≢ NoMemory → step ≡ refused e m

-- The same of a call that answers the bytes of the new module.
pub record GivesBytes {S E A : Type 0} (asked : Asks S E) (ceiling : ℕ) (bytes : List ℕ) (s m : S) (result : Result A (Error E)) (view : A → List ℕ) : Type 0 where
  pub reading : (t : Tree) → Spells core_module bytes t → GivesNormal (walk asked ceiling s t) m result view
  pub readable : IfOk result (λ _. (t : Tree) × Spells core_module bytes t)
  pub cause : IfErr result (IsCause asked ceiling bytes s m)
