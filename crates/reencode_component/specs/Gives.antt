-- What the calls that map a component, or one of its sections, give.
use Rattle.std.specs.Prelude.{◌≡◌, ◌≢◌, ◌⊎◌, ℕ, List, ◌++◌, Result, Ok, Err, IfOk, IfErr, OnOk}
use Rattle.wasm_leb.specs.declared.fault.Fault.{Fault}
use Rattle.wasm_leb.specs.declared.fault.Fault.TheVariants as fault
use Rattle.wasm_shapes.specs.Module.{component_header, frame}
use Rattle.wasm_shapes.specs.Place.{BeginsNone}
use Rattle.wasm_shapes.specs.Tree.{Tree, normal, visits}
use Rattle.wasm_shapes.specs.Types.{rows_tree}
use Rattle.wasm_write.specs.Sections.{Sections, SectionRow, section_bytes, sections_bytes, with_section}
use Rattle.reencode_hooks.specs.declared.error.Error.{Error}
use Rattle.reencode_hooks.specs.declared.error.Error.TheVariants.{NoMemory}
use Rattle.reencode_hooks.specs.Hooks.{Gains}
use Rattle.reencode_hooks.specs.Run.{Step, accepted, refused}
use Rattle.reencode_core.specs.Errors.{IfRefused}
use Rattle.reencode_core.specs.Rows.{Asks}
use Rattle.reencode_core.specs.Weave.{Puts, added}
use Rattle.reencode_core.specs.Woven.{AddsFit}
use Rattle.reencode_component.specs.Components.{BeginsSection, Framed, IsHandedOut, NestedFault, ComponentReading, ReadsSection}
use Rattle.reencode_component.specs.WeaveIn.{weave_in}
use Rattle.reencode_component.specs.Causes.{AcceptedFront, BehindFront, CauseBy, IfFault, Stops, fits_inside, inside, own_inside, room}

-- the walk was refused; or a section hook was to add a section above the ceiling
abbrev pub RefusedOr : {S E : Type 0} → (Error E → Type 0) → Step S (Error E) Tree → Error E → S → Type 0
RefusedOr own step e m = e ≢ NoMemory → own e ⊎ (step ≡ refused e m)

-- ---- one section

-- The section became another, which was added; or it was refused.
abbrev pub GivesAddedIn : {S E : Type 0} → Asks S E → Puts S SectionRow → (Error E → Type 0) → S × Sections → Tree → S × Sections → Result (Unit {0}) (Error E) → Type 0
GivesAddedIn asked adds own before t after (Ok _) =
    (u : Tree) × (row : SectionRow) × (weave_in asked (added adds) before.1.ceiling before.0 t ≡ accepted u after.0)
    × (after.1 ≡ with_section before.1 row) × (section_bytes row ≡ normal u)
GivesAddedIn asked adds own before t after (Err e) = RefusedOr own (weave_in asked (added adds) before.1.ceiling before.0 t) e after.0

-- What is wrong with a section that stands at a place: a nested one hands out its fault; or the fault is the place.
abbrev pub FaultIn : (Fault → Type 0) → ℕ → Fault → Type 0
FaultIn nested at (fault.Read e) = (e.at ≡ at) × ((x : Fault) → IsHandedOut x → nested x → ⊥)
FaultIn nested at x = IsHandedOut x × nested x

-- A section in its frame, at a place, by what is said of refusals inside one that has no reading, of a section hook's own sections, and of what
-- was added before an error. With Ok all that was added in it fits.
pub record GivesSectionBy {S E : Type 0} (asked : Asks S E) (adds : Puts S SectionRow) (depth : ℕ) (inner own fit : Stops S E) (f : Tree) (at : ℕ)
    (before after : S × Sections) (result : Result (Unit {0}) (Error E)) : Type 0 where
  pub reading : (t : Tree) → ReadsSection depth f t → GivesAddedIn asked adds (own f before.0 after.0) before t after result
  pub readable : IfOk result (λ _. (t : Tree) × ReadsSection depth f t)
  pub fits : OnOk result ((t : Tree) → ReadsSection depth f t → AddsFit asked adds before.1.ceiling before.0 (visits t))
  pub fits_before : IfErr result (λ e. e ≢ NoMemory → fit f before.0 after.0 e)
  pub unreadable : IfErr result (λ e. IfFault e (λ x. ((t : Tree) → ReadsSection depth f t → ⊥) × FaultIn (NestedFault depth (room depth) f) at x))
  pub refusal : IfErr result (λ e. IfRefused e (((t : Tree) × ReadsSection depth f t) ⊎ inner f before.0 after.0 e))
  pub unchanged : IfErr result (λ _. after.1 ≡ before.1)

abbrev pub GivesSection : {S E : Type 0} → Asks S E → Puts S SectionRow → ℕ → Tree → ℕ → S × Sections → S × Sections → Result (Unit {0}) (Error E) → Type 0
GivesSection asked adds depth f at before after result =
    GivesSectionBy asked adds depth (inside asked adds before.1.ceiling depth) (own_inside asked adds before.1.ceiling depth) (fits_inside asked adds before.1.ceiling depth) f at before after result

-- ---- a component

-- The sections became others, which were added; or one of them was refused.
abbrev pub GivesSections : {S E : Type 0} → Asks S E → Puts S SectionRow → (Error E → Type 0) → S × Sections → Tree → S × Sections → Result (Unit {0}) (Error E) → Type 0
GivesSections asked adds own before t after (Ok _) =
    (u : Tree) × (rows : List SectionRow) × (weave_in asked (added adds) before.1.ceiling before.0 t ≡ accepted u after.0) × Gains before.1 after.1 rows
    × (sections_bytes rows ≡ normal u)
GivesSections asked adds own before t after (Err e) = RefusedOr own (weave_in asked (added adds) before.1.ceiling before.0 t) e after.0

-- What the component gained before an error: what some sections became, and no more; the section behind them, where one begins that is
-- read, is the one that was refused; and what was added in that one before the error fits.
pub record GainsFront {S E : Type 0} (asked : Asks S E) (adds : Puts S SectionRow) (depth : ℕ) (own fit : Stops S E) (bytes : List ℕ) (before after : S × Sections) (e : Error E) : Type 0 where
  pub front : AcceptedFront asked adds before.1.ceiling depth bytes before.0
  pub rows : List SectionRow
  pub gains : Gains before.1 after.1 rows
  pub spelled : sections_bytes rows ≡ normal (rows_tree front.made)
  pub there : (t : Tree) (left : List ℕ) → BeginsSection depth front.rest t left →
      RefusedOr (λ x. Framed (λ f. own f front.at after.0 x) front.rest) (weave_in asked (added adds) before.1.ceiling front.at t) e after.0
  pub inside : e ≢ NoMemory → BeginsNone frame front.rest ⊎ Framed (λ f. fit f front.at after.0 e) front.rest

-- nothing, where the header is missing
abbrev pub GainsBefore : {S E : Type 0} → Asks S E → Puts S SectionRow → ℕ → (own fit : Stops S E) → List ℕ → S × Sections → S × Sections → Error E → Type 0
GainsBefore asked adds depth own fit bytes before after e =
    (((rest : List ℕ) → bytes ≢ component_header ++ rest) × (after.1 ≡ before.1)) ⊎ GainsFront asked adds depth own fit bytes before after e

pub record GivesBy {S E : Type 0} (asked : Asks S E) (adds : Puts S SectionRow) (depth : ℕ) (inner own fit : Stops S E) (bytes : List ℕ)
    (before after : S × Sections) (result : Result (Unit {0}) (Error E)) : Type 0 where
  pub reading : (t : Tree) → ComponentReading depth bytes t →
      GivesSections asked adds (BehindFront asked adds before.1.ceiling depth own bytes before.0 after.0) before t after result
  pub readable : IfOk result (λ _. (t : Tree) × ComponentReading depth bytes t)
  pub fits : OnOk result ((t : Tree) → ComponentReading depth bytes t → AddsFit asked adds before.1.ceiling before.0 (visits t))
  pub cause : IfErr result (CauseBy asked adds before.1.ceiling depth inner own bytes before.0 after.0)
  pub gained : IfErr result (GainsBefore asked adds depth own fit bytes before after)

abbrev pub GivesComponent : {S E : Type 0} → Asks S E → Puts S SectionRow → ℕ → List ℕ → S × Sections → S × Sections → Result (Unit {0}) (Error E) → Type 0
GivesComponent asked adds depth bytes before after result =
    GivesBy asked adds depth (inside asked adds before.1.ceiling depth) (own_inside asked adds before.1.ceiling depth) (fits_inside asked adds before.1.ceiling depth) bytes before after result
