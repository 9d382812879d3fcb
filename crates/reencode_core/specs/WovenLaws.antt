-- Laws of the walk of a reencoder whose section hooks add: beside the plain walk, the run, and what its output is read as.
use Rattle.std.specs.Prelude.{◌≡◌, ◌≤◌, ◌-◌, ◌^◌, ℕ, List, [], ◌∷◌, map}
use Rattle.wasm_shapes.specs.declared.Visit.{Visit}
use Rattle.wasm_shapes.specs.Tree.{Tree, visits, fill, normal}
use Rattle.wasm_shapes.specs.Spells.{Spelled, Spells}
use Rattle.wasm_shapes.specs.Fits.{Fits}
use Rattle.wasm_shapes.specs.Module.{core_module, section}
use Rattle.wasm_write.specs.Sections.{SectionRow, section_bytes}
use Rattle.reencode_hooks.specs.Hooks.{MayAdd}
use Rattle.reencode_hooks.specs.Run.{Step, accepted, and_then, run}
use Rattle.reencode_hooks.specs.Walk.{walk}
use Rattle.reencode_core.specs.Rows.{Asks}
use Rattle.reencode_core.specs.Weave.{AtSections, Puts, added, weave, woven}

-- Where nothing is put, it is the walk.
abbrev pub WeaveOfNothing : {S E : Type 0} → Asks S E → Type 0
WeaveOfNothing {S} asked = (put : Puts S Tree) → ((s : S) (v : Visit) → MayAdd v → put s v ≡ []) →
    (c : ℕ) (s : S) (t : Tree) → weave asked put c s t ≡ walk asked c s t

-- how a step ended: accepted, or refused with this error, and in which state
abbrev pub ends : {S E A : Type 0} → Step S E A → Step S E (Unit {0})
ends step = and_then step (λ _ m. accepted tt m)

-- Whatever is put, it ends as the walk does.
abbrev pub WeaveEnds : {S E : Type 0} → Asks S E → Type 0
WeaveEnds {S} asked = (put : Puts S Tree) (c : ℕ) (s : S) (t : Tree) → ends (weave asked put c s t) ≡ ends (walk asked c s t)

-- ---- the run

-- the run over the visits of a tree is accepted, the woven tree is this one, and the filled tree fits the ceiling
pub record AcceptsWoven {S E : Type 0} (asked : Asks S E) (put : Puts S Tree) (c : ℕ) (s : S) (t u : Tree) (m : S) : Type 0 where
  pub given : List ℕ
  pub ran : run asked s (visits t) ≡ accepted given m
  pub wove : woven asked put s t given ≡ u
  pub fits : Fits (fill t given) c

-- It is accepted exactly where the run is, and no frame of the filled tree is above the ceiling; only of a tree that no bytes
-- spell may it be refused there.
pub record WeaveIsRun {S E : Type 0} (asked : Asks S E) : Type 0 where
  pub forth : (put : Puts S Tree) (c : ℕ) (s m : S) (t u : Tree) → weave asked put c s t ≡ accepted u m → AcceptsWoven asked put c s t u m
  pub back : (put : Puts S Tree) (c : ℕ) (s m : S) (t u : Tree) (bytes : List ℕ) → Spelled t bytes → AcceptsWoven asked put c s t u m →
      weave asked put c s t ≡ accepted u m

-- ---- what the output is read as

-- these rows, as they are written, are read as these trees, one for one
pub data AreReadings : List SectionRow → List Tree → Type 0 where
  none : AreReadings [] []
  more : {row : SectionRow} {v : Tree} {rows : List SectionRow} {vs : List Tree} → Spells section (section_bytes row) v → AreReadings rows vs →
      AreReadings (row ∷ rows) (v ∷ vs)

-- these are readings of the sections that are added at these visits
abbrev pub ReadsAdded : {S E : Type 0} → Asks S E → Puts S SectionRow → Puts S Tree → S → List Visit → Type 0
ReadsAdded asked adds readings s visits = AtSections asked s visits (λ m v. AreReadings (adds m v) (readings m v))

-- and these sections are spelled normally
abbrev pub AreNormal : {S E : Type 0} → Asks S E → Puts S SectionRow → Puts S Tree → S → List Visit → Type 0
AreNormal asked adds readings s visits =
    AtSections asked s visits (λ m v. map normal (readings m v) ≡ map section_bytes (adds m v))

-- The run is accepted, and these bytes are a core module, read as this tree alone: the filled tree, with these readings directly
-- before each section asked for, directly behind it, and at the end. The bytes are its normal spelling where what was added is spelled normally.
pub record ReadsOutput {S E : Type 0} (asked : Asks S E) (adds : Puts S SectionRow) (readings : Puts S Tree) (s : S) (t : Tree) (bytes : List ℕ) (m : S) : Type 0 where
  pub given : List ℕ
  pub ran : run asked s (visits t) ≡ accepted given m
  pub reading : Spells core_module bytes (woven asked readings s t given)
  pub only : (v : Tree) → Spells core_module bytes v → v ≡ woven asked readings s t given
  pub normally : AreNormal asked adds readings s (visits t) → normal (woven asked readings s t given) ≡ bytes

-- Where the sections that are added at the visits of a reading have readings, so has what comes out of it.
abbrev pub OutputIsRead : {S E : Type 0} → Asks S E → Puts S SectionRow → Type 0
OutputIsRead {S} asked adds =
    (readings : Puts S Tree) (c : ℕ) → c ≤ 2 ^ 32 - 1 → (s m : S) (bytes : List ℕ) (t u : Tree) → Spells core_module bytes t →
    weave asked (added adds) c s t ≡ accepted u m → ReadsAdded asked adds readings s (visits t) → ReadsOutput asked adds readings s t (normal u) m
