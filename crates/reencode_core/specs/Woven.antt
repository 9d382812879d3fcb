-- What the calls that map a whole core module give, where the section hook and the closing hook may add sections.
use Rattle.std.specs.Prelude.{◌≡◌, ◌≢◌, ◌⊎◌, ◌≤◌, ℕ, List, [], ◌∷◌, ◌++◌, Option, Some, None, Result, Ok, Err, IfOk, IfErr, OnOk}
use Rattle.wasm_shapes.specs.declared.SectionId.{SectionId}
use Rattle.wasm_shapes.specs.declared.Visit.{Visit}
use Rattle.wasm_shapes.specs.declared.Visit.TheVariants.{Section, Closed}
use Rattle.wasm_shapes.specs.Tree.{Tree, normal, visits}
use Rattle.wasm_shapes.specs.Spells.{Spells}
use Rattle.wasm_shapes.specs.Module.{core_header, core_module, sections, alsos, frame, custom_frame, InFrame, CoreReading}
use Rattle.wasm_shapes.specs.Place.{Begins, BeginsNone}
use Rattle.wasm_shapes.specs.SectionTable.{number}
use Rattle.wasm_read.specs.Frames.{numbered_frame}
use Rattle.wasm_write.specs.Sections.{Sections, SectionRow, section_bytes, sections_bytes}
use Rattle.reencode_hooks.specs.declared.error.Error.{Error}
use Rattle.reencode_hooks.specs.declared.error.Error.TheVariants.{TooLarge, NoMemory}
use Rattle.reencode_hooks.specs.Run.{Step, accepted, refused}
use Rattle.reencode_hooks.specs.Walk.{walk, announced, followed}
use Rattle.reencode_hooks.specs.Hooks.{Gains, HasTooLarge}
use Rattle.reencode_core.specs.Rows.{Asks}
use Rattle.reencode_core.specs.Core.{onto, IsCause}
use Rattle.reencode_core.specs.Weave.{AtSections, Puts, added, kind_after, put_before, put_behind, weave, weave_from}

-- ---- the section hook, a section behind it, and the closing hook

-- one of a hook's own sections is too large
abbrev pub IsOwn : {E : Type 0} → ℕ → List SectionRow → Error E → Type 0
IsOwn c own (TooLarge size) = HasTooLarge c own size
IsOwn c own _ = ⊥

-- the first is a front part of the second
pub record IsPart (part own : List SectionRow) : Type 0 where
  pub rest : List SectionRow
  pub parts : own ≡ part ++ rest

-- A hook refused, and a front part of what it adds stands; where one of these is too large, the state is open.
abbrev pub StopsHook : {S E A : Type 0} → ℕ → List SectionRow → List SectionRow → Step S (Error E) A → Error E → S → Type 0
StopsHook c own part step e m = IsPart part own × (e ≢ NoMemory → IsOwn c own e ⊎ (step ≡ refused e m))

-- What the section hook added before a section fits. The section was refused behind it; or it was accepted and stands there too, and the
-- closing hook refused, with a front part of what it adds behind it.
abbrev pub StopsBehind : {S E : Type 0} → Asks S E → Puts S SectionRow → ℕ → S → Tree → List SectionRow → List SectionRow → Error E → S → Type 0
StopsBehind {S} asked adds c s t own part e m =
    ((part ≡ own) × ((size : ℕ) → ¬ HasTooLarge c own size) × (e ≢ NoMemory → walk asked c s t ≡ refused e m))
    ⊎ ((u : Tree) × (n : S) × (row : SectionRow) × (more : List SectionRow) × (walk asked c s t ≡ accepted u n) × (section_bytes row ≡ normal u)
    × (part ≡ own ++ row ∷ more) × ((size : ℕ) → ¬ HasTooLarge c own size) × StopsHook c (put_behind adds n t) more (followed asked n t) e m)

-- The section hook refused; or it accepted, all that it adds stands, and the section behind it was refused, or the closing hook.
abbrev pub StopsHooked : {S E : Type 0} → Asks S E → Puts S SectionRow → ℕ → Option SectionId → S → Tree → List SectionRow → Error E → S → Type 0
StopsHooked {S} asked adds c last s t part e m =
    StopsHook c (put_before adds s last t) part (announced asked s last t) e m
    ⊎ ((n : S) × (announced asked s last t ≡ accepted 0 n) × StopsBehind asked adds c n t (put_before adds s last t) part e m)

-- the first of these sections was refused, or the hook before it or behind it; or the hook at the end
abbrev pub StopsNext : {S E : Type 0} → Asks S E → Puts S SectionRow → ℕ → Option SectionId → S → Tree → List SectionRow → Error E → S → Type 0
StopsNext asked adds c last s (Tree.also t others) part e m = StopsHooked asked adds c last s t part e m
StopsNext asked adds c last s Tree.finish part e m = StopsHook c (adds s (Section last None)) part (asked s (Section last None)) e m
StopsNext asked adds c last s _ part e m = ⊥

-- ---- sections one behind another

-- No section that is added at a visit of the two hooks among these, at the state that the run over those before it leaves, has a body
-- above the ceiling.
abbrev pub AddsFit : {S E : Type 0} → Asks S E → Puts S SectionRow → ℕ → S → List Visit → Type 0
AddsFit asked adds c s visits = AtSections asked s visits (λ m v. (size : ℕ) → ¬ HasTooLarge c (adds m v) size)

-- These sections are accepted, whatever stands behind them, and become those, added ones in their places; what stands behind them
-- is walked from here, behind a section of that kind.
abbrev pub WeavesSections : {S E : Type 0} → Asks S E → Puts S Tree → ℕ → S → List Tree → List Tree → Option SectionId → S → Type 0
WeavesSections asked put c s read made last m =
    (others : Tree) → weave asked put c s (alsos read others) ≡ onto made (weave_from asked put c last m others)

-- The sections before the refused one were accepted, and what they became was added, with what the hooks add before and behind each,
-- which fits; and behind these what stands there of the refused one and its hooks, and no more.
pub record StopsWoven {S E : Type 0} (asked : Asks S E) (adds : Puts S SectionRow) (c : ℕ) (before : S × Sections) (t : Tree) (after : S × Sections) (e : Error E) : Type 0 where
  pub read : List Tree
  pub others : Tree
  pub made : List Tree
  pub rows : List SectionRow
  pub part : List SectionRow
  pub last : Option SectionId
  pub at : S
  pub parts : t ≡ alsos read others
  pub ends : last ≡ kind_after None read
  pub weaves : WeavesSections asked (added adds) c before.0 read made last at
  pub fits : AddsFit asked adds c before.0 (visits (alsos read Tree.empty))
  pub gains : Gains before.1 after.1 (rows ++ part)
  pub spelled : sections_bytes rows ≡ normal (alsos made Tree.finish)
  pub stops : StopsNext asked adds c last at others part e after.0

-- The sections became others, which were added with what the hooks add, each in its place; or one of them was refused, or a hook.
abbrev pub GivesWovenModule : {S E : Type 0} → Asks S E → Puts S SectionRow → S × Sections → Tree → S × Sections → Result (Unit {0}) (Error E) → Type 0
GivesWovenModule asked adds before t after (Ok _) =
    (u : Tree) × (rows : List SectionRow) × (weave asked (added adds) before.1.ceiling before.0 t ≡ accepted u after.0)
    × Gains before.1 after.1 rows × (sections_bytes rows ≡ normal u)
GivesWovenModule asked adds before t after (Err e) = StopsWoven asked adds before.1.ceiling before t after e

-- ---- errors

-- A section of this kind stands here in its frame and was accepted, as was the section hook before it, of which all that it adds fits;
-- and the closing hook behind it was to add one that is too large.
pub record OwnBehind {S E : Type 0} (asked : Asks S E) (adds : Puts S SectionRow) (c : ℕ) (last : Option SectionId) (s : S) (id : SectionId) (body : List ℕ) (e : Error E) : Type 0 where
  pub from : S
  pub told : asked s (Section last (Some id)) ≡ accepted 0 from
  pub fits : (size : ℕ) → ¬ HasTooLarge c (adds s (Section last (Some id))) size
  pub tree : Tree
  pub there : InFrame tree (numbered_frame (number id) body)
  pub made : Tree
  pub at : S
  pub walked : walk asked c from tree ≡ accepted made at
  pub own : IsOwn c (adds at (Closed id)) e

-- The section hook before the section that stands here in its frame, or at the end, was to add one that is too large, or the closing
-- hook behind that section was.
abbrev pub OwnNext : {S E : Type 0} → Asks S E → Puts S SectionRow → ℕ → Option SectionId → S → List ℕ → Error E → Type 0
OwnNext asked adds c last s rest e =
    ((rest ≡ []) × IsOwn c (adds s (Section last None)) e)
    ⊎ ((id : SectionId) × (body left : List ℕ) × Begins frame rest (numbered_frame (number id) body) left
    × (IsOwn c (adds s (Section last (Some id))) e ⊎ OwnBehind asked adds c last s id body e))

-- Some sections stand behind the header, were accepted and became those, added ones in their places, which fit; what stands behind
-- them is walked from here, behind a section of that kind.
pub record WovenFront {S E : Type 0} (asked : Asks S E) (adds : Puts S SectionRow) (c : ℕ) (bytes : List ℕ) (s : S) : Type 0 where
  pub read : List Tree
  pub text : List ℕ
  pub rest : List ℕ
  pub made : List Tree
  pub last : Option SectionId
  pub at : S
  pub spells : Spells sections text (alsos read Tree.finish)
  pub stands : bytes ≡ core_header ++ (text ++ rest)
  pub ends : last ≡ kind_after None read
  pub weaves : WeavesSections asked (added adds) c s read made last at
  pub fits : AddsFit asked adds c s (visits (alsos read Tree.empty))

-- A hook at the section behind some that were accepted, or at the end, was to add one that is too large, and at none of the visits before.
pub record OwnTooLarge {S E : Type 0} (asked : Asks S E) (adds : Puts S SectionRow) (c : ℕ) (bytes : List ℕ) (s : S) (e : Error E) : Type 0 where
  pub front : WovenFront asked adds c bytes s
  pub own : OwnNext asked adds c front.last front.at front.rest e

-- ---- what stands in the module after an error, whether the bytes have a reading or not

-- What was asked at the visit of the section in a frame, and accepted, and what of its own sections the hook added there: of a section
-- of a known kind the hook, and all of them; of another nothing.
pub data AddedAt {S E : Type 0} (asked : Asks S E) (adds : Puts S SectionRow) (visit : SectionId → Visit) (s : S) : Tree → S → List SectionRow → Type 0 where
  known : (k : SectionId) (body : List ℕ) (n : S) → asked s (visit k) ≡ accepted 0 n → AddedAt asked adds visit s (numbered_frame (number k) body) n (adds s (visit k))
  custom : (name contents : List ℕ) → AddedAt asked adds visit s (custom_frame name contents) s []
  unknown : (id : ℕ) (contents : List ℕ) → 14 ≤ id → AddedAt asked adds visit s (numbered_frame id contents) s []

-- the same before the section
abbrev pub AddedBefore : {S E : Type 0} → Asks S E → Puts S SectionRow → Option SectionId → S → Tree → S → List SectionRow → Type 0
AddedBefore asked adds last s f n own = AddedAt asked adds (λ k. Section last (Some k)) s f n own

-- What stands behind the sections that were accepted, where it stopped: of the own sections of the hook at the end, or of that before a
-- section, a front part, where it refused; all of them, which fit, where the section is refused or has no reading; these, the section, and a
-- front part of those of the closing hook behind it, where this refused; and nothing where no frame begins.
pub data AddedThere {S E : Type 0} (asked : Asks S E) (adds : Puts S SectionRow) (c : ℕ) (last : Option SectionId) (s : S) (rest : List ℕ) (e : Error E) (m : S) (part : List SectionRow) : Type 0 where
  at_end : rest ≡ [] → StopsHook c (adds s (Section last None)) part (asked s (Section last None)) e m → AddedThere asked adds c last s rest e m part
  hook : (k : SectionId) (body left : List ℕ) → Begins frame rest (numbered_frame (number k) body) left →
      StopsHook c (adds s (Section last (Some k))) part (asked s (Section last (Some k))) e m → AddedThere asked adds c last s rest e m part
  section : (f : Tree) (left : List ℕ) (n : S) → Begins frame rest f left → AddedBefore asked adds last s f n part → ((size : ℕ) → ¬ HasTooLarge c part size) →
      ((t : Tree) → InFrame t f → e ≢ NoMemory → walk asked c n t ≡ refused e m) → AddedThere asked adds c last s rest e m part
  closing : (k : SectionId) (body left : List ℕ) (n : S) (t u : Tree) (l : S) (row : SectionRow) (more : List SectionRow) → Begins frame rest (numbered_frame (number k) body) left →
      asked s (Section last (Some k)) ≡ accepted 0 n → ((size : ℕ) → ¬ HasTooLarge c (adds s (Section last (Some k))) size) → InFrame t (numbered_frame (number k) body) →
      walk asked c n t ≡ accepted u l → section_bytes row ≡ normal u →
      StopsHook c (adds l (Closed k)) more (asked l (Closed k)) e m → part ≡ adds s (Section last (Some k)) ++ row ∷ more → AddedThere asked adds c last s rest e m part
  unframed : BeginsNone frame rest → rest ≢ [] → part ≡ [] → AddedThere asked adds c last s rest e m part

-- What some sections became was added, with what the hooks add before and behind each; and behind them these.
pub record GainsFront {S E : Type 0} (asked : Asks S E) (adds : Puts S SectionRow) (c : ℕ) (bytes : List ℕ) (before after : S × Sections) (e : Error E) : Type 0 where
  pub front : WovenFront asked adds c bytes before.0
  pub rows : List SectionRow
  pub part : List SectionRow
  pub gains : Gains before.1 after.1 (rows ++ part)
  pub spelled : sections_bytes rows ≡ normal (alsos front.made Tree.finish)
  pub there : AddedThere asked adds c front.last front.at front.rest e after.0 part

-- what the module gained before an error: nothing, where the header of a core module is missing
abbrev pub GainsBefore : {S E : Type 0} → Asks S E → Puts S SectionRow → List ℕ → S × Sections → S × Sections → Error E → Type 0
GainsBefore asked adds bytes before after e =
    (((rest : List ℕ) → bytes ≢ core_header ++ rest) × (after.1 ≡ before.1)) ⊎ GainsFront asked adds before.1.ceiling bytes before after e

-- ---- why an error comes

-- What the hooks added before an error fits: at the sections that were accepted, and at the one behind them up to where it stopped. Where the
-- header of a core module is missing, nothing was added.
abbrev pub FitsUpTo : {S E : Type 0} → Asks S E → Puts S SectionRow → ℕ → List ℕ → S → S → Error E → Type 0
FitsUpTo asked adds c bytes s m e =
    ((rest : List ℕ) → bytes ≢ core_header ++ rest)
    ⊎ ((front : WovenFront asked adds c bytes s) × (part : List SectionRow) × AddedThere asked adds c front.last front.at front.rest e m part)

-- why an error comes: as where nothing is added, and all that was added before it fits; or a section that a hook was to add is too large
abbrev pub IsWovenCause : {S E : Type 0} → Asks S E → Puts S SectionRow → ℕ → List ℕ → S → S → Error E → Type 0
IsWovenCause asked adds c bytes s m e =
    (IsCause asked c bytes s m e × (e ≢ NoMemory → FitsUpTo asked adds c bytes s m e)) ⊎ OwnTooLarge asked adds c bytes s e

-- ---- the module, and its bytes

-- What a call that maps the bytes of a module gives where sections may be added: what the weave gives, all that is added fitting; or why not,
-- and what the module gained then.
pub record GivesWoven {S E : Type 0} (asked : Asks S E) (adds : Puts S SectionRow) (bytes : List ℕ) (before after : S × Sections) (result : Result (Unit {0}) (Error E)) : Type 0 where
  pub reading : (t : Tree) → CoreReading bytes t → GivesWovenModule asked adds before t after result
  pub readable : IfOk result (λ _. (t : Tree) × CoreReading bytes t)
  pub fits : OnOk result ((t : Tree) → CoreReading bytes t → AddsFit asked adds before.1.ceiling before.0 (visits t))
  pub cause : IfErr result (IsWovenCause asked adds before.1.ceiling bytes before.0 after.0)
  pub gained : IfErr result (GainsBefore asked adds bytes before after)

-- The bytes of the woven tree are the answer; or its refusal, or a section that a hook was to add is too large; or memory runs out.
abbrev pub GivesWovenNormal : {S E A : Type 0} → Step S (Error E) Tree → (Error E → Type 0) → S → Result A (Error E) → (A → List ℕ) → Type 0
GivesWovenNormal step own m (Ok out) view = (u : Tree) × (step ≡ accepted u m) × (view out ≡ normal u)
GivesWovenNormal step own m (Err e) view = e ≢ NoMemory → own e ⊎ (step ≡ refused e m)

-- The same of a call that answers the bytes of the new module.
pub record GivesWovenBytes {S E A : Type 0} (asked : Asks S E) (adds : Puts S SectionRow) (ceiling : ℕ) (bytes : List ℕ) (s m : S) (result : Result A (Error E)) (view : A → List ℕ) : Type 0 where
  pub reading : (t : Tree) → Spells core_module bytes t →
      GivesWovenNormal (weave asked (added adds) ceiling s t) (OwnTooLarge asked adds ceiling bytes s) m result view
  pub readable : IfOk result (λ _. (t : Tree) × Spells core_module bytes t)
  pub fits : OnOk result ((t : Tree) → Spells core_module bytes t → AddsFit asked adds ceiling s (visits t))
  pub cause : IfErr result (IsWovenCause asked adds ceiling bytes s m)

-- ---- completeness

-- these bytes are the answer, and this is the state that is left; or memory runs out
abbrev pub IsOrWants : {S E A : Type 0} → List ℕ → S → S → Result A (Error E) → (A → List ℕ) → Type 0
IsOrWants bytes n m (Ok out) view = (view out ≡ bytes) × (m ≡ n)
IsOrWants bytes n m (Err e) view = e ≡ NoMemory

-- Where the bytes have a reading, what is added at its visits fits, and the woven walk over it is accepted, the normal spelling of
-- that walk's tree is the answer, in its state; or memory runs out.
abbrev pub AcceptedIsAnswered : {S E A : Type 0} → Asks S E → Puts S SectionRow → (A → List ℕ) → Type 0
AcceptedIsAnswered {S} {E} {A} asked adds view =
    (c : ℕ) (bytes : List ℕ) (s m : S) (result : Result A (Error E)) → GivesWovenBytes asked adds c bytes s m result view
    → (t u : Tree) (n : S) → Spells core_module bytes t → AddsFit asked adds c s (visits t) → weave asked (added adds) c s t ≡ accepted u n
    → IsOrWants (normal u) n m result view
