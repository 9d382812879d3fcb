-- What a hook answers to one visit, in terms of a reencoder's meaning: `reply`, `next` and `adds`.
use Rattle.std.specs.Prelude.{◌≡◌, ◌<◌, ◌^◌, ◌++◌, ℕ, Bool, true, false, List, [], ◌∷◌, length, Option, Result, Ok, Err, IsTrue, refl}
use mathlib.Core.Bool.{false≢true}
use Rattle.wasm_shapes.specs.declared.SectionId.{SectionId}
use Rattle.wasm_shapes.specs.declared.Space.{Space}
use Rattle.wasm_shapes.specs.declared.Space.TheVariants as space
use Rattle.wasm_shapes.specs.declared.Visit.{Visit}
use Rattle.wasm_shapes.specs.declared.Visit.TheVariants.{Index, Outer, Section, Closed}
use Rattle.wasm_write.specs.Sections.{SectionRow, Sections}
use Rattle.reencode_hooks.specs.declared.error.Error.{Error}
use Rattle.reencode_hooks.specs.declared.error.Error.TheVariants.{TooLarge, NoMemory}
use Rattle.reencode_hooks.specs.Run.{Gives, ask, accepted, refused}

-- the index that a visit asks, and 0 where it asks none
abbrev pub index_of : Visit → ℕ
index_of (Index p i) = i
index_of (Outer p k i) = i
index_of _ = 0

-- a hook answered `reply` and left `next`
abbrev pub Replies : {S E : Type 0} → (S → Visit → Result ℕ E) → (S → Visit → S) → S → S → Visit
    → Result ℕ (Error E) → Type 0
Replies reply next old new v r = Gives (ask reply next old v) (λ n. n) new r

-- ---- the section hook and the closing hook

-- the second has the first's ceiling and sections, and these sections after them
abbrev pub Gains : Sections → Sections → List SectionRow → Type 0
Gains old new rows = new ≡ record old { sections = old.sections ++ rows }

-- the second has gained a front part of these sections
pub record GainsPart (old new : Sections) (rows : List SectionRow) : Type 0 where
  pub part : List SectionRow
  pub rest : List SectionRow
  pub parts : rows ≡ part ++ rest
  pub gains : Gains old new part

-- one of these sections has a body of this size, above the ceiling
pub record HasTooLarge (ceiling : ℕ) (rows : List SectionRow) (size : ℕ) : Type 0 where
  pub front : List SectionRow
  pub row : SectionRow
  pub rest : List SectionRow
  pub parts : rows ≡ front ++ row ∷ rest
  pub sized : length row.body ≡ size
  pub above : ceiling < size

-- A section hook refused: as `reply` says, or because one of its own sections is too large, or memory runs out.
-- In the last two cases the state is left open.
abbrev pub RefusesSection : {S E : Type 0} → (S → Visit → Result ℕ E) → (S → Visit → S) → S → S → Visit
    → ℕ → List SectionRow → Error E → Type 0
RefusesSection reply next old new v ceiling rows (TooLarge size) = HasTooLarge ceiling rows size
RefusesSection reply next old new v ceiling rows NoMemory = Unit {0}
RefusesSection reply next old new v ceiling rows e = ask reply next old v ≡ refused e new

-- a section hook appended what `adds` says, or with an error a front part of it
abbrev pub RepliesSection : {S E : Type 0} → (S → Visit → Result ℕ E) → (S → Visit → S) → (S → Visit → List SectionRow)
    → S → S → Sections → Sections → Visit → Result (Unit {0}) (Error E) → Type 0
RepliesSection reply next adds old new m n v (Ok _) = (ask reply next old v ≡ accepted 0 new) × Gains m n (adds old v)
RepliesSection reply next adds old new m n v (Err e) =
    RefusesSection reply next old new v m.ceiling (adds old v) e × GainsPart m n (adds old v)

-- ---- laws

-- the numbers of a visit are such as a binary holds
abbrev pub IsInRange : Visit → Type 0
IsInRange (Index p i) = i < 2 ^ 32
IsInRange (Outer p k i) = (k < 2 ^ 32) × (i < 2 ^ 32)
IsInRange _ = Unit {0}

-- what may be answered: an index, and 0 where none is asked
abbrev pub IsGiven : Visit → ℕ → Type 0
IsGiven (Index p i) n = n < 2 ^ 32
IsGiven (Outer p k i) n = n < 2 ^ 32
IsGiven _ n = n ≡ 0

-- the spaces of components, of which no index is refused
abbrev pub is_of_components : Space → Bool
is_of_components space.ComponentType = true
is_of_components space.ComponentInstance = true
is_of_components space.ComponentFunc = true
is_of_components space.Component = true
is_of_components space.Module = true
is_of_components space.Instance = true
is_of_components space.ComponentValue = true
is_of_components _ = false

-- a visit that may be refused
abbrev pub MayRefuse : Visit → Type 0
MayRefuse (Index p i) = is_of_components p ≡ false
MayRefuse (Outer p k i) = is_of_components p ≡ false
MayRefuse (Section after before) = Unit {0}
MayRefuse (Closed kind) = Unit {0}
MayRefuse _ = ⊥

abbrev pub IsAnswer : {E : Type 0} → Visit → Result ℕ E → Type 0
IsAnswer v (Ok n) = IsGiven v n
IsAnswer v (Err e) = MayRefuse v

-- every answer of a type is such
abbrev pub KeepsAnswers : {S E : Type 0} → (S → Visit → Result ℕ E) → Type 0
KeepsAnswers {S} reply = (s : S) (v : Visit) → IsInRange v → IsAnswer v (reply s v)

-- a visit at which sections may be added: one of the section hook or of the closing hook
abbrev pub MayAdd : Visit → Type 0
MayAdd (Section after before) = Unit {0}
MayAdd (Closed kind) = Unit {0}
MayAdd _ = ⊥

-- Nothing is added at a visit at which none may be, and where the type says that it adds nothing, at no visit.
abbrev pub KeepsAdds : {S : Type 0} → (S → Visit → List SectionRow) → Bool → Type 0
KeepsAdds {S} adds nothing = (s : S) (v : Visit) → (MayAdd v → IsTrue nothing) → adds s v ≡ []

-- the first between two sections, where the section hook is told of them, the second behind one, and nothing at another visit
abbrev pub at_section : {A : Type 0} → (Option SectionId → Option SectionId → List A) → (SectionId → List A) → Visit → List A
at_section between behind (Section after before) = between after before
at_section between behind (Closed kind) = behind kind
at_section between behind _ = []

-- such sections are added as they may be
pub at_section-keeps : {S : Type 0} (between : S → Option SectionId → Option SectionId → List SectionRow) (behind : S → SectionId → List SectionRow)
    → KeepsAdds (λ s. at_section (between s) (behind s)) false
at_section-keeps between behind s (Section after before) h = absurd (false≢true (h tt))
at_section-keeps between behind s (Closed kind) h = absurd (false≢true (h tt))
at_section-keeps between behind s _ h = refl

-- and so are sections behind others
pub both_keep : {S : Type 0} {f g : S → Visit → List SectionRow} {p q both : Bool} → (IsTrue both → IsTrue p × IsTrue q) → KeepsAdds f p → KeepsAdds g q
    → KeepsAdds (λ s v. f s v ++ g s v) both
both_keep parts h k s v none = rw (h s v (λ may. (parts (none may)).0), k s v (λ may. (parts (none may)).1)) refl

-- the index itself is such an answer
pub index_of-given : (v : Visit) → IsInRange v → IsGiven v (index_of v)
index_of-given (Index p i) h = h
index_of-given (Outer p k i) h = h.1
index_of-given _ h = refl
