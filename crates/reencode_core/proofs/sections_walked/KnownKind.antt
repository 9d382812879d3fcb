-- Sections by their kind.
use Rattle.std.proofs.Common.{◌≡◌, ◌≢◌, ℕ, ◌≤◌, ◌<◌, List, [], ◌++◌, length, Bool, true, false, nat_le, if◌then◌else◌, Option, Some, Result, Ok, Err, refl, sym, ap, ◌∙◌, append-nil, arith}
use Rattle.std.proofs.lemmas.Bool.{le-leb, leb-true}
use Rattle.wasm_shapes.specs.declared.SectionId.{SectionId}
use Rattle.wasm_shapes.specs.declared.Visit.{Visit}
use Rattle.wasm_shapes.specs.declared.Visit.TheVariants.{Section, Closed}
use Rattle.wasm_shapes.specs.Tree.{Tree, normal, kind, visits}
use Rattle.wasm_shapes.specs.Place.{Begins, BeginsNone}
use Rattle.wasm_shapes.specs.Module.{frame, tree_of}
use Rattle.wasm_shapes.specs.SectionTable.{number}
use Rattle.wasm_shapes.proofs.Begins.{none_at_end}
use Rattle.wasm_write.specs.Sections.{Sections, SectionRow, section_row, section_bytes}
use Rattle.reencode_hooks.specs.Hooks.{Gains, RepliesSection}
use Rattle.reencode_hooks.specs.declared.error.Error.{Error}
use Rattle.reencode_hooks.specs.declared.error.Error.TheVariants.{TooLarge}
use Rattle.reencode_hooks.specs.Run.{Step, accepted, refused}
use Rattle.reencode_hooks.specs.Walk.{walk, closed, announced, followed}
use Rattle.reencode_hooks.proofs.Chained.{gains_both}
use Rattle.reencode_core.specs.Rows.{Asks}
use Rattle.reencode_core.specs.Sections.{KeepsModule}

-- ---- the close of a frame

pub closed_fits : {S E : Type 0} (c : ℕ) (u : Tree) (m : S) → length (normal u) ≤ c → closed {E = E} c u m ≡ accepted (Tree.sized u) m
closed_fits c u m h = rw (le-leb (length (normal u)) c h) refl

pub closed_large : {S E : Type 0} (c : ℕ) (u : Tree) (m : S) → c < length (normal u) → closed {E = E} c u m ≡ refused (TooLarge (length (normal u))) m
closed_large {S = S} {E = E} c u m h = go (nat_le (length (normal u)) c) refl
  where
    go : (b : Bool) → nat_le (length (normal u)) c ≡ b →
        ◌≡◌ {A = Step S (Error E) Tree} (if b then accepted (Tree.sized u) m else refused (TooLarge (length (normal u))) m) (refused (TooLarge (length (normal u))) m)
    go true e = absurd (let below : length (normal u) ≤ c = leb-true _ _ e in omega arith)
    go false e = refl

-- ---- a section of any kind is walked as its body and its frame are

module _ (k : SectionId) where
  pub section_visits : (u : Tree) → visits (tree_of k u) ≡ visits u
  section_visits u = refl

  pub section_spelled : (u : Tree) → section_bytes (section_row (number k) (normal u)) ≡ normal (tree_of k u)
  section_spelled u = refl

  module _ {S E : Type 0} (asked : Asks S E) where
    -- what the section hook is told
    pub section_announced : (s : S) (last : Option SectionId) (u : Tree) →
        (announced asked s last (tree_of k u) ≡ asked s (Section last (Some k))) × (kind last (tree_of k u) ≡ Some k)
    section_announced s last u = (refl, refl)

    -- and the closing hook
    pub section_followed : (s : S) (u : Tree) → followed asked s (tree_of k u) ≡ asked s (Closed k)
    section_followed s u = refl

    pub section_refuses : (c : ℕ) (s m : S) (t : Tree) (e : Error E) → walk asked c s t ≡ refused e m → walk asked c s (tree_of k t) ≡ refused e m
    section_refuses c s m t e h = rw h refl

    pub section_fits : (c : ℕ) (s m : S) (t u : Tree) → walk asked c s t ≡ accepted u m → length (normal u) ≤ c → walk asked c s (tree_of k t) ≡ accepted (tree_of k u) m
    section_fits c s m t u h l = rw (h, closed_fits {E = E} c u m l) refl

    pub section_large : (c : ℕ) (s m : S) (t u : Tree) → walk asked c s t ≡ accepted u m → c < length (normal u) →
        walk asked c s (tree_of k t) ≡ refused (TooLarge (length (normal u))) m
    section_large c s m t u h l = rw (h, closed_large {E = E} c u m l) refl

-- ---- frames

pub some_begun : {t : Tree} {bytes left : List ℕ} → Begins frame bytes t left → bytes ≢ []
some_begun {t = t} {left = left} there empty =
    let none : BeginsNone frame [] = none_at_end refl in none.none there.text left t there.spells (sym empty ∙ there.reads)

-- ---- modules

-- no section was added
pub gains_none : (m : Sections) → Gains m m []
gains_none m = ap (λ (rows : List SectionRow). record m { sections = rows }) (sym (append-nil m.sections))

pub keeps_same : (m : Sections) → KeepsModule m m
keeps_same m = ([], gains_none m)

pub keeps_more : (old mid new : Sections) → KeepsModule old mid → KeepsModule mid new → KeepsModule old new
keeps_more old mid new p q = (p.0 ++ q.0, gains_both old mid new p.0 q.0 p.1 q.1)

-- what a section hook did
pub hook_keeps : {S E : Type 0} (reply : S → Visit → Result ℕ E) (next : S → Visit → S) (adds : S → Visit → List SectionRow) (s m : S) (old new : Sections)
    (v : Visit) (r : Result (Unit {0}) (Error E)) → RepliesSection reply next adds s m old new v r → KeepsModule old new
hook_keeps reply next adds s m old new v (Ok u) h = (adds s v, h.1)
hook_keeps reply next adds s m old new v (Err e) h = (h.1.part, h.1.gains)
