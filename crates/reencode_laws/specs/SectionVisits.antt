-- The law of section visits: what the section hook and the closing hook are told on the walk over a core module.
use Rattle.std.specs.Prelude.{◌≡◌, ◌≤◌, ◌<◌, ◌⊎◌, ℕ, suc, List, [], ◌∷◌, ◌++◌, Bool, true, false, nat_eq, length, map, find, filter_map, flat_map, filter, zip, Option, Some, None}
use Rattle.std.specs.List.{concat, AllZip}
use Rattle.wasm_shapes.specs.declared.SectionId.{SectionId}
use Rattle.wasm_shapes.specs.declared.Visit.{Visit}
use Rattle.wasm_shapes.specs.declared.Visit.TheVariants.{Section, Closed}
use Rattle.wasm_shapes.specs.Tree.{Tree, normal, visits}
use Rattle.wasm_shapes.specs.Spells.{Spells}
use Rattle.wasm_shapes.specs.SectionTable.{number}
pub use Rattle.reencode_hooks.specs.SectionVisits.{is_section, section_visits}
use Rattle.wasm_shapes.specs.Module.{in_force, section, core_header, core_module, core_tree, alsos, CoreReading}

-- ---- the sections, and their kinds

-- These are the texts of the sections that stand behind the header of a core module; the tree is that of what they spell, one for one.
pub record HasSections (bytes : List ℕ) (t : Tree) (texts : List (List ℕ)) : Type 0 where
  pub parts : List Tree
  pub stand : bytes ≡ core_header ++ concat texts
  pub spell : AllZip (Spells section) texts parts
  pub are : t ≡ alsos parts Tree.finish

-- The kind that has this number as its id: each id from 1 to 13 is that of one. Custom sections, and those of other ids, have none.
abbrev pub kind_of_id : ℕ → Option SectionId
kind_of_id n = find (λ k. nat_eq (number k) n) (map (λ x. x.name) in_force)

-- the kind of a section by its text, which begins with its id
abbrev pub kind_of_text : List ℕ → Option SectionId
kind_of_text [] = None
kind_of_text (id ∷ behind) = kind_of_id id

-- the kinds of those of some sections that have one, in order
abbrev pub kinds_of_texts : List (List ℕ) → List SectionId
kinds_of_texts texts = filter_map kind_of_text texts

-- ---- what the two hooks are told

-- what the closing hook is told behind a section of this kind; where there is no section, which is at the end, it is told nothing
abbrev pub closing : Option SectionId → List Visit
closing None = []
closing (Some k) = Closed k ∷ []

-- What is told of sections of these kinds: before each the section hook is told the kind before it and its own, and behind it the
-- closing hook its own; at the end the section hook is told the last. With none it is one visit, of no kinds.
abbrev pub visits_of_kinds : List SectionId → List Visit
visits_of_kinds ks = flat_map (λ p. Section p.0 p.1 ∷ closing p.1) (zip (None ∷ map Some ks) (map Some ks ++ None ∷ []))

-- whether it is the section hook that is asked, and whether it is the closing hook
abbrev pub of_section_hook : Visit → Bool
of_section_hook (Section last next) = true
of_section_hook _ = false

abbrev pub of_closing_hook : Visit → Bool
of_closing_hook (Closed kind) = true
of_closing_hook _ = false

-- ---- the law

pub record SectionVisitsAre : Type 0 where
  -- a reading of a core module consists of sections,
  pub sections : (bytes : List ℕ) (t : Tree) → CoreReading bytes t → (texts : List (List ℕ)) × HasSections bytes t texts
  -- and its section visits are those of their kinds;
  pub told : (bytes : List ℕ) (t : Tree) (texts : List (List ℕ)) → HasSections bytes t texts → section_visits (visits t) ≡ visits_of_kinds (kinds_of_texts texts)
  -- so it is with the tree of the whole module,
  pub whole : (bytes : List ℕ) (t : Tree) → Spells core_module bytes t →
      (u : Tree) × (texts : List (List ℕ)) × (t ≡ core_tree u) × HasSections bytes u texts × (section_visits (visits t) ≡ visits_of_kinds (kinds_of_texts texts))
  -- and the visits of the section hook are one more than the sections that have a kind, and those of the closing hook as many.
  pub one_more : (ks : List SectionId) → length (filter of_section_hook (visits_of_kinds ks)) ≡ suc (length ks)
  pub as_many : (ks : List SectionId) → length (filter of_closing_hook (visits_of_kinds ks)) ≡ length ks
  -- Within a section there is neither.
  pub within : (text : List ℕ) (t : Tree) → Spells section text t → section_visits (visits t) ≡ []
  -- The kind of a section is that of its tree, however this is spelled.
  pub of_tree : (text : List ℕ) (t : Tree) → Spells section text t → kind_of_text text ≡ kind_of_text (normal t)
  -- The number of a kind, from 1 to 13, is the id of its sections; and no other id has a kind.
  pub known : (k : SectionId) → 1 ≤ number k → kind_of_id (number k) ≡ Some k
  pub others : (id : ℕ) → (id ≡ 0) ⊎ (13 < id) → kind_of_id id ≡ None
