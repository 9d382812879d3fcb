-- A module under construction, as contracts see it: its sections, each an id and a body, and its ceiling.
use Rattle.std.specs.Prelude.{◌≡◌, ◌≤◌, ℕ, List, [], ◌∷◌, ◌++◌, length, map, true}
use Rattle.std.specs.List.{All}
use Rattle.std.specs.Coded.{Coded, Coded-set, code_by, coded×, coded_list, coded_ℕ}
use Rattle.std.proofs.Common.{refl, sym, ap, subst, ◌∙◌}
use Rattle.std.proofs.lemmas.List.{append_cancel_left}
use mathlib.Core.HLevel.{Σ_prop_path}
use mathlib.Core.Logic.{∥∥₁_elim, ∥∥₁_prop}
use Rattle.wasm_leb.specs.Leb.{leb}
use Rattle.wasm_shapes.specs.Tree.{Tree}
use Rattle.wasm_shapes.specs.Shape.{Shape}
use Rattle.wasm_shapes.specs.Sound.{sound}
use Rattle.wasm_shapes.specs.Module.{core_header}
use Rattle.wasm_write.specs.Held.{AreHeld, rows_are_one}

-- a section: its id and its body
pub record SectionRow : Type 0 where
  pub id : ℕ
  pub body : List ℕ

-- the section of this id and body
abbrev pub section_row : ℕ → List ℕ → SectionRow
section_row id body = record { id = id; body = body }

-- a module: its ceiling, and its sections
pub record Sections : Type 0 where
  pub ceiling : ℕ
  pub sections : List SectionRow

-- the module with one section more
abbrev pub with_section : Sections → SectionRow → Sections
with_section m s = record m { sections = m.sections ++ s ∷ [] }

-- no section has a body above the ceiling
abbrev pub AllFit : ℕ → List SectionRow → Type 0
AllFit ceiling rows = All (λ s. length s.body ≤ ceiling) rows

-- the id, the length and the body
abbrev pub section_bytes : SectionRow → List ℕ
section_bytes s = s.id ∷ (leb (length s.body) ++ s.body)

-- sections one behind another, each by its id, its length and its body
abbrev pub sections_bytes : List SectionRow → List ℕ
sections_bytes [] = []
sections_bytes (s ∷ rows) = section_bytes s ++ sections_bytes rows

-- the header and the sections
abbrev pub module_bytes : List SectionRow → List ℕ
module_bytes rows = core_header ++ sections_bytes rows

-- ---- a section as a tree

-- an id, and a body of which nothing is said
abbrev pub framed : Shape
framed = Shape.seq Shape.byte (Shape.sized Shape.rest)

-- the tree of a section of which nothing is said but its id and its body
abbrev pub framed_tree : SectionRow → Tree
framed_tree s = Tree.pair (Tree.byte s.id) (Tree.sized (Tree.raw s.body))

abbrev unframed : Tree → SectionRow
unframed (Tree.pair (Tree.byte id) (Tree.sized (Tree.raw body))) = record { id = id; body = body }
unframed _ = record { id = 0; body = [] }

unframed_rows : (rows : List SectionRow) → map unframed (map framed_tree rows) ≡ rows
unframed_rows [] = refl
unframed_rows (s ∷ rows) = ap (λ (z : List SectionRow). s ∷ z) (unframed_rows rows)

-- ---- the sections that some bytes spell

-- so many sections, which stand in these bytes behind the header
pub record AreSections (count : ℕ) (bytes : List ℕ) (rows : List SectionRow) : Type 0 where
  pub rest : List ℕ
  pub stands : bytes ≡ core_header ++ rest
  pub held : AreHeld framed count rest (map framed_tree rows)

abbrev pub HeldSections : ℕ → List ℕ → Type 0
HeldSections count bytes = (rows : List SectionRow) × ∥ AreSections count bytes rows ∥₁

-- they are one list
rows_code : Coded (List SectionRow)
rows_code = coded_list (code_by (ℕ × List ℕ) (coded× coded_ℕ (coded_list coded_ℕ)) (λ s. (s.id, s.body)) (λ p. section_row p.0 p.1) (λ s. refl))

pub framed_sound : sound (Shape.many framed) ≡ true
framed_sound = refl

sections_are_one : {n m : ℕ} {bytes : List ℕ} {rows others : List SectionRow} → AreSections n bytes rows → AreSections m bytes others → rows ≡ others
sections_are_one {rows = rows} {others = others} p q =
    let same : q.rest ≡ p.rest = append_cancel_left core_header q.rest p.rest (sym q.stands ∙ p.stands) in
    let P : List ℕ → Type 0 = λ z. AreHeld framed _ z (map framed_tree others) in
    sym (unframed_rows rows) ∙ ap (map unframed) (rows_are_one framed_sound p.held (subst P same q.held)) ∙ unframed_rows others

module _ (count : ℕ) (bytes : List ℕ) where
  pub HeldSections-one : (p q : HeldSections count bytes) → p.0 ≡ q.0
  HeldSections-one p q =
      ∥∥₁_elim p.1 (Coded-set rows_code p.0 q.0) (λ r.
      ∥∥₁_elim q.1 (Coded-set rows_code p.0 q.0) (λ s. sections_are_one r s))

  pub HeldSections-prop : IsProp (HeldSections count bytes)
  HeldSections-prop p q = Σ_prop_path (λ rows. ∥∥₁_prop) (HeldSections-one p q)

unfoldable pub held_sections : (count : ℕ) (bytes : List ℕ) → HeldSections count bytes → List SectionRow
held_sections count bytes h = h.0
