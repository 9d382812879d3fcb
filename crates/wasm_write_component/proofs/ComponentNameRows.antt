-- Subsections of the names of a component, as they are written.
use Rattle.std.proofs.Common.{◌≡◌, ℕ, ◌<◌, ◌≤◌, List, [], ◌∷◌, ◌++◌, nat_eq, true, false, length, length-append, map, refl, sym, ap, ap₂, ◌∙◌, subst, arith, inl, inr, IsUtf8}
use Rattle.std.proofs.lemmas.Bool.{ne_eqb}
use mathlib.Core.Logic.{∥∥₁_map}
use Rattle.wasm_leb.specs.Leb.{leb, IsUnsigned}
use Rattle.wasm_leb.proofs.Shortest.{leb_spells}
use Rattle.wasm_leb.proofs.Writing.{long_1}
use Rattle.wasm_shapes.specs.declared.Space.{Space}
use Rattle.wasm_shapes.specs.Component.{component_name_subsection, component_names_name, sort_names, sort_rows, sorts}
use Rattle.wasm_shapes.specs.ComponentNames.{IsRawNames, behind_sort, component_names_tree, has_sort, raw_component_names_tree, sort_bytes}
use Rattle.wasm_shapes.specs.Fits.{InRange}
use Rattle.wasm_shapes.specs.Module.{plain_naming}
use Rattle.wasm_shapes.specs.Namings.{asked_in, module_name_tree}
use Rattle.wasm_shapes.specs.Shape.{Shape}
use Rattle.wasm_shapes.specs.Spells.{Is, Spells}
use Rattle.wasm_shapes.specs.Tree.{Tree, normal}
use Rattle.wasm_shapes.specs.Types.{rows_tree, vector_tree}
use Rattle.wasm_shapes.proofs.Namings.{asked}
use Rattle.wasm_shapes.proofs.SortRows.{sort_normal, sort_spells}
use Rattle.wasm_write.specs.Held.{BodySpells}
use Rattle.wasm_write.specs.Names.{IsSubsection, SubsectionsSpell}
use Rattle.wasm_write_component.specs.ComponentNames.{ComponentNamesSpell}

-- ---- names behind their sort

map_is : (p : Space) (rows : List Tree) → has_sort p ≡ true → Spells (Shape.vec plain_naming) (normal (vector_tree rows)) (vector_tree rows) →
    IsSubsection component_name_subsection 1 (sort_bytes p ++ normal (vector_tree rows)) (component_names_tree p rows)
map_is p rows h s = go (inner s.shaped)
  where
    inner : Is (Shape.vec plain_naming) (vector_tree rows) → Is (Shape.many plain_naming) (rows_tree rows)
    inner (Is.vec d) = d

    go : Is (Shape.many plain_naming) (rows_tree rows) → IsSubsection component_name_subsection 1 (sort_bytes p ++ normal (vector_tree rows)) (component_names_tree p rows)
    go d =
        let a = asked p Shape.name rows d in
        let body : List ℕ = sort_bytes p ++ normal (vector_tree rows) in
        let others : Tree = vector_tree (map (asked_in p) rows) in
        let same : normal others ≡ normal (vector_tree rows) = ap₂ (λ (k : ℕ) (z : List ℕ). leb k ++ z) a.counted a.normally in
        let Q : ℕ → Type 0 = λ k. IsUnsigned 32 s.spelled.0 k in
        let names : Spells (sort_names p) (normal (vector_tree rows)) others = record {
          shaped = Is.vec a.shaped;
          spelled = (s.spelled.0, s.spelled.1, s.spelled.2, subst Q (sym a.counted) s.spelled.3, a.spelled s.spelled.1 s.spelled.4);
        } in
        let sorted : Spells sort_rows body (behind_sort p others) = sort_spells p h names in
        let written : normal (behind_sort p others) ≡ body = sort_normal p others h ∙ ap (λ (z : List ℕ). sort_bytes p ++ z) same in
        record {
          shaped = Is.later (Is.first (Is.seq Is.fixed (Is.sized (Is.led sorted.shaped))));
          spelled = λ small. (1 ∷ [], leb (length body) ++ body, refl, refl, (leb (length body), body, refl, leb_spells (length body) small, sorted.spelled));
          normally = ap (λ (z : List ℕ). 1 ∷ (leb (length z) ++ z)) written;
        }

pub map_had : (p : Space) (rows : List Tree) (front : List ℕ) {body : List ℕ} → has_sort p ≡ true → sort_bytes p ≡ front → body ≡ normal (vector_tree rows) → BodySpells plain_naming rows →
    ∥ IsSubsection component_name_subsection 1 (front ++ body) (component_names_tree p rows) ∥₁
map_had p rows front h e b s =
    let P : List ℕ → Type 0 = λ z. ∥ IsSubsection component_name_subsection 1 (z ++ normal (vector_tree rows)) (component_names_tree p rows) ∥₁ in
    rw b (subst P e (∥∥₁_map s.spells (map_is p rows h)))

-- ---- the name of the component

pub name_had : (name : List ℕ) → InRange (Tree.name name) → ∥ IsSubsection component_name_subsection 0 (leb (length name) ++ name) (module_name_tree name) ∥₁
name_had name r =
    let body : List ℕ = leb (length name) ++ name in
    ∣ record {
      shaped = Is.first (Is.seq Is.fixed (Is.sized Is.name));
      spelled = λ small. (0 ∷ [], leb (length body) ++ body, refl, refl, (leb (length body), body, refl, leb_spells (length body) small, (leb (length name), refl, leb_spells (length name) r.0, r.1)));
      normally = refl;
    } ∣₁

-- ---- bytes

raw_one : (contents : List ℕ) → Is (Shape.begun sorts sort_rows) (Tree.raw contents) → IsSubsection component_name_subsection 1 contents (raw_component_names_tree 1 contents)
raw_one contents d = record {
  shaped = Is.later (Is.first (Is.seq Is.fixed (Is.sized d)));
  spelled = λ short. (1 ∷ [], leb (length contents) ++ contents, refl, refl, (leb (length contents), contents, refl, leb_spells (length contents) short, refl));
  normally = refl;
}

raw_other : (id : ℕ) (contents : List ℕ) → 2 ≤ id → id < 256 → IsSubsection component_name_subsection id contents (raw_component_names_tree id contents)
raw_other id contents low small =
    let other : nat_eq id 1 ≡ false = ne_eqb id 1 (λ e. omega arith) in
    rw other (record {
      shaped = Is.later (Is.later (Is.first (Is.seq (Is.within {high = 255} low (omega arith)) (Is.sized Is.rest))));
      spelled = λ short. (id ∷ [], leb (length contents) ++ contents, refl, (refl, small), (leb (length contents), contents, refl, leb_spells (length contents) short, refl));
      normally = refl;
    })

pub raw_had : (id : ℕ) (contents : List ℕ) → IsRawNames id contents → id < 256 → ∥ IsSubsection component_name_subsection id contents (raw_component_names_tree id contents) ∥₁
raw_had id contents (inl r) small =
    let P : ℕ → Type 0 = λ z. IsSubsection component_name_subsection z contents (raw_component_names_tree z contents) in
    ∣ subst P (sym r.0) (raw_one contents (Is.not_led r.1)) ∣₁
raw_had id contents (inr low) small = ∣ raw_other id contents low small ∣₁

-- ---- the body of the section

names_name_utf8 : IsUtf8 component_names_name
unfolding lib.Utf8.encode
names_name_utf8 = (component_names_name, (refl, refl))

pub section_spells : (rows : List Tree) → SubsectionsSpell component_name_subsection rows → ComponentNamesSpell rows
section_spells rows p =
    ∥∥₁_map p (λ s. record {
      shaped = Is.named s.shaped;
      spelled = (leb 14 ++ component_names_name, normal (rows_tree rows), refl, (leb 14, refl, leb_spells 14 (omega arith), names_name_utf8), s.spelled);
    })

-- the name and its length
pub name_length : length (leb 14 ++ component_names_name) ≡ 15
name_length = omega (arith, long_1 14 (omega arith), length-append (leb 14) component_names_name)
