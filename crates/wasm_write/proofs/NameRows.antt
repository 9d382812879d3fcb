-- The rows of maps of names, and of name sections.
use Rattle.std.proofs.Common.{◌≡◌, ℕ, ◌<◌, ◌≤◌, ◌^◌, List, [], ◌∷◌, ◌++◌, length, map, refl, sym, ap, ap₂, subst, arith, IsUtf8}
use mathlib.Core.Logic.{∥∥₁_map}
use Rattle.wasm_leb.specs.Leb.{leb, IsUnsigned}
use Rattle.wasm_leb.proofs.Shortest.{leb_spells}
use Rattle.wasm_shapes.specs.declared.Space.{Space}
use Rattle.wasm_shapes.specs.Tree.{Tree, normal}
use Rattle.wasm_shapes.specs.Shape.{Shape}
use Rattle.wasm_shapes.specs.Spells.{Is, Spells}
use Rattle.wasm_shapes.specs.Fits.{InRange}
use Rattle.wasm_shapes.specs.Types.{rows_tree, vector_tree, led}
use Rattle.wasm_shapes.specs.Module.{plain_naming, name_subsection, names_name, subsection}
use Rattle.wasm_shapes.specs.Namings.{entry_tree, asked_in, module_name_tree, names_tree, raw_names_tree}
use Rattle.wasm_shapes.proofs.Begins.{row_at, row_is}
use Rattle.wasm_shapes.proofs.Namings.{asked}
use Rattle.wasm_shapes.proofs.Frameless.{frameless_spells}
use Rattle.wasm_write.specs.Held.{BodySpells}
use Rattle.wasm_write.specs.Names.{IsSubsection, NamesSpell, SubsectionsSpell}

-- ---- entries

pub naming_spelled : (i : ℕ) (name : List ℕ) → i < 2 ^ 32 → InRange (Tree.name name) →
    ∥ Spells plain_naming (normal (entry_tree (record { index = i; name = name }))) (entry_tree (record { index = i; name = name })) ∥₁
naming_spelled i name small text = ∣ frameless_spells plain_naming refl (Is.seq Is.u32 Is.name) (small, text) ∣₁

-- an index, and a map of names at it
abbrev outer : ℕ → List Tree → Tree
outer i names = Tree.pair (Tree.u32 i) (vector_tree names)

pub indirect_spelled : (i : ℕ) (names : List Tree) → i < 2 ^ 32 → BodySpells plain_naming names →
    ∥ Spells (Shape.seq Shape.u32 (Shape.vec plain_naming)) (normal (outer i names)) (outer i names) ∥₁
indirect_spelled i names small p =
    ∥∥₁_map p.spells (λ q. record {
      shaped = Is.seq Is.u32 q.shaped;
      spelled = (leb i, normal (vector_tree names), refl, leb_spells i small, q.spelled);
    })

-- ---- a map of names as a subsection

-- the map's body is this one, and the row of this number is that of its shape
map_is : (id : ℕ) (s : Space) (behind : Shape) (rows : List Tree) → row_at name_subsection id ≡ subsection id (Shape.vec (Shape.seq (Shape.ix s) behind)) →
    Spells (Shape.vec (Shape.seq Shape.u32 behind)) (normal (vector_tree rows)) (vector_tree rows) → IsSubsection name_subsection id (normal (vector_tree rows)) (names_tree id s rows)
map_is id s behind rows e p = go (inner p.shaped)
  where
    inner : Is (Shape.vec (Shape.seq Shape.u32 behind)) (vector_tree rows) → Is (Shape.many (Shape.seq Shape.u32 behind)) (rows_tree rows)
    inner (Is.vec d) = d

    go : Is (Shape.many (Shape.seq Shape.u32 behind)) (rows_tree rows) → IsSubsection name_subsection id (normal (vector_tree rows)) (names_tree id s rows)
    go d =
        let a = asked s behind rows d in
        let body : List ℕ = normal (vector_tree rows) in
        let others : Tree = vector_tree (map (asked_in s) rows) in
        let same : normal others ≡ body = ap₂ (λ (k : ℕ) (z : List ℕ). leb k ++ z) a.counted a.normally in
        let P : Shape → Type 0 = λ z. Is z (led id (Tree.sized others)) in
        let Q : ℕ → Type 0 = λ k. IsUnsigned 32 p.spelled.0 k in
        record {
          shaped = row_is name_subsection id (subst P (sym e) (Is.seq Is.fixed (Is.sized (Is.vec a.shaped))));
          spelled = λ small. (
            id ∷ [],
            leb (length body) ++ body,
            refl,
            refl,
            (leb (length body), body, refl, leb_spells (length body) small, (p.spelled.0, p.spelled.1, p.spelled.2, subst Q (sym a.counted) p.spelled.3, a.spelled p.spelled.1 p.spelled.4)),
          );
          normally = ap (λ (z : List ℕ). id ∷ (leb (length z) ++ z)) same;
        }

module _ (id : ℕ) (s : Space) (behind : Shape) (rows : List Tree) {body : List ℕ} (e : row_at name_subsection id ≡ subsection id (Shape.vec (Shape.seq (Shape.ix s) behind)))
    (b : body ≡ normal (vector_tree rows)) (p : BodySpells (Shape.seq Shape.u32 behind) rows) where
  pub map_had : ∥ IsSubsection name_subsection id body (names_tree id s rows) ∥₁
  map_had = rw b (∥∥₁_map p.spells (map_is id s behind rows e))

-- the name of the module
pub module_name_had : (name : List ℕ) → InRange (Tree.name name) → ∥ IsSubsection name_subsection 0 (leb (length name) ++ name) (module_name_tree name) ∥₁
module_name_had name r =
    let body : List ℕ = leb (length name) ++ name in
    ∣ record {
      shaped = Is.first (Is.seq Is.fixed (Is.sized Is.name));
      spelled = λ small. (0 ∷ [], leb (length body) ++ body, refl, refl, (leb (length body), body, refl, leb_spells (length body) small, (leb (length name), refl, leb_spells (length name) r.0, r.1)));
      normally = refl;
    } ∣₁

-- a subsection of an id from 12 on
pub raw_had : (id : ℕ) (contents : List ℕ) → 12 ≤ id → id < 256 → ∥ IsSubsection name_subsection id contents (raw_names_tree id contents) ∥₁
raw_had id contents low small =
    ∣ record {
      shaped = row_is name_subsection 12 (Is.seq (Is.within low (omega arith)) (Is.sized Is.rest));
      spelled = λ short. (id ∷ [], leb (length contents) ++ contents, refl, (refl, small), (leb (length contents), contents, refl, leb_spells (length contents) short, refl));
      normally = refl;
    } ∣₁

-- ---- the body of a section

names_name_utf8 : IsUtf8 names_name
unfolding lib.Utf8.encode
names_name_utf8 = (names_name, (refl, refl))

pub section_spells : (rows : List Tree) → SubsectionsSpell name_subsection rows → NamesSpell rows
section_spells rows p =
    ∥∥₁_map p (λ s. record {
      shaped = Is.named s.shaped;
      spelled = (leb 4 ++ names_name, normal (rows_tree rows), refl, (leb 4, refl, leb_spells 4 (omega arith), names_name_utf8), s.spelled);
    })
