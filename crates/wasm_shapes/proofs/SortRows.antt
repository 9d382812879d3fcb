-- Names of a component behind their sorts.
use Rattle.std.proofs.Common.{◌≡◌, ℕ, List, [], ◌∷◌, ◌++◌, true, refl, sym, subst}
use Rattle.wasm_shapes.specs.declared.Space.{Space}
use Rattle.wasm_shapes.specs.declared.Space.TheVariants as space
use Rattle.wasm_shapes.specs.Tree.{Tree, normal}
use Rattle.wasm_shapes.specs.Shape.{Shape}
use Rattle.wasm_shapes.specs.Spells.{Is, Spells}
use Rattle.wasm_shapes.specs.Component.{sort_names, sort_rows}
use Rattle.wasm_shapes.specs.ComponentNames.{Sort, behind_sort, has_sort, led_by, sort_bytes, sort_of, spelled_sort}
use Rattle.wasm_shapes.proofs.Begins.{row_at, row_is}

-- a space has the row of its sort: one of core modules, or one of components
abbrev core_rows : Shape
core_rows = inner (row_at sort_rows 0)
  where
    inner : Shape → Shape
    inner (Shape.seq a b) = b
    inner _ = Shape.none

abbrev InTable : Space → Sort → Type 0
InTable p (Sort.core k b) = row_at core_rows k ≡ Shape.seq (Shape.fixed b) (sort_names p)
InTable p (Sort.own b) = row_at sort_rows b ≡ Shape.seq (Shape.fixed b) (sort_names p)
InTable p Sort.none = ⊥

in_table : (p : Space) → has_sort p ≡ true → InTable p (sort_of p)
in_table space.Function h = refl
in_table space.Table h = refl
in_table space.Memory h = refl
in_table space.Global h = refl
in_table space.Tag h = refl
in_table space.Type_ h = refl
in_table space.Module h = refl
in_table space.Instance h = refl
in_table space.ComponentFunc h = refl
in_table space.ComponentValue h = refl
in_table space.ComponentType h = refl
in_table space.Component h = refl
in_table space.ComponentInstance h = refl
in_table _ h = absurd cc

-- names behind their sort
pub sort_spells : (p : Space) {bytes : List ℕ} {t : Tree} → has_sort p ≡ true → Spells (sort_names p) bytes t → Spells sort_rows (sort_bytes p ++ bytes) (behind_sort p t)
sort_spells p {bytes = bytes} {t = t} h s = go (sort_of p) (in_table p h)
  where
    go : (s : Sort) → InTable p s → Spells sort_rows (spelled_sort s ++ bytes) (led_by s t)
    go (Sort.core k b) e =
        let I : Shape → Type 0 = λ z. Is z (Tree.pair (Tree.fixed b) t) in
        let row : Is core_rows (Tree.row k (Tree.pair (Tree.fixed b) t)) = row_is core_rows k (subst I (sym e) (Is.seq Is.fixed s.shaped)) in
        record { shaped = Is.first (Is.seq Is.fixed row); spelled = (0x00 ∷ [], b ∷ bytes, refl, refl, (b ∷ [], bytes, refl, refl, s.spelled)) }
    go (Sort.own b) e =
        let I : Shape → Type 0 = λ z. Is z (Tree.pair (Tree.fixed b) t) in
        record { shaped = row_is sort_rows b (subst I (sym e) (Is.seq Is.fixed s.shaped)); spelled = (b ∷ [], bytes, refl, refl, s.spelled) }
    go Sort.none e = absurd e

-- their normal spelling
pub sort_normal : (p : Space) (t : Tree) → has_sort p ≡ true → normal (behind_sort p t) ≡ sort_bytes p ++ normal t
sort_normal p t h = go (sort_of p) (in_table p h)
  where
    go : (s : Sort) → InTable p s → normal (led_by s t) ≡ spelled_sort s ++ normal t
    go (Sort.core k b) e = refl
    go (Sort.own b) e = refl
    go Sort.none e = absurd e
