-- The tables of a renamer, whose entries are set one behind another.
use Rattle.std.proofs.Common.{◌≡◌, ◌<◌, ◌^◌, ◌+◌, ◌*◌, ℕ, List, length, get_or, set, drop, Bool, true, false, cond, Option, Some, None, replicate, refl, sym, ap, ◌∙◌, arith, subst, slice_index_or}
use Rattle.std.specs.Prelude.{◌==◌, ◌&&◌}
use Rattle.std.specs.FinMap as map
use Rattle.std.specs.Ordering.{nat_cmp}
use Rattle.std.proofs.lemmas.Bool.{eqb-false, eqb-true}
use Rattle.std.proofs.lemmas.Cmp.{nat_cmp_total}
use Rattle.std.proofs.lemmas.List.{drop_more, get_or-replicate, get_or-set_other, get_or-set_same}
use Rattle.wasm_shapes.specs.declared.Space.{Space}
use Rattle.wasm_shapes.specs.declared.Space.TheVariants as space
use Rattle.reencode_hooks.specs.Renamings.{Entries, Renaming, entries_in, no_renaming, space_number, with_entry}
use Rattle.reencode_c.specs.declared.outcome.Entry.{Entry}
use Rattle.reencode_c.specs.Entries.{entry_from, key}
use Rattle.reencode_c.proofs.Lists.{at_key}

-- each space has one of sixteen tables
pub number_small : (p : Space) → space_number p < 16
number_small space.Data = omega arith
number_small space.Element = omega arith
number_small space.Function = omega arith
number_small space.Global = omega arith
number_small space.Memory = omega arith
number_small space.Table = omega arith
number_small space.Tag = omega arith
number_small space.Type_ = omega arith
number_small space.DataCount = omega arith
number_small space.ComponentType = omega arith
number_small space.ComponentInstance = omega arith
number_small space.ComponentFunc = omega arith
number_small space.Component = omega arith
number_small space.Module = omega arith
number_small space.Instance = omega arith
number_small space.ComponentValue = omega arith

-- no table of a new renamer has an entry
pub bare_table : (r : Renaming) (strict : Bool) (p : Space) (i : ℕ) → r ≡ record no_renaming { strict = strict } → map.get (entries_in r p) i ≡ None
bare_table r strict p i e =
    let none : Entries = map.empty in
    let there : r.entries ≡ replicate 16 none = ap (λ (z : Renaming). z.entries) e in
    let bare : entries_in r p ≡ none = ap (λ (z : List Entries). get_or z (space_number p) none) there ∙ get_or-replicate 16 (space_number p) none none (number_small p) in
    ap (λ (m : Entries). map.get m i) bare ∙ map.get-empty nat_cmp i

-- two keys are one exactly where their spaces and their indices are
same_keys : (a b f i : ℕ) → f < 2 ^ 32 → i < 2 ^ 32 → (key a f == key b i) ≡ ((a == b) && (i == f))
same_keys a b f i few little = go (key a f == key b i) refl (a == b) refl (i == f) refl
  where
    go : (x : Bool) → (key a f == key b i) ≡ x → (y : Bool) → (a == b) ≡ y → (z : Bool) → (i == f) ≡ z → x ≡ (y && z)
    go true e true u true v = refl
    go true e true u false v =
        let same : a * 2 ^ 32 + f ≡ b * 2 ^ 32 + i = eqb-true (key a f) (key b i) e in
        let spaces : a ≡ b = eqb-true a b u in absurd (eqb-false i f v (omega arith))
    go true e false u z v =
        let same : a * 2 ^ 32 + f ≡ b * 2 ^ 32 + i = eqb-true (key a f) (key b i) e in
        absurd (eqb-false a b u (omega arith))
    go false e true u true v =
        let spaces : a ≡ b = eqb-true a b u in
        let indices : i ≡ f = eqb-true i f v in
        absurd (eqb-false (key a f) (key b i) e (omega arith))
    go false e true u false v = refl
    go false e false u z v = refl

-- what an index has behind an entry that was set
set_entry : (r : Renaming) (s p : Space) (from to i : ℕ) → space_number s < length r.entries →
    map.get (entries_in (with_entry r s from to) p) i ≡ cond ((space_number s == space_number p) && (i == from)) (Some to) (map.get (entries_in r p) i)
set_entry r s p from to i there = go (a == b) refl
  where
    a : ℕ
    a = space_number s

    b : ℕ
    b = space_number p

    none : Entries
    none = map.empty

    more : Entries
    more = map.insert (entries_in r s) from to

    go : (x : Bool) → (a == b) ≡ x → map.get (entries_in (with_entry r s from to) p) i ≡ cond (x && (i == from)) (Some to) (map.get (entries_in r p) i)
    go true e =
        let same : a ≡ b = eqb-true a b e in
        let here : get_or (set r.entries a more) b none ≡ more = subst (λ (n : ℕ). get_or (set r.entries a more) n none ≡ more) same (get_or-set_same r.entries a more none there) in
        let old : entries_in r s ≡ entries_in r p = ap (λ (n : ℕ). get_or r.entries n none) same in
        ap (λ (m : Entries). map.get m i) here ∙ map.get-insert nat_cmp_total (entries_in r s) from to i
        ∙ ap (λ (c : Bool). cond c (Some to) (map.get (entries_in r s) i)) (at_key i from) ∙ ap (λ (m : Entries). cond (i == from) (Some to) (map.get m i)) old
    go false e =
        let other : b ≡ a → ⊥ = λ (q : b ≡ a). eqb-false a b e (sym q) in
        ap (λ (m : Entries). map.get m i) (get_or-set_other r.entries a b more none other)

-- one entry more is set
pub table_more : (es : List Entry) (n : ℕ) (d : Entry) (r : Renaming) (s p : Space) (i : ℕ) → n < length es → space_number s ≡ (slice_index_or es n d).space → (slice_index_or es n d).from < 2 ^ 32 → i < 2 ^ 32 →
    space_number s < length r.entries →
    entry_from (map.get (entries_in (with_entry r s (slice_index_or es n d).from (slice_index_or es n d).to) p) i) (drop (n + 1) es) (key (space_number p) i)
    ≡ entry_from (map.get (entries_in r p) i) (drop n es) (key (space_number p) i)
table_more es n d r s p i h is few little there =
    let e0 = slice_index_or es n d in
    let k : ℕ = key (space_number p) i in
    let found : Option ℕ = map.get (entries_in r p) i in
    let asked : (key e0.space e0.from == k) ≡ ((space_number s == space_number p) && (i == e0.from)) =
    same_keys e0.space (space_number p) e0.from i few little ∙ ap (λ (z : ℕ). (z == space_number p) && (i == e0.from)) (sym is) in
    ap (λ (o : Option ℕ). entry_from o (drop (n + 1) es) k) (set_entry r s p e0.from e0.to i there ∙ ap (λ (b : Bool). cond b (Some e0.to) found) (sym asked))
    ∙ ap (λ (z : List Entry). entry_from found z k) (sym (drop_more es n d h))
