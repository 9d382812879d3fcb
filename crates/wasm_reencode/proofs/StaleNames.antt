-- The names of sections that tell places in code.
use Rattle.std.proofs.Common.{◌≡◌, ℕ, suc, ◌+◌, ◌<◌, ◌≤◌, ◌⊎◌, inl, inr, Ordering, Less, Bool, true, false, Bor, List, [], ◌∷◌, ◌++◌, length, get_or, take, map, nat_eq, codes, refl, sym, ap, ◌∙◌, subst, arith}
use Rattle.std.specs.List.{Contains}
use Rattle.std.specs.Prelude.{IsPermutation}
use Rattle.std.specs.List.Retain.{DiffersFromLast, IsFiltered}
use Rattle.std.specs.Cmp.Lexicographic.{on_texts, on_texts_equal, pointwise, slice_cmp}
use Rattle.std.specs.List.{AllByRecursion}
use Rattle.std.specs.List.Sorted.{IsSorted, IsStrictlySortedBy}
use Rattle.std.specs.Ordering.{nat_cmp}
use Rattle.std.proofs.lemmas.Map.Text.{is_eq-slice_cmp}
use Rattle.std.proofs.Math.Seq.{take-length}
use Rattle.std.proofs.lemmas.List.{length-map, map-append, take_more}
use Rattle.std.proofs.lemmas.List.Elements.{Contains-append_cases, Contains-append_left, Contains-append_right, Contains-get_or, Contains-push, Contains-push_cases}
use Rattle.std.proofs.lemmas.List.Filters.{dedup_is}
use Rattle.std.proofs.lemmas.List.Kept.{Any-dedup, Contains-from_dedup, IsStrictlySortedBy-dedup}
use Rattle.std.proofs.lemmas.List.Sorted.{Contains-permutation, IsPermutation-sym}
use Rattle.std.proofs.lemmas.Slice.Eq.{bytes_eq-Decides}
use Rattle.wasm_shapes.specs.Place.{Begins}
use Rattle.wasm_shapes.specs.Shape.{Shape}
use Rattle.wasm_shapes.specs.Tree.{Tree}
use Rattle.wasm_shapes.proofs.Unique.{unique}
use Rattle.wasm_reencode.specs.declared.sections.Section.{Section}
use Rattle.wasm_reencode.specs.Sections.{Frame, HasName}
use Rattle.wasm_reencode.specs.Stale.{AreQuoted, AreStale, IsQuoted, IsStaleOf}
use Rattle.wasm_reencode.proofs.CodeBodies.{read}
use Rattle.wasm_strip.specs.Choices.{is_stale}

-- a section has one name
pub one_name : (s : Section) (a b : List ℕ) → HasName s a → HasName s b → a ≡ b
one_name s a b h j =
    let same : h.0 ≡ j.0 = cc (h.2, j.2) in
    let P : Frame → Type 0 = λ z. Begins Shape.name z.0.now (Tree.name a) h.1 in
    let p = subst P same h.4 in
    let trees = unique p.spells.shaped j.4.spells.shaped p.text j.4.text h.1 j.1 refl (inl refl) p.spells.spelled j.4.spells.spelled (sym p.reads ∙ j.4.reads) in
    cc trees.1

-- these are the names of some first sections that tell places in code
pub record NamesSoFar (sections : List Section) (i : ℕ) (names : List (Bor (List ℕ))) : Type 0 where
  pub each : (name : Bor (List ℕ)) → Contains names name → IsStaleOf sections name.now
  pub all : (name : List ℕ) → IsStaleOf (take i sections) name → (one : Bor (List ℕ)) × Contains names one × (one.now ≡ name)

none_in : {X : Type 0} {x : X} → Contains [] x → ⊥
none_in h = omega (arith, h.1)

module _ (sections : List Section) where
  pub names_begin : NamesSoFar sections 0 []
  names_begin = record { each = λ name h. absurd (none_in h); all = λ name h. absurd (none_in h.1) }

  module _ (i : ℕ) (d : Section) (less : i < length sections) where
    -- one of the first sections and the next is one of the first or the next
    first_or_next : (s : Section) → Contains (take (i + 1) sections) s → Contains (take i sections) s ⊎ (get_or sections i d ≡ s)
    first_or_next s h = Contains-push_cases (take i sections) (get_or sections i d) s (subst (λ (z : List Section). Contains z s) (take_more sections i d less) h)

    pub names_skip : {names : List (Bor (List ℕ))} → NamesSoFar sections i names → ((name : List ℕ) → HasName (get_or sections i d) name → is_stale name ≡ false) → NamesSoFar sections (i + 1) names
    names_skip {names} so none = record { each = so.each; all = λ name h. go name h (first_or_next h.0 h.1) }
      where
        go : (name : List ℕ) (h : IsStaleOf (take (i + 1) sections) name) → Contains (take i sections) h.0 ⊎ (get_or sections i d ≡ h.0) → (one : Bor (List ℕ)) × Contains names one × (one.now ≡ name)
        go name h (inl among) = so.all name (h.0, among, h.2, h.3)
        go name h (inr e) =
            let P : Section → Type 0 = λ z. HasName z name in
            let other : is_stale name ≡ false = none name (subst P (sym e) h.2) in
            absurd (cc (other, h.3))

    pub names_push : {names : List (Bor (List ℕ))} (one : Bor (List ℕ)) → NamesSoFar sections i names → HasName (get_or sections i d) one.now → is_stale one.now ≡ true
        → NamesSoFar sections (i + 1) (names ++ one ∷ [])
    names_push {names} one so has stale = record {
      each = λ name h. here name (Contains-push_cases names one name h);
      all = λ name h. go name h (first_or_next h.0 h.1);
    }
      where
        here : (name : Bor (List ℕ)) → Contains names name ⊎ (one ≡ name) → IsStaleOf sections name.now
        here name (inl among) = so.each name among
        here name (inr e) = subst (λ (z : Bor (List ℕ)). IsStaleOf sections z.now) e (get_or sections i d, Contains-get_or sections i d less, has, stale)

        go : (name : List ℕ) (h : IsStaleOf (take (i + 1) sections) name) → Contains (take i sections) h.0 ⊎ (get_or sections i d ≡ h.0)
            → (found : Bor (List ℕ)) × Contains (names ++ one ∷ []) found × (found.now ≡ name)
        go name h (inl among) =
            let before = so.all name (h.0, among, h.2, h.3) in
            (before.0, Contains-append_left names (one ∷ []) before.0 before.1, before.2)
        go name h (inr e) =
            let P : Section → Type 0 = λ z. HasName z name in
            (one, Contains-push names one, one_name (get_or sections i d) one.now name has (subst P (sym e) h.2))

-- these are the names of all sections that tell places in code
pub record NamesOf (sections : List Section) (names : List (Bor (List ℕ))) : Type 0 where
  pub each : (name : Bor (List ℕ)) → Contains names name → IsStaleOf sections name.now
  pub all : (name : List ℕ) → IsStaleOf sections name → (one : Bor (List ℕ)) × Contains names one × (one.now ≡ name)

pub names_all : (sections : List Section) (i : ℕ) {names : List (Bor (List ℕ))} → length sections ≤ i → i ≤ length sections → NamesSoFar sections i names → NamesOf sections names
names_all sections i {names} last within so =
    let whole : take i sections ≡ sections = let e : i ≡ length sections = omega arith in rw e (take-length sections) in
    let P : List Section → Type 0 = λ z. (name : List ℕ) → IsStaleOf z name → (one : Bor (List ℕ)) × Contains names one × (one.now ≡ name) in
    record { each = so.each; all = subst P whole so.all }

pub names_permuted : {sections : List Section} (names others : List (Bor (List ℕ))) → IsPermutation names others → NamesOf sections names → NamesOf sections others
names_permuted names others p of = record {
  each = λ name h. of.each name (Contains-permutation others names name (IsPermutation-sym names others p) h);
  all = λ name h. let one = of.all name h in (one.0, Contains-permutation names others one.0 p one.1, one.2);
}

abbrev pub same_text : Bor (List ℕ) → Bor (List ℕ) → Bool
same_text x y = pointwise nat_eq x.now y.now

same_now : (x y : Bor (List ℕ)) → same_text x y ≡ true → x.now ≡ y.now
same_now x y e = (bytes_eq-Decides x.now y.now).0 e

pub names_deduped : {sections : List Section} (names others : List (Bor (List ℕ))) → IsFiltered (DiffersFromLast same_text) [] names others → NamesOf sections names → NamesOf sections others
names_deduped {sections} names others f of = rw (dedup_is same_text names others f) (record {
  each = λ name h. of.each name (Contains-from_dedup same_text names name h);
  all = λ name h.
      let one = of.all name h in
      let kept = Any-dedup (on_texts_equal (λ text. text.now)) names one.0 one.1 in
      (kept.1, (kept.0, kept.2, kept.3), sym (same_now one.0 kept.1 kept.4) ∙ one.2);
})

-- an element of a mapped list comes of one, and one goes to one
from_map : {X Y : Type 0} (f : X → Y) (xs : List X) (y : Y) → Contains (map f xs) y → (x : X) × Contains xs x × (f x ≡ y)
from_map f [] y h = absurd (none_in h)
from_map {X} {Y} f (x ∷ xs) y h = go (from_map f xs y) (Contains-append_cases (f x ∷ []) (map f xs) y h)
  where
    first : Contains [] y ⊎ (f x ≡ y) → (z : X) × Contains (x ∷ xs) z × (f z ≡ y)
    first (inl none) = absurd (none_in none)
    first (inr e) = (x, Contains-append_left (x ∷ []) xs x (Contains-push [] x), e)

    go : (Contains (map f xs) y → (z : X) × Contains xs z × (f z ≡ y)) → Contains (f x ∷ []) y ⊎ Contains (map f xs) y → (z : X) × Contains (x ∷ xs) z × (f z ≡ y)
    go again (inl one) = first (Contains-push_cases [] (f x) y one)
    go again (inr more) = let found = again more in (found.0, Contains-append_right (x ∷ []) xs found.0 found.1, found.2)

to_map : {X Y : Type 0} (f : X → Y) (xs : List X) (x : X) → Contains xs x → Contains (map f xs) (f x)
to_map f [] x h = absurd (none_in h)
to_map f (a ∷ xs) x h = go (to_map f xs x) (Contains-append_cases (a ∷ []) xs x h)
  where
    first : Contains [] x ⊎ (a ≡ x) → Contains (f a ∷ map f xs) (f x)
    first (inl none) = absurd (none_in none)
    first (inr e) = Contains-append_left (f a ∷ []) (map f xs) (f x) (subst (λ z. Contains (f a ∷ []) z) (ap f e) (Contains-push [] (f a)))

    go : (Contains xs x → Contains (map f xs) (f x)) → Contains (a ∷ []) x ⊎ Contains xs x → Contains (f a ∷ map f xs) (f x)
    go again (inl one) = first (Contains-push_cases [] a x one)
    go again (inr more) = Contains-append_right (f a ∷ []) (map f xs) (f x) (again more)

-- names that are sorted and then left out where they repeat
abbrev text_cmp : Bor (List ℕ) → Bor (List ℕ) → Ordering
text_cmp x y = slice_cmp nat_cmp x.now y.now

pub names_ordered : (names others : List (Bor (List ℕ))) → IsFiltered (DiffersFromLast same_text) [] names others → IsSorted text_cmp names → IsStrictlySortedBy text_cmp others
names_ordered names others f sorted =
    rw (dedup_is same_text names others f) (IsStrictlySortedBy-dedup (on_texts (λ (text : Bor (List ℕ)). text.now)) (λ x y. sym (is_eq-slice_cmp x.now y.now)) names sorted)

all_read : (name : List ℕ) (names : List (Bor (List ℕ))) → AllByRecursion (λ (y : Bor (List ℕ)). slice_cmp nat_cmp name y.now ≡ Less) names
    → AllByRecursion (λ y. slice_cmp nat_cmp name y ≡ Less) (read names)
all_read name [] h = tt
all_read name (y ∷ names) h = (h.0, all_read name names h.1)

ordered_read : (names : List (Bor (List ℕ))) → IsStrictlySortedBy text_cmp names → IsStrictlySortedBy (slice_cmp nat_cmp) (read names)
unfolding IsStrictlySortedBy
ordered_read [] h = tt
ordered_read (name ∷ names) h = (all_read name.now names h.0, ordered_read names h.1)

pub names_read : {sections : List Section} (names : List (Bor (List ℕ))) → NamesOf sections names → IsStrictlySortedBy text_cmp names → AreStale sections (read names)
names_read {sections} names of ordered = record {
  ordered = ordered_read names ordered;
  each = λ name h. let one = from_map (λ text. text.now) names name h in subst (IsStaleOf sections) one.2 (of.each one.0 one.1);
  all = λ name h. let one = of.all name h in subst (λ (z : List ℕ). Contains (read names) z) one.2 (to_map (λ text. text.now) names one.0 one.1);
}

-- without names no section tells places in code
pub none_stale : {sections : List Section} (names : List (Bor (List ℕ))) → length names ≡ 0 → AreStale sections (read names) → (name : List ℕ) → ¬ IsStaleOf sections name
none_stale names e are name h =
    let among = are.all name h in
    absurd (omega (arith, e, length-map names (λ (text : Bor (List ℕ)). text.now), among.1))

-- the first names, of which the loop leaves out the first, are quoted
abbrev pub QuotedSoFar : List (Bor (List ℕ)) → ℕ → List ℕ → Type 0
QuotedSoFar names i text = AreQuoted (read (take (suc i) names)) text

pub quoted_begin : (first : Bor (List ℕ)) (rest names : List (Bor (List ℕ))) (text : List ℕ) → names ≡ first ∷ rest → IsQuoted first.now text → QuotedSoFar names 0 text
quoted_begin first rest names text e is = let P : List (Bor (List ℕ)) → Type 0 = λ z. QuotedSoFar z 0 text in subst P (sym e) (AreQuoted.one is)

pub quoted_step : (first : Bor (List ℕ)) (rest names : List (Bor (List ℕ))) (i : ℕ) (d : Bor (List ℕ)) (text new quoted : List ℕ) → names ≡ first ∷ rest → i < length rest
    → QuotedSoFar names i text → IsQuoted (get_or rest i d).now quoted → new ≡ (text ++ codes ", ") ++ quoted → QuotedSoFar names (i + 1) new
quoted_step first rest names i d text new quoted is less so quotes e =
    let one = get_or rest i d in
    let Front : List (Bor (List ℕ)) → Type 0 = λ z. QuotedSoFar z i text in
    let Whole : List (Bor (List ℕ)) → Type 0 = λ z. QuotedSoFar z (i + 1) new in
    let grown : read (first ∷ take (i + 1) rest) ≡ read (first ∷ take i rest) ++ one.now ∷ [] =
    ap (λ (z : List (Bor (List ℕ))). first.now ∷ read z) (take_more rest i d less) ∙ ap (λ (z : List (List ℕ)). first.now ∷ z) (map-append (λ (t : Bor (List ℕ)). t.now) (take i rest) (one ∷ [])) in
    let P : List (List ℕ) → Type 0 = λ z. AreQuoted z new in
    let Q : List ℕ → Type 0 = λ z. AreQuoted (read (first ∷ take i rest) ++ one.now ∷ []) z in
    subst Whole (sym is) (subst P (sym grown) (subst Q (sym e) (AreQuoted.more one.now text quoted (subst Front is so) quotes)))

pub quoted_last : (first : Bor (List ℕ)) (rest names : List (Bor (List ℕ))) (i : ℕ) (text : List ℕ) → names ≡ first ∷ rest → length rest ≤ i → i ≤ length rest
    → QuotedSoFar names i text → AreQuoted (read names) text
quoted_last first rest names i text is last within so =
    let Front : List (Bor (List ℕ)) → Type 0 = λ z. QuotedSoFar z i text in
    let whole : take i rest ≡ rest = let same : i ≡ length rest = omega arith in rw same (take-length rest) in
    let P : List (Bor (List ℕ)) → Type 0 = λ z. AreQuoted (read z) text in
    subst P (ap (λ (z : List (Bor (List ℕ))). first ∷ z) whole ∙ sym is) (subst Front is so)

pub quoted_none : (names : List (Bor (List ℕ))) (text : List ℕ) → length names ≡ 0 → text ≡ [] → AreQuoted (read names) text
quoted_none [] text e none = subst (AreQuoted []) (sym none) AreQuoted.none
quoted_none (name ∷ names) text e none = absurd (omega (arith, e))
