-- Maps as lists of pairs in the order of their keys.
use Rattle.std.proofs.Common.{◌≡◌, ℕ, zero, suc, ◌+◌, ◌-◌, ◌<◌, ◌≤◌, eqb, ◌≢◌, List, [], ◌∷◌, length, get_or, set, Bool, true, false, if◌then◌else◌, Option, Some, None, refl, sym, ap, subst, ◌∙◌, inl, inr, arith}
use Rattle.std.specs.Prelude.{IsTrue, ◌↔◌}
use Rattle.std.specs.List.{insert}
use Rattle.std.specs.Ordering.{nat_cmp, eq_by_cmp}
use Rattle.std.specs.FinMap as map
use Rattle.std.specs.FinMap.{find, nat_cmp-IsAntisymmetric}
use Rattle.std.specs.Cmp.{nat_cmp_total}
use Rattle.std.proofs.lemmas.List.Edits.{length-insert, get_or-insert_below, get_or-insert_at, get_or-insert_above}
use Rattle.std.proofs.lemmas.Bool.{cases_lt, cases_order}
use Rattle.std.proofs.lemmas.Bool.Decides.{nat_tests}
use Rattle.std.proofs.lemmas.Grind.{common_steps}
use Rattle.reencode_hooks.specs.Renamings.{entries_of}
use Rattle.reencode_hooks.specs.Tables.{key_at, IsStrictlySorted, IsPlaceOf}

abbrev Pairs : Type 0
Pairs = List (ℕ × ℕ)

-- the value of the first pair that has the key
abbrev get : Pairs → ℕ → Option ℕ
get [] key = None
get (e ∷ rest) key = if eqb e.0 key then Some e.1 else get rest key

same_test : (x y : ℕ) → eq_by_cmp nat_cmp x y ≡ eqb y x
same_test x y = grind (arith, nat_tests)

find_get : (l : Pairs) (k : ℕ) → find nat_cmp k l ≡ get l k
find_get [] k = refl
find_get (e ∷ l) k = rw (same_test k e.0, find_get l k) refl

pub get-entries_of : (l : Pairs) (k : ℕ) → map.get (entries_of l) k ≡ get l k
get-entries_of l k = map.get-from_entries nat_cmp_total l k ∙ find_get l k

-- no pair before a place has the key
abbrev NoKeyBefore : Pairs → ℕ → ℕ → Type 0
NoKeyBefore l k i = (j : ℕ) → j < i → key_at l j ≢ k

-- the pair at a place has the key
abbrev IsAt : Pairs → ℕ → ℕ → Type 0
IsAt l k i = (i < length l) × (key_at l i ≡ k)

no_key_before_tail : (x : ℕ × ℕ) (l : Pairs) (k i : ℕ) → NoKeyBefore (x ∷ l) k (suc i) → NoKeyBefore l k i
no_key_before_tail x l k i no_key j lt = no_key (suc j) (omega arith)

get_absent : (l : Pairs) (k : ℕ) → NoKeyBefore l k (length l) → get l k ≡ None
get_absent [] k no_key = refl
get_absent (x ∷ l) k no_key = grind (arith, nat_tests, no_key 0 (omega arith), get_absent l k (no_key_before_tail x l k _ no_key))

get_present : (l : Pairs) (k i : ℕ) → i < length l → key_at l i ≡ k → NoKeyBefore l k i → get l k ≡ Some (get_or l i (0, 0)).1
get_present [] k i within has no_key = absurd (omega (arith, within))
get_present (x ∷ l) k zero within has no_key = grind (arith, nat_tests, has)
get_present (x ∷ l) k (suc i) within has no_key = grind (arith, nat_tests, no_key 0 (omega arith), get_present l k i (omega arith) has (no_key_before_tail x l k i no_key))

abbrev GetsAfterSet : Pairs → Pairs → ℕ → ℕ → Type 0
GetsAfterSet old new k v = (q : ℕ) → get new q ≡ (if eqb k q then Some v else get old q)

get_set : (l : Pairs) (k v i : ℕ) → i < length l → key_at l i ≡ k → NoKeyBefore l k i → GetsAfterSet l (set l i (k, v)) k v
get_set [] k v i within has no_key q = absurd (omega (arith, within))
get_set (x ∷ l) k v zero within has no_key q = grind (arith, nat_tests, has)
get_set (x ∷ l) k v (suc i) within has no_key q = grind (arith, nat_tests, no_key 0 (omega arith), get_set l k v i (omega arith) has (no_key_before_tail x l k i no_key) q)

get-insert : (l : Pairs) (k v i : ℕ) → NoKeyBefore l k i → GetsAfterSet l (insert l i (k, v)) k v
get-insert l k v zero no_key q = refl
get-insert [] k v (suc i) no_key q = refl
get-insert (x ∷ l) k v (suc i) no_key q = grind (arith, nat_tests, no_key 0 (omega arith), get-insert l k v i (no_key_before_tail x l k i no_key) q)

-- lists that give alike hold the same entries
inserted : (l new : Pairs) (k v : ℕ) → GetsAfterSet l new k v → entries_of new ≡ map.insert (entries_of l) k v
inserted l new k v h =
    map.same_map nat_cmp_total nat_cmp-IsAntisymmetric (entries_of new) (map.insert (entries_of l) k v) (λ q.
    get-entries_of new q ∙ h q ∙ sym (map.get-insert nat_cmp_total (entries_of l) k v q ∙ rw (same_test q k, get-entries_of l q) refl))

module _ (l : Pairs) (sorted : IsStrictlySorted l) (k at : ℕ) where
  before_it : at < length l → key_at l at ≡ k → NoKeyBefore l k at
  before_it within has j lt same = omega (arith, sorted j at lt within, has)

  -- the pair at a place has the key
  pub found : at < length l → key_at l at ≡ k → map.get (entries_of l) k ≡ Some (get_or l at (0, 0)).1
  found within has = get-entries_of l k ∙ get_present l k at within has (before_it within has)

  pub set_there : (v : ℕ) → at < length l → key_at l at ≡ k → entries_of (set l at (k, v)) ≡ map.insert (entries_of l) k v
  set_there v within has = inserted l (set l at (k, v)) k v (get_set l k v at within has (before_it within has))

  pub set_sorted : (v : ℕ) → at < length l → key_at l at ≡ k → IsStrictlySorted (set l at (k, v))
  set_sorted v within has i j lt in_range = grind (arith, common_steps, sorted i j, sorted i at, sorted at j, within, has)

module _ (l : Pairs) (sorted : IsStrictlySorted l) (k at : ℕ) (place : IsPlaceOf l k at) (none : at < length l → key_at l at ≢ k) where
  greater_after : (j : ℕ) → at ≤ j → j < length l → k < key_at l j
  greater_after j le lt = elim (cases_order at j) [
    | inl same ↦ let differs : key_at l at ≢ k = none (omega arith) in let P : ℕ → Type 0 = λ z. k < key_at l z in
        subst P same (omega (arith, place.not_after at (omega arith) (omega arith), differs))
    | inr apart ↦ elim apart [
      | inl below ↦ omega (arith, sorted at j below lt, place.not_after at (omega arith) (omega arith))
      | inr above ↦ absurd (omega arith)
    ]
  ]

  no_key : (j : ℕ) → j < length l → key_at l j ≢ k
  no_key j lt same = elim (cases_lt j at) [
    | inl below ↦ omega (arith, place.smaller_before j below)
    | inr above ↦ omega (arith, greater_after j above lt)
  ]

  pub absent : map.get (entries_of l) k ≡ None
  absent = get-entries_of l k ∙ get_absent l k (λ j lt same. no_key j lt same)

  pub set_new : (v : ℕ) → entries_of (insert l at (k, v)) ≡ map.insert (entries_of l) k v
  set_new v = inserted l (insert l at (k, v)) k v (get-insert l k v at (λ j lt same. omega (arith, place.smaller_before j lt)))

  -- each new key is an old one below the gap, k at it, or an old one moved up by one
  pub new_sorted : (v : ℕ) → IsStrictlySorted (insert l at (k, v))
  new_sorted v i j lt in_range =
      let new = insert l at (k, v) in
      let key = λ (x : ℕ × ℕ). x.0 in
      let length_new = length-insert l at (k, v) place.in_range in
      let key_below : (i : ℕ) → i < at → key_at new i ≡ key_at l i = λ i below. ap key (get_or-insert_below l at (k, v) (0, 0) i below place.in_range) in
      let key_here : (i : ℕ) → i ≡ at → key_at new i ≡ k = λ i here. rw here (ap key (get_or-insert_at l at (k, v) (0, 0) place.in_range)) in
      let key_above : (i : ℕ) → at < i → key_at new i ≡ key_at l (i - 1) = λ i above. subst (λ q. key_at new q ≡ key_at l (i - 1)) {x = i - 1 + 1} (omega arith) (ap key (get_or-insert_above l at (k, v) (0, 0) (i - 1) (omega arith) place.in_range)) in
      grind (arith, key_below i, key_here i, key_above i, key_below j, key_here j, key_above j, sorted i j, sorted i (j - 1), sorted (i - 1) (j - 1), place.smaller_before i, greater_after (j - 1))

-- what a test says
pub when_true : {P : Type 0} (b : Bool) → b ≡ true → (IsTrue b ↔ P) → P
when_true b e h = h.0 e

pub when_false : {P : Type 0} (b : Bool) → b ≡ false → (IsTrue b ↔ P) → P → ⊥
when_false b e h p = let is : b ≡ true = h.1 p in cc

-- an empty list has no entries
pub none_held : (l : List (ℕ × ℕ)) (k : ℕ) → length l ≡ 0 → map.get (entries_of l) k ≡ None
none_held [] k e = get-entries_of [] k
none_held (x ∷ l) k e = absurd (omega arith)
