-- Lists that are filled from the front, counts that stay at their end, keys of maps, and the first entry without a space.
use Rattle.std.proofs.Common.{◌≡◌, ℕ, suc, ◌+◌, ◌≤◌, ◌<◌, List, [], ◌∷◌, ◌++◌, All, length, take, drop, slice_index_or, Bool, true, false, nat_lt, cond, ltb-true, ltb-false, Less, Equal, Greater, refl, sym, ap, ◌∙◌, arith, subst}
use Rattle.std.specs.Prelude.{◌==◌, slice_set}
use Rattle.std.specs.BTreeMap.{is_at}
use Rattle.std.specs.Ordering.{is_eq, nat_cmp}
use Rattle.std.proofs.Math.Nat.{min-eq_left, min-eq_right, min-le_right}
use Rattle.std.proofs.lemmas.Bool.{eqb-true}
use Rattle.std.proofs.lemmas.List.{append-nil, append_assoc, drop_more, length-set, length-take-le, take-append-drop, take_more_set}
use Rattle.reencode_c.specs.declared.outcome.Entry.{Entry}
use Rattle.reencode_c.specs.declared.outcome.ListedVisit.{ListedVisit}
use Rattle.reencode_c.specs.Entries.{FirstWithoutSpace, HasSpace}
use Rattle.reencode_c.specs.Visits.{Listing, put, put_all, tally}

-- the keys of a map of numbers are told apart as the numbers are
pub at_key : (a k : ℕ) → is_at (nat_cmp a) k ≡ (a == k)
at_key a k = go (nat_lt a k) refl (a == k) refl
  where
    go : (x : Bool) → nat_lt a k ≡ x → (y : Bool) → (a == k) ≡ y → is_eq (cond x Less (cond y Equal Greater)) ≡ y
    go true e true f =
        let less : a < k = ltb-true a k e in
        let same : a ≡ k = eqb-true a k f in absurd (omega arith)
    go true e false f = refl
    go false e true f = refl
    go false e false f = refl

-- an entry without a space is the first where all before it have one
pub first_without : (es : List Entry) (n : ℕ) (d : Entry) → n < length es → All HasSpace (take n es) → 16 ≤ (slice_index_or es n d).space →
    FirstWithoutSpace es n (slice_index_or es n d).space (slice_index_or es n d).from
first_without es n d h known unknown = record {
  front = take n es;
  entry = slice_index_or es n d;
  rest = drop (n + 1) es;
  parts = sym (take-append-drop n es) ∙ ap (λ (z : List Entry). take n es ++ z) (drop_more es n d h);
  place_is = length-take-le n es (omega (arith, h));
  known = known;
  unknown = unknown;
  space_is = refl;
  index_is = refl;
}

-- ---- counts

-- one more that is counted first
pub counted_more : (n k : ℕ) → tally (tally (n + 1) + k) ≡ tally (n + suc k)
counted_more n k = go (nat_lt n 18446744073709551615) refl
  where
    go : (b : Bool) → nat_lt n 18446744073709551615 ≡ b → tally (tally (n + 1) + k) ≡ tally (n + suc k)
    go true e =
        let less : n < 18446744073709551615 = ltb-true n 18446744073709551615 e in
        let low : n + 1 ≤ 18446744073709551615 = omega arith in
        let sum : (n + 1) + k ≡ n + suc k = omega arith in
        ap (λ (z : ℕ). tally (z + k)) (min-eq_left low) ∙ ap tally sum
    go false e =
        let high : 18446744073709551615 ≤ n = ltb-false n 18446744073709551615 e in
        let one : 18446744073709551615 ≤ n + 1 = omega arith in
        let first : 18446744073709551615 ≤ 18446744073709551615 + k = omega arith in
        let all : 18446744073709551615 ≤ n + suc k = omega arith in
        ap (λ (z : ℕ). tally (z + k)) (min-eq_right one) ∙ min-eq_right first ∙ sym (min-eq_right all)

pub counted_low : (n : ℕ) → tally n ≤ 18446744073709551615
counted_low n = min-le_right n 18446744073709551615

pub counted_none : (n : ℕ) → n ≤ 18446744073709551615 → n ≡ tally (n + 0)
counted_none n low = let same : n ≡ n + 0 = omega arith in sym (min-eq_left low) ∙ ap tally same

-- ---- a list in its room

pub put_all-append : (us : List ListedVisit) (l : Listing) (vs : List ListedVisit) → put_all l (us ++ vs) ≡ put_all (put_all l us) vs
put_all-append [] l vs = refl
put_all-append (u ∷ us) l vs = put_all-append us (put l u) vs

-- how many were put
pub put_count : (vs : List ListedVisit) (l : Listing) → l.count ≤ 18446744073709551615 → (put_all l vs).count ≡ tally (l.count + length vs)
put_count [] l low = counted_none l.count low
put_count (v ∷ vs) l low = put_count vs (put l v) (counted_low (l.count + 1)) ∙ counted_more l.count (length vs)

pub put_length : (vs : List ListedVisit) (l : Listing) → length (put_all l vs).list ≡ length l.list
put_length [] l = refl
put_length (v ∷ vs) l = put_length vs (put l v) ∙ length-set l.list l.count v

-- where there is room, they stand behind one another
pub put_front : (vs : List ListedVisit) (l : Listing) → l.count + length vs ≤ length l.list → l.count + length vs ≤ 18446744073709551615 →
    take (l.count + length vs) (put_all l vs).list ≡ take l.count l.list ++ vs
put_front [] l room low =
    let same : l.count + 0 ≡ l.count = omega arith in
    ap (λ (n : ℕ). take n l.list) same ∙ sym (append-nil (take l.count l.list))
put_front (v ∷ vs) l room low =
    let some : l.count < length l.list = omega (arith, room) in
    let one : l.count + 1 ≤ 18446744073709551615 = omega (arith, low) in
    let count : tally (l.count + 1) ≡ l.count + 1 = min-eq_left one in
    let wide : length (slice_set l.list l.count v) ≡ length l.list = length-set l.list l.count v in
    let whole : (l.count + 1) + length vs ≡ l.count + suc (length vs) = omega arith in
    let fits : (l.count + 1) + length vs ≤ length (slice_set l.list l.count v) = omega (arith, room, wide, whole) in
    let lows : (l.count + 1) + length vs ≤ 18446744073709551615 = omega (arith, low, whole) in
    let more = put_front vs (put l v) (subst (λ (n : ℕ). n + length vs ≤ length (slice_set l.list l.count v)) (sym count) fits)
    (subst (λ (n : ℕ). n + length vs ≤ 18446744073709551615) (sym count) lows) in
    let P : ℕ → Type 0 = λ n. take (n + length vs) (put_all (put l v) vs).list ≡ take n (slice_set l.list l.count v) ++ vs in
    ap (λ (n : ℕ). take n (put_all (put l v) vs).list) (sym whole) ∙ subst P count more
    ∙ ap (λ (xs : List ListedVisit). xs ++ vs) (take_more_set l.list l.count v some) ∙ append_assoc (take l.count l.list) (v ∷ []) vs
