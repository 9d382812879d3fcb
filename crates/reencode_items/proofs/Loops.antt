-- The walk over items one behind another, as far as a loop over them has come.
use Rattle.std.proofs.Common.{◌≡◌, ◌≢◌, ◌<◌, ◌≤◌, ℕ, ◌+◌, Bool, List, [], ◌∷◌, ◌++◌, length, drop, get_or, Err, refl, sym, subst, ap, ◌∙◌, drop-cons, add-one, arith}
use Rattle.std.specs.Prelude.{map, IsTrue}
use Rattle.std.proofs.lemmas.Grind.{common_steps}
use Rattle.std.proofs.lemmas.List.{map-append, drop_all}
use Rattle.wasm_shapes.specs.Tree.{Tree, visits}
use Rattle.wasm_shapes.specs.Types.{rows_tree, vector_tree}
use Rattle.reencode_hooks.specs.declared.error.Error.{Error}
use Rattle.reencode_hooks.specs.declared.error.Error.TheVariants.{NoMemory}
use Rattle.reencode_hooks.specs.Run.{Step, accepted, refused, and_then, NeverWants, Visited}
use Rattle.reencode_hooks.specs.Walk.{walk}
use Rattle.reencode_hooks.proofs.Leaving.{accepted_visited, first_visited, never_wants, refused_visited, second_visited}
use Rattle.reencode_items.specs.Rows.{Asks, onto_rows}
use Rattle.reencode_items.proofs.Rows.{one_onto, onto_nothing}

-- Of the items of a list those in front of a place were mapped one by one. Where the defaults are kept, these were walked, to
-- what is made so far and this state, and the others are walked from here.
pub record ItemsDone {S E A B : Type 0} (asked : Asks S E) (keeps : Bool) (read : A → Tree) (write : B → Tree)
    (s0 : S) (items : List A) (place : ℕ) (s : S) (made : List B) : Type 0 where
  pub counted : length made ≡ place
  pub walks : IsTrue keeps → (c : ℕ) →
      walk asked c s0 (rows_tree (map read items)) ≡ onto_rows (map write made) (walk asked c s (rows_tree (map read (drop place items))))
  -- what was asked of the others was asked behind the first
  pub onward : IsTrue keeps → (m : S) →
      Visited asked s (visits (rows_tree (map read (drop place items)))) m → Visited asked s0 (visits (rows_tree (map read items))) m

-- one row more in front of a step
made_onto : {S E B : Type 0} (write : B → Tree) (made : List B) (b : B) (step : Step S (Error E) Tree) →
    onto_rows (map write made) (and_then step (λ u m. accepted (Tree.cons (write b) u) m)) ≡ onto_rows (map write (made ++ b ∷ [])) step
made_onto write made b step = one_onto (map write made) (write b) step ∙ ap (λ (ts : List Tree). onto_rows ts step) (sym (map-append write made (b ∷ [])))

-- the item at a place, in front of those behind it
pub drop_at : {A : Type 0} (items slice : List A) (i : ℕ) (d : A) → slice ≡ items → i < length slice → drop i items ≡ get_or slice i d ∷ drop (i + 1) items
drop_at items slice i d e h = rw (← e) (rw add-one (drop-cons slice i d h))

module _ {S E A B : Type 0} {asked : Asks S E} {keeps : Bool} {read : A → Tree} {write : B → Tree} where
  pub items_begin : (s : S) (items : List A) → ItemsDone asked keeps read write s items 0 s []
  items_begin s items = record { counted = refl; walks = λ k c. onto_nothing (walk asked c s (rows_tree (map read items))); onward = λ k m v. v }

  -- The item at the place was accepted. The loop goes over a slice of the items.
  pub items_more : {s0 s m : S} {items slice : List A} {i : ℕ} {made more : List B} (d : A) {b : B} →
      ItemsDone asked keeps read write s0 items i s made → slice ≡ items → i < length slice →
      (IsTrue keeps → (c : ℕ) → walk asked c s (read (get_or slice i d)) ≡ accepted (write b) m) → more ≡ made ++ b ∷ [] →
      ItemsDone asked keeps read write s0 items (i + 1) m more
  items_more {s = s} {m = m} {items = items} {slice = slice} {i = i} {made = made} d {b = b} done e h step pushed =
      let x : A = get_or slice i d in
      let rest : Tree = rows_tree (map read (drop (i + 1) items)) in
      let here : drop i items ≡ x ∷ drop (i + 1) items = drop_at items slice i d e h in
      record {
        counted = rw pushed (let so_far = done.counted in grind (arith, common_steps));
        walks = λ k c. rw pushed (
            let first : walk asked c s (Tree.cons (read x) rest) ≡ and_then (walk asked c m rest) (λ u n. accepted (Tree.cons (write b) u) n) = rw (step k c) refl in
            done.walks k c ∙ rw here (ap (λ (r : Step S (Error E) Tree). onto_rows (map write made) r) first ∙ made_onto write made b (walk asked c m rest)));
        onward = λ k n v.
            let P : List A → Type 0 = λ z. Visited asked s (visits (rows_tree (map read z))) n in
            done.onward k n (subst P (sym here) (second_visited 0 (read x) (step k 0) v));
      }

  -- The item at the place was refused, and with it the items, and the items behind their number.
  pub rows_refuse : {s0 s m : S} {items slice : List A} {i : ℕ} {made : List B} {e : Error E} (d : A) (c : ℕ) →
      ItemsDone asked keeps read write s0 items i s made → slice ≡ items → i < length slice → IsTrue keeps →
      walk asked c s (read (get_or slice i d)) ≡ refused e m → walk asked c s0 (rows_tree (map read items)) ≡ refused e m
  rows_refuse {s = s} {m = m} {items = items} {slice = slice} {i = i} {made = made} {e = err} d c done e h k step =
      let first : walk asked c s (Tree.cons (read (get_or slice i d)) (rows_tree (map read (drop (i + 1) items)))) ≡ refused err m = rw step refl in
      done.walks k c ∙ rw (drop_at items slice i d e h) (ap (λ (r : Step S (Error E) Tree). onto_rows (map write made) r) first)

  pub items_refuse : {s0 s m : S} {items slice : List A} {i : ℕ} {made : List B} {e : Error E} (d : A) (c : ℕ) →
      ItemsDone asked keeps read write s0 items i s made → slice ≡ items → i < length slice → IsTrue keeps →
      walk asked c s (read (get_or slice i d)) ≡ refused e m → walk asked c s0 (vector_tree (map read items)) ≡ refused e m
  items_refuse d c done e h k step = rw (rows_refuse d c done e h k step) refl

  -- All were accepted.
  pub rows_accept : {s0 s : S} {items slice : List A} {i : ℕ} {made : List B} (c : ℕ) →
      ItemsDone asked keeps read write s0 items i s made → slice ≡ items → length slice ≤ i → IsTrue keeps →
      walk asked c s0 (rows_tree (map read items)) ≡ accepted (rows_tree (map write made)) s
  rows_accept {items = items} {i = i} c done e all k = let none : drop i items ≡ [] = rw (← e) (drop_all i _ all) in done.walks k c ∙ rw none refl

  pub items_accept : {s0 s : S} {items slice : List A} {i : ℕ} {made : List B} (c : ℕ) →
      ItemsDone asked keeps read write s0 items i s made → slice ≡ items → length slice ≤ i → IsTrue keeps →
      walk asked c s0 (vector_tree (map read items)) ≡ accepted (vector_tree (map write made)) s
  items_accept c done e all k = rw (rows_accept c done e all k) refl

  -- as many were made
  pub items_counted : {s0 s : S} {items slice : List A} {i : ℕ} {made : List B} →
      ItemsDone asked keeps read write s0 items i s made → slice ≡ items → length slice ≤ i → i ≤ length slice → length made ≡ length items
  items_counted done e all some = rw (← e) (let so_far = done.counted in omega (arith, so_far, all, some))

  -- The item at the place was asked in part: it was refused, or it was accepted.
  pub items_leave : {s0 s m : S} {items slice : List A} {i : ℕ} {made : List B} (d : A) →
      ItemsDone asked keeps read write s0 items i s made → slice ≡ items → i < length slice → IsTrue keeps →
      Visited asked s (visits (read (get_or slice i d))) m → Visited asked s0 (visits (rows_tree (map read items))) m
  items_leave {s = s} {m = m} {items = items} {slice = slice} {i = i} d done e h k v =
      let P : List A → Type 0 = λ z. Visited asked s (visits (rows_tree (map read z))) m in
      done.onward k m (subst P (sym (drop_at items slice i d e h)) (first_visited (visits (rows_tree (map read (drop (i + 1) items)))) v))

  pub items_refused : {s0 s m : S} {items slice : List A} {i : ℕ} {made : List B} {e : Error E} {sure : Bool} (d : A) →
      ItemsDone asked keeps read write s0 items i s made → slice ≡ items → i < length slice → IsTrue keeps → IsTrue sure →
      (e ≢ NoMemory → walk asked 0 s (read (get_or slice i d)) ≡ refused e m) → NeverWants {A = B} sure (Err e) →
      Visited asked s0 (visits (rows_tree (map read items))) m
  items_refused {slice = slice} {i = i} d done e h k sure step never =
      items_leave d done e h k (refused_visited 0 (read (get_or slice i d)) (step (never_wants _ never sure)))

  pub items_accepted : {s0 s m : S} {items slice : List A} {i : ℕ} {made : List B} {u : Tree} (d : A) →
      ItemsDone asked keeps read write s0 items i s made → slice ≡ items → i < length slice → IsTrue keeps →
      walk asked 0 s (read (get_or slice i d)) ≡ accepted u m → Visited asked s0 (visits (rows_tree (map read items))) m
  items_accepted {slice = slice} {i = i} d done e h k step = items_leave d done e h k (accepted_visited 0 (read (get_or slice i d)) step)
