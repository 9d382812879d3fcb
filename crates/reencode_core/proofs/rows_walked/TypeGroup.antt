-- The types of a group as they are mapped.
use Rattle.std.proofs.Common.{◌≡◌, ℕ, suc, List, [], ◌∷◌, ◌++◌, length, map, Bool, true, false, refl, sym, ap, ◌∙◌, subst, append-nil, arith}
use Rattle.std.proofs.lemmas.List.{map-append}
use Rattle.wasm_shapes.specs.Types.{group_of}
use Rattle.wasm_shapes.specs.Tree.{Tree}
use Rattle.wasm_shapes.specs.Rows.{rows_then}
use Rattle.wasm_shapes.proofs.Rows.{rows_then-append}
use Rattle.wasm_read.specs.declared.types.SubType as r
use Rattle.wasm_write.specs.declared.types.SubType as w
use Rattle.wasm_read.specs.Types as read
use Rattle.wasm_write.specs.Types as write
use Rattle.reencode_hooks.proofs.Agrees.{given}
use Rattle.reencode_hooks.specs.declared.error.Error.{Error}
use Rattle.reencode_hooks.specs.Run.{Step, accepted, refused, and_then}
use Rattle.reencode_hooks.specs.Walk.{walk}
pub use Rattle.reencode_items.proofs.Rows.{rows_then-both}
use Rattle.reencode_core.specs.Rows.{Asks, onto_rows}

-- These items were walked, to what is made so far and this state, and what stands behind them is walked from here.
pub record ItemsDone {S E A B : Type 0} (asked : Asks S E) (read : A → Tree) (write : B → Tree) (s0 : S) (items : List A) (s : S) (made : List B) : Type 0 where
  pub walks : (c : ℕ) (others : Tree) → walk asked c s0 (rows_then (map read items) others) ≡ onto_rows (map write made) (walk asked c s others)

module _ {S E A B : Type 0} (asked : Asks S E) (read : A → Tree) (write : B → Tree) where
  onto_nothing : (step : Step S (Error E) Tree) → step ≡ onto_rows [] step
  onto_nothing (accepted u m) = refl
  onto_nothing (refused e m) = refl

  pub items_begin : (s : S) → ItemsDone asked read write s [] s []
  items_begin s = record { walks = λ c others. onto_nothing (walk asked c s others) }

  one_onto : (made : List B) (b : B) (step : Step S (Error E) Tree) →
      onto_rows (map write made) (and_then step (λ u m. accepted (Tree.cons (write b) u) m)) ≡ onto_rows (map write (made ++ b ∷ [])) step
  one_onto made b (accepted u m) =
      ap (λ (t : Tree). accepted t m) (sym (rows_then-append (map write made) (write b) u) ∙ ap (λ (ts : List Tree). rows_then ts u) (sym (map-append write made (b ∷ []))))
  one_onto made b (refused e m) = refl

  pub items_more : {s0 s m : S} {items : List A} {made more : List B} (x : A) (b : B) → ItemsDone asked read write s0 items s made →
      ((c : ℕ) → walk asked c s (read x) ≡ accepted (write b) m) → more ≡ made ++ b ∷ [] → ItemsDone asked read write s0 (items ++ x ∷ []) m more
  items_more {s = s} {m = m} {items = items} {made = made} x b done step pushed = record {
    walks = λ c others.
        let first : walk asked c s (Tree.cons (read x) others) ≡ and_then (walk asked c m others) (λ u n. accepted (Tree.cons (write b) u) n) = rw (step c) refl in
        let here : rows_then (map read (items ++ x ∷ [])) others ≡ rows_then (map read items) (Tree.cons (read x) others) =
        ap (λ (ts : List Tree). rows_then ts others) (map-append read items (x ∷ [])) ∙ rows_then-append (map read items) (read x) others in
        rw (here, pushed) (done.walks c (Tree.cons (read x) others) ∙ ap (λ (r : Step S (Error E) Tree). onto_rows (map write made) r) first ∙ one_onto made b (walk asked c m others));
  }

-- ---- the whole group

none_counted : {A : Type 0} (xs : List A) (n : ℕ) → n ≡ length xs → n ≡ 0 → xs ≡ []
none_counted [] n e z = refl
none_counted (x ∷ xs) n e z = absurd (omega arith)

-- all items were walked, where none is left
pub all_yielded : {A : Type 0} (yielded left items : List A) (n : ℕ) → yielded ++ left ≡ items → n ≡ length left → n ≡ 0 → yielded ≡ items
all_yielded yielded left items n e k z = sym (append-nil yielded) ∙ ap (λ (w : List _). yielded ++ w) (sym (none_counted left n k z)) ∙ e

module _ {S E : Type 0} (asked : Asks S E) (c : ℕ) where
  one_accepted : (step : Step S (Error E) Tree) (v : Tree) (m : S) → and_then step (λ t' n. accepted (Tree.cons t' Tree.nil) n) ≡ accepted (Tree.cons v Tree.nil) m → step ≡ accepted v m
  one_accepted (accepted u n) v m h = let g = given h in let both : Tree.cons u Tree.nil ≡ Tree.cons v Tree.nil = g.0 in let same : u ≡ v = cc in rw (same, g.1) refl
  one_accepted (refused e n) v m h = absurd cc

  one_refused : (step : Step S (Error E) Tree) (e : Error E) (m : S) → and_then step (λ t' n. accepted (Tree.cons t' Tree.nil) n) ≡ refused e m → step ≡ refused e m
  one_refused (accepted u n) e m h = absurd cc
  one_refused (refused d n) e m h = h

  pub group_accepted : (s0 s : S) (explicit : Bool) (types : List r.SubType) (made : List w.SubType) (done : List r.SubType) →
      ItemsDone asked read.sub_type_tree write.sub_type_tree s0 done s made → done ≡ types → length made ≡ length done → (explicit ≡ false → length types ≡ 1) →
      walk asked c s0 (read.group_parts explicit types) ≡ accepted (group_of explicit (map write.sub_type_tree made)) s
  group_accepted s0 s explicit types made done d same counted bare = go explicit types made whole bare (counted ∙ ap length same)
    where
      whole : walk asked c s0 (rows_then (map read.sub_type_tree types) Tree.nil) ≡ accepted (rows_then (map write.sub_type_tree made) Tree.nil) s
      whole =
          let P : List r.SubType → Type 0 = λ z. walk asked c s0 (rows_then (map read.sub_type_tree z) Tree.nil) ≡ accepted (rows_then (map write.sub_type_tree made) Tree.nil) s in
          subst P same (d.walks c Tree.nil)

      go : (explicit : Bool) (types : List r.SubType) (made : List w.SubType) → walk asked c s0 (rows_then (map read.sub_type_tree types) Tree.nil) ≡ accepted (rows_then (map write.sub_type_tree made) Tree.nil) s →
          (explicit ≡ false → length types ≡ 1) → length made ≡ length types → walk asked c s0 (read.group_parts explicit types) ≡ accepted (group_of explicit (map write.sub_type_tree made)) s
      go true types made h bare k = rw h refl
      go false [] made h bare k = absurd (let one : 0 ≡ 1 = bare refl in omega arith)
      go false (x ∷ y ∷ types) made h bare k = absurd (let one : suc (suc (length types)) ≡ 1 = bare refl in omega arith)
      go false (x ∷ []) [] h bare k = absurd (let none : 0 ≡ 1 = k in omega arith)
      go false (x ∷ []) (b ∷ y ∷ made) h bare k = absurd (let more : suc (suc (length made)) ≡ 1 = k in omega arith)
      go false (x ∷ []) (b ∷ []) h bare k = one_accepted (walk asked c s0 (read.sub_type_tree x)) (write.sub_type_tree b) s h

  pub group_refused : (s0 s m : S) (explicit : Bool) (types : List r.SubType) (made : List w.SubType) (done rest : List r.SubType) (x : r.SubType) (e : Error E) →
      ItemsDone asked read.sub_type_tree write.sub_type_tree s0 done s made → done ++ x ∷ rest ≡ types → (explicit ≡ false → length types ≡ 1) →
      walk asked c s (read.sub_type_tree x) ≡ refused e m → walk asked c s0 (read.group_parts explicit types) ≡ refused e m
  group_refused s0 s m explicit types made done rest x e d parts bare stops = go explicit types whole bare
    where
      behind : Tree
      behind = rows_then (map read.sub_type_tree rest) Tree.nil

      here : rows_then (map read.sub_type_tree (done ++ x ∷ rest)) Tree.nil ≡ rows_then (map read.sub_type_tree done) (Tree.cons (read.sub_type_tree x) behind)
      here = ap (λ (ts : List Tree). rows_then ts Tree.nil) (map-append read.sub_type_tree done (x ∷ rest)) ∙ rows_then-both (map read.sub_type_tree done) (map read.sub_type_tree (x ∷ rest)) Tree.nil

      first : walk asked c s (Tree.cons (read.sub_type_tree x) behind) ≡ refused e m
      first = rw stops refl

      whole : walk asked c s0 (rows_then (map read.sub_type_tree types) Tree.nil) ≡ refused e m
      whole =
          let P : List r.SubType → Type 0 = λ z. walk asked c s0 (rows_then (map read.sub_type_tree z) Tree.nil) ≡ refused e m in
          subst P parts (rw here (d.walks c (Tree.cons (read.sub_type_tree x) behind) ∙ ap (λ (q : Step S (Error E) Tree). onto_rows (map write.sub_type_tree made) q) first))

      go : (explicit : Bool) (types : List r.SubType) → walk asked c s0 (rows_then (map read.sub_type_tree types) Tree.nil) ≡ refused e m → (explicit ≡ false → length types ≡ 1) →
          walk asked c s0 (read.group_parts explicit types) ≡ refused e m
      go true types h bare = rw h refl
      go false [] h bare = absurd (let one : 0 ≡ 1 = bare refl in omega arith)
      go false (x ∷ y ∷ types) h bare = absurd (let one : suc (suc (length types)) ≡ 1 = bare refl in omega arith)
      go false (x ∷ []) h bare = one_refused (walk asked c s0 (read.sub_type_tree x)) e m h
