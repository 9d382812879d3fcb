-- Vectors that are passed by, and held as the bytes that spell them.
use Rattle.std.proofs.Common.{◌≡◌, ℕ, zero, suc, ◌+◌, ◌-◌, ◌<◌, ◌≤◌, List, [], ◌∷◌, ◌++◌, length, length-append, take, drop, true, refl, sym, ap, ap₂, ◌∙◌, append-nil, append_assoc, subst, arith, inl, inr, ◌⊎◌}
use Rattle.std.proofs.Math.Seq.{take-append_seam}
use Rattle.std.proofs.lemmas.List.{append_cancel_left}
use Rattle.std.specs.Coded.{Coded-set}
use mathlib.Core.Logic.{∥∥₁_elim, ∥∥₁_map, ∥∥₁_prop}
use Rattle.wasm_leb.specs.Place.{BeginsNumber, BeginsNoNumber}
use Rattle.wasm_shapes.specs.Tree.{Tree, count}
use Rattle.wasm_shapes.specs.TreeCode.{trees_code}
use Rattle.wasm_shapes.specs.Shape.{Shape, closed}
use Rattle.wasm_shapes.specs.Sound.{sound}
use Rattle.wasm_shapes.specs.Spells.{Is, Spelled, Spells}
use Rattle.wasm_shapes.specs.Place.{Begins, BeginsNone}
use Rattle.wasm_shapes.specs.Rows.{RowsLeft}
use Rattle.wasm_shapes.specs.Types.{rows_tree, vector_tree}
use Rattle.wasm_shapes.proofs.Rows.{rows_end, rows_first, rows_snoc, no_row, vec_spelled}
use Rattle.wasm_shapes.proofs.Unique.{unique}
use Rattle.wasm_read.specs.VectorRows.{items_closed, items_sound}
use Rattle.wasm_read.specs.VectorItems.{Items, Passed, PassedSome, Stuck, NoVector, HeldItems, HeldItems-one, held_items}
use Rattle.wasm_read.proofs.Vectors.{BeginsItems, ItemsSoFar, items_stuck, begins_vec, none_vec, none_vec_count}

-- ---- items that were passed by

-- some items of so many stand at the front, and so many are due behind them
pub record ItemsBefore (row : Shape) (total : ℕ) (start : List ℕ) (due : ℕ) (left : List ℕ) : Type 0 where
  pub before : ℕ
  pub sum : before + due ≡ total
  pub begins : Items row start before left

pub before_none : (row : Shape) (n : ℕ) (start : List ℕ) → ItemsBefore row n start n start
before_none row n start = record { before = 0; sum = omega arith; begins = record { items = []; text = []; spells = rows_end refl refl; reads = refl } }

pub before_more : {row : Shape} {total n m : ℕ} {start bytes left : List ℕ} {t : Tree} → m ≡ suc n → Begins row bytes t left → ItemsBefore row total start m bytes →
    ItemsBefore row total start n left
before_more {left = left} {t = t} k p b =
    let r = b.begins in
    let sum = b.sum in record {
      before = suc b.before;
      sum = omega arith;
      begins = record {
        items = r.items ++ t ∷ [];
        text = r.text ++ p.text;
        spells = rows_snoc r.items r.spells p.spells;
        reads = r.reads ∙ ap (λ (z : List ℕ). r.text ++ z) p.reads ∙ sym (append_assoc r.text p.text left);
      };
    }

pub passed_all : {row : Shape} {n due : ℕ} {bytes start left : List ℕ} → BeginsNumber 128 32 32 bytes n start → due ≡ 0 → ItemsBefore row n start due left →
    Passed row bytes n start left
passed_all {row = row} {start = start} {left = left} p none b =
    let sum = b.sum in
    let I : ℕ → Type 0 = λ k. Items row start k left in
    record { counted = p; begins = subst I (omega arith) b.begins }

pub stuck_count : {row : Shape} {bytes : List ℕ} → BeginsNoNumber 128 32 32 bytes → Stuck row bytes bytes
stuck_count none = record { here = inl (refl, none); none = none_vec_count none }

pub stuck_item : {row : Shape} {n due : ℕ} {bytes start left : List ℕ} (items : List Tree) → BeginsNumber 128 32 32 bytes n start → 0 < due → BeginsNone row left →
    ItemsSoFar row n start items due left → ItemsBefore row n start due left → Stuck row bytes left
stuck_item {row = row} {n = n} {due = due} {bytes = bytes} {start = start} items p some none so_far b =
    let more : due ≡ suc (due - 1) = omega arith in
    let N : ℕ → Type 0 = λ k. BeginsNumber 128 32 32 bytes k start in record {
      here = inr (due, record { before = b.before; start = start; counted = subst N (sym b.sum) p; begins = b.begins }, some, none);
      none = none_vec p (items_stuck more none so_far);
    }

-- ---- whole vectors

pub passed_begins : {row : Shape} {n : ℕ} {bytes start left : List ℕ} → (p : Passed row bytes n start left) → Begins (Shape.vec row) bytes (vector_tree p.begins.items) left
passed_begins p = begins_vec p.counted (record { text = p.begins.text; spells = p.begins.spells; reads = p.begins.reads })

pub passed_some : {row : Shape} {n : ℕ} {bytes start left : List ℕ} → Passed row bytes n start left → (t : Tree) × Begins (Shape.vec row) bytes t left
passed_some p = (vector_tree p.begins.items, passed_begins p)

-- what is left of the bytes, as its place
pub no_vector_stuck : {row : Shape} {bytes stuck : List ℕ} → Stuck row bytes stuck → NoVector row bytes (length bytes - length stuck)
no_vector_stuck {bytes = bytes} {stuck = stuck} s = record {
  rest = stuck;
  place = refl;
  here = inl s;
  none = λ t p. s.none.none bytes [] t p (sym (append-nil bytes));
}

pub no_vector_behind : {row : Shape} {n : ℕ} {bytes start left : List ℕ} → sound (Shape.many row) ≡ true → Passed row bytes n start left → (left ≡ [] → ⊥) →
    NoVector row bytes (length bytes - length left)
no_vector_behind {row = row} {n = n} {bytes = bytes} {start = start} {left = left} passed p more = record {
  rest = left;
  place = refl;
  here = inr (record { before = n; start = start; counted = subst N (omega arith) p.counted; begins = p.begins }, more);
  none = λ t q. go t q;
}
  where
    N : ℕ → Type 0
    N i = BeginsNumber 128 32 32 bytes i start

    passes : sound (Shape.vec row) ≡ true
    passes = rw (items_closed row passed, items_sound row passed) refl

    go : (t : Tree) → Spells (Shape.vec row) bytes t → ⊥
    go t q =
        let there = passed_begins p in
        let both_ways : there.text ++ left ≡ bytes ++ [] = sym there.reads ∙ sym (append-nil bytes) in
        let same : (there.text ≡ bytes) × (vector_tree p.begins.items ≡ t) = unique there.spells.shaped q.shaped there.text bytes left [] passes (inl refl) there.spells.spelled q.spelled both_ways in
        let shifted : bytes ++ left ≡ bytes ++ [] = ap (λ (z : List ℕ). z ++ left) (sym same.0) ∙ both_ways in
        more (append_cancel_left bytes left [] shifted)

pub none_of : (xs : List ℕ) → length xs < 1 → xs ≡ []
none_of [] l = refl
none_of (x ∷ xs) l = absurd (omega arith)

-- ---- held items

module _ {row : Shape} {n : ℕ} {bytes start left : List ℕ} (p : Passed row bytes n start left) where
  text_taken : take (length start - length left) start ≡ p.begins.text
  text_taken =
      let long : length start ≡ length p.begins.text + length left = ap length p.begins.reads ∙ length-append p.begins.text left in
      let same : length start - length left ≡ length p.begins.text = omega arith in
      ap (λ (k : ℕ). take k start) same ∙ ap (take (length p.begins.text)) p.begins.reads ∙ take-append_seam p.begins.text left

  pub held_front : HeldItems row n (take (length start - length left) start)
  held_front =
      let R : List ℕ → Type 0 = λ z. RowsLeft row n z (rows_tree p.begins.items) in
      (p.begins.items, ∣ subst R (sym text_taken) p.begins.spells ∣₁)

  pub front_begins : sound (Shape.many row) ≡ true → (h : HeldItems row n (take (length start - length left) start)) →
      Begins (Shape.vec row) bytes (vector_tree (held_items row n (take (length start - length left) start) h)) left
  unfolding held_items held_front
  front_begins passes h =
      let same : p.begins.items ≡ h.0 = HeldItems-one row passes n (take (length start - length left) start) held_front h in
      let B : List Tree → Type 0 = λ z. Begins (Shape.vec row) bytes (vector_tree z) left in
      subst B same (passed_begins p)

module _ {row : Shape} {n : ℕ} {bytes start left : List ℕ} (p : Passed row bytes n start left) (e : left ≡ []) where
  all_text : start ≡ p.begins.text
  all_text = p.begins.reads ∙ ap (λ (z : List ℕ). p.begins.text ++ z) e ∙ append-nil p.begins.text

  pub held_whole : HeldItems row n start
  held_whole =
      let R : List ℕ → Type 0 = λ z. RowsLeft row n z (rows_tree p.begins.items) in
      (p.begins.items, ∣ subst R (sym all_text) p.begins.spells ∣₁)

  pub whole_spells : sound (Shape.many row) ≡ true → (h : HeldItems row n start) → Spells (Shape.vec row) bytes (vector_tree (held_items row n start h))
  unfolding held_items held_whole
  whole_spells passes h =
      let same : p.begins.items ≡ h.0 = HeldItems-one row passes n start held_whole h in
      let R : List ℕ → Type 0 = λ z. RowsLeft row n z (rows_tree p.begins.items) in
      let S : List Tree → Type 0 = λ z. Spells (Shape.vec row) bytes (vector_tree z) in
      subst S same (vec_spelled p.counted (subst R (sym all_text) p.begins.spells))

-- the items behind the first
behind_first : {row : Shape} {n m : ℕ} {bytes left : List ℕ} {t : Tree} → sound row ≡ true → closed row ≡ true → n ≡ suc m → Begins row bytes t left →
    (items : List Tree) → RowsLeft row n bytes (rows_tree items) → (items ≡ t ∷ drop 1 items) × RowsLeft row m left (rows_tree (drop 1 items))
behind_first {row = row} {m = m} {left = left} {t = t} k h c there items r = go items (rows_first k h c there (rows_tree items) r)
  where
    go : (items : List Tree) → (others : Tree) × (rows_tree items ≡ Tree.cons t others) × RowsLeft row m left others →
        (items ≡ t ∷ drop 1 items) × RowsLeft row m left (rows_tree (drop 1 items))
    go [] p = absurd cc
    go (x ∷ xs) p =
        let whole : Tree.cons x (rows_tree xs) ≡ Tree.cons t p.0 = p.1 in
        let first : x ≡ t = cc in
        let others : p.0 ≡ rows_tree xs = cc in
        let R : Tree → Type 0 = λ z. RowsLeft row m left z in
        (ap (λ (z : Tree). z ∷ xs) first, subst R others p.2)

module _ {row : Shape} {n : ℕ} {bytes : List ℕ} (h : HeldItems row n bytes) where
  -- none is left
  pub held_ended : n ≡ 0 → held_items row n bytes h ≡ []
  unfolding held_items
  held_ended e = ∥∥₁_elim h.1 (Coded-set trees_code h.0 []) (λ r. go h.0 r.counted)
    where
      go : (items : List Tree) → count (rows_tree items) ≡ n → items ≡ []
      go [] c = refl
      go (x ∷ xs) c = absurd (omega arith)

  -- one is left where none begins
  pub held_some : 0 < n → BeginsNone row bytes → ⊥
  held_some some none =
      let more : n ≡ suc (n - 1) = omega arith in
      ∥∥₁_elim h.1 (λ r s. absurd r) (λ r. (no_row more none).none (rows_tree h.0) r)

  module _ {m : ℕ} {left : List ℕ} {t : Tree} (passes : sound (Shape.many row) ≡ true) (c : n ≡ suc m) (there : Begins row bytes t left) where
    pub held_next : HeldItems row m left
    held_next = (drop 1 h.0, ∥∥₁_map h.1 (λ r. (behind_first (items_sound row passes) (items_closed row passes) c there h.0 r).1))

    pub held_next_is : (k : HeldItems row m left) → held_items row n bytes h ≡ t ∷ held_items row m left k
    unfolding held_items held_next
    held_next_is k =
        let first : h.0 ≡ t ∷ drop 1 h.0 = ∥∥₁_elim h.1 (Coded-set trees_code h.0 (t ∷ drop 1 h.0)) (λ r. (behind_first (items_sound row passes) (items_closed row passes) c there h.0 r).0) in
        let others : drop 1 h.0 ≡ k.0 = HeldItems-one row passes m left held_next k in
        first ∙ ap (λ (z : List Tree). t ∷ z) others
