-- Vectors at the front of some bytes, item by item.
use Rattle.std.proofs.Common.{◌≡◌, ℕ, suc, List, [], ◌∷◌, ◌++◌, true, refl, sym, ap, ◌∙◌, append_assoc, arith, inl}
use Rattle.std.proofs.lemmas.List.{append_cancel_left}
use Rattle.wasm_leb.specs.Place.{BeginsNumber, BeginsNoNumber}
use Rattle.wasm_leb.proofs.Unique.{unsigned_unique}
use Rattle.wasm_shapes.specs.Tree.{Tree, count}
use Rattle.wasm_shapes.specs.Shape.{Shape, closed}
use Rattle.wasm_shapes.specs.Sound.{sound}
use Rattle.wasm_shapes.specs.Spells.{Is, Spelled}
use Rattle.wasm_shapes.specs.Place.{Begins, BeginsNone}
use Rattle.wasm_shapes.specs.Rows.{RowsLeft, rows_then}
use Rattle.wasm_shapes.proofs.Rows.{rows_end, rows_cons, rows_then-append}
use Rattle.wasm_shapes.proofs.Unique.{unique}

-- the bytes begin with so many items, and these are left behind them
pub record BeginsItems (shape : Shape) (n : ℕ) (bytes : List ℕ) (items : Tree) (left : List ℕ) : Type 0 where
  pub text : List ℕ
  pub spells : RowsLeft shape n text items
  pub reads : bytes ≡ text ++ left

-- they begin with no such items
pub record BeginsNoItems (shape : Shape) (n : ℕ) (bytes : List ℕ) : Type 0 where
  pub none : (items : Tree) (left : List ℕ) → BeginsItems shape n bytes items left → ⊥

pub items_end : {s : Shape} {n : ℕ} {bytes : List ℕ} → n ≡ 0 → BeginsItems s n bytes Tree.nil bytes
items_end k = record { text = []; spells = rows_end k refl; reads = refl }

-- one item more in front
pub items_cons : {s : Shape} {n m : ℕ} {bytes middle left : List ℕ} {t items : Tree} → m ≡ suc n → Begins s bytes t middle → BeginsItems s n middle items left →
    BeginsItems s m bytes (Tree.cons t items) left
items_cons {s = s} {left = left} {t = t} k p r =
    let whole : Begins s (p.text ++ r.text) t r.text = record { text = p.text; spells = p.spells; reads = refl } in record {
      text = p.text ++ r.text;
      spells = rows_cons k whole r.spells;
      reads = p.reads ∙ ap (λ (z : List ℕ). p.text ++ z) r.reads ∙ sym (append_assoc p.text r.text left);
    }

-- no items where none begins
pub no_item : {s : Shape} {n m : ℕ} {bytes : List ℕ} → m ≡ suc n → BeginsNone s bytes → BeginsNoItems s m bytes
no_item {s = s} {n = n} {m = m} {bytes = bytes} k none = record { none = λ items left r. go items left r.text r.spells.shaped r.spells.counted r.spells.spelled r.reads }
  where
    go : (items : Tree) (left text : List ℕ) → Is (Shape.many s) items → count items ≡ m → Spelled items text → bytes ≡ text ++ left → ⊥
    go items left text Is.nil counted p e = omega arith
    go items left text (Is.cons {t = t} d d') counted p e =
        none.none p.0 (p.1 ++ left) t (record { shaped = d; spelled = p.3 })
        (e ∙ ap (λ (z : List ℕ). z ++ left) p.2 ∙ append_assoc p.0 p.1 left)

-- the first of the items is the one that the bytes begin with
pub items_first : {s : Shape} {n m : ℕ} {bytes middle : List ℕ} {t : Tree} → sound s ≡ true → closed s ≡ true → m ≡ suc n → Begins s bytes t middle →
    (items : Tree) (left : List ℕ) → BeginsItems s m bytes items left → (others : Tree) × BeginsItems s n middle others left
items_first {s = s} {n = n} {m = m} {bytes = bytes} {middle = middle} {t = t} k h c there items left r =
    go items r.text r.spells.shaped r.spells.counted r.spells.spelled r.reads
  where
    go : (items : Tree) (text : List ℕ) → Is (Shape.many s) items → count items ≡ m → Spelled items text → bytes ≡ text ++ left →
        (others : Tree) × BeginsItems s n middle others left
    go items text Is.nil counted p e = absurd (omega arith)
    go items text (Is.cons {t = v} {u = u} d d') counted p e =
        let parts : bytes ≡ p.0 ++ (p.1 ++ left) = e ∙ ap (λ (z : List ℕ). z ++ left) p.2 ∙ append_assoc p.0 p.1 left in
        let both_ways : there.text ++ middle ≡ p.0 ++ (p.1 ++ left) = sym there.reads ∙ parts in
        let same : (there.text ≡ p.0) × (t ≡ v) = unique there.spells.shaped d there.text p.0 middle (p.1 ++ left) k (inl h) there.spells.spelled p.3 both_ways in
        let shifted : p.0 ++ middle ≡ p.0 ++ (p.1 ++ left) = ap (λ (z : List ℕ). z ++ middle) (sym same.0) ∙ both_ways in
        let some : suc (count u) ≡ m = counted in (
          u,
          record {
            text = p.1;
            spells = record { shaped = d'; counted = omega arith; spelled = p.4 };
            reads = append_cancel_left p.0 middle (p.1 ++ left) shifted;
          },
        )

-- ---- a vector

pub begins_vec : {s : Shape} {n : ℕ} {bytes middle left : List ℕ} {items : Tree} → BeginsNumber 128 32 32 bytes n middle → BeginsItems s n middle items left →
    Begins (Shape.vec s) bytes (Tree.vec items) left
begins_vec {left = left} p r = record {
  text = p.0 ++ r.text;
  spells = record { shaped = Is.vec r.spells.shaped; spelled = (p.0, r.text, refl, rw r.spells.counted p.1, r.spells.spelled) };
  reads = p.2 ∙ ap (λ (z : List ℕ). p.0 ++ z) r.reads ∙ sym (append_assoc p.0 r.text left);
}

pub none_vec_count : {s : Shape} {bytes : List ℕ} → BeginsNoNumber 128 32 32 bytes → BeginsNone (Shape.vec s) bytes
none_vec_count {s = s} {bytes = bytes} none = record { none = λ text left tree p e. go text left tree p.shaped p.spelled e }
  where
    go : (text left : List ℕ) (tree : Tree) → Is (Shape.vec s) tree → Spelled tree text → bytes ≡ text ++ left → ⊥
    go text left tree (Is.vec {t = t} d) p e = none p.0 (p.1 ++ left) (count t) p.3 (e ∙ ap (λ (z : List ℕ). z ++ left) p.2 ∙ append_assoc p.0 p.1 left)

pub none_vec : {s : Shape} {n : ℕ} {bytes middle : List ℕ} → BeginsNumber 128 32 32 bytes n middle → BeginsNoItems s n middle → BeginsNone (Shape.vec s) bytes
none_vec {s = s} {n = n} {bytes = bytes} {middle = middle} there none = record { none = λ text left tree p e. go text left tree p.shaped p.spelled e }
  where
    go : (text left : List ℕ) (tree : Tree) → Is (Shape.vec s) tree → Spelled tree text → bytes ≡ text ++ left → ⊥
    go text left tree (Is.vec {t = t} d) p e =
        let parts : bytes ≡ p.0 ++ (p.1 ++ left) = e ∙ ap (λ (z : List ℕ). z ++ left) p.2 ∙ append_assoc p.0 p.1 left in
        let both_ways : there.0 ++ middle ≡ p.0 ++ (p.1 ++ left) = sym there.2 ∙ parts in
        let same : (there.0 ≡ p.0) × (n ≡ count t) = unsigned_unique middle (p.1 ++ left) there.1 p.3 both_ways in
        let shifted : p.0 ++ middle ≡ p.0 ++ (p.1 ++ left) = ap (λ (z : List ℕ). z ++ middle) (sym same.0) ∙ both_ways in
        none.none t left (record {
          text = p.1;
          spells = record { shaped = d; counted = sym same.1; spelled = p.4 };
          reads = append_cancel_left p.0 middle (p.1 ++ left) shifted;
        })

-- ---- a loop over items

-- The items so far, and any that begin behind them, are all the items; and where all are there, some begin behind these.
pub record ItemsSoFar (shape : Shape) (total : ℕ) (start : List ℕ) (items : List Tree) (n : ℕ) (rest : List ℕ) : Type 0 where
  pub forth : (others : Tree) (left : List ℕ) → BeginsItems shape n rest others left → BeginsItems shape total start (rows_then items others) left
  pub back : (all : Tree) (left : List ℕ) → BeginsItems shape total start all left → (others : Tree) × BeginsItems shape n rest others left

pub items_none : (s : Shape) (n : ℕ) (bytes : List ℕ) → ItemsSoFar s n bytes [] n bytes
items_none s n bytes = record { forth = λ others left r. r; back = λ all left r. (all, r) }

pub items_more : {s : Shape} {total n m : ℕ} {start bytes middle : List ℕ} {t : Tree} (items : List Tree) → sound s ≡ true → closed s ≡ true → m ≡ suc n → Begins s bytes t middle →
    ItemsSoFar s total start items m bytes → ItemsSoFar s total start (items ++ t ∷ []) n middle
items_more {s = s} {total = total} {n = n} {m = m} {start = start} {bytes = bytes} {middle = middle} {t = t} items k h c there so_far = record {
  forth = λ others left r. rw (rows_then-append items t others) (so_far.forth (Tree.cons t others) left (items_cons c there r));
  back = λ all left r. step all left (so_far.back all left r);
}
  where
    step : (all : Tree) (left : List ℕ) → (others : Tree) × BeginsItems s m bytes others left → (others : Tree) × BeginsItems s n middle others left
    step all left p = items_first k h c there p.0 left p.1

pub items_stuck : {s : Shape} {total n m : ℕ} {start rest : List ℕ} {items : List Tree} → n ≡ suc m → BeginsNone s rest → ItemsSoFar s total start items n rest →
    BeginsNoItems s total start
items_stuck k none so_far = record { none = λ all left r. (no_item k none).none (so_far.back all left r).0 left (so_far.back all left r).1 }

-- all items were read
pub vec_read : {s : Shape} {total n : ℕ} {bytes start rest : List ℕ} {items : List Tree} → BeginsNumber 128 32 32 bytes total start → n ≡ 0 →
    ItemsSoFar s total start items n rest → Begins (Shape.vec s) bytes (Tree.vec (rows_then items Tree.nil)) rest
vec_read {rest = rest} p k so_far = begins_vec p (so_far.forth Tree.nil rest (items_end k))
