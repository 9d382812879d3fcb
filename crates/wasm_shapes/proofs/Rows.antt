-- Reading rows one by one.
use Rattle.std.proofs.Common.{◌≡◌, ℕ, suc, List, [], ◌∷◌, ◌++◌, true, refl, sym, ap, ap₂, ◌∙◌, append-nil, append_assoc, arith, inl, ◌≢◌, subst}
use Rattle.std.proofs.lemmas.List.{append_cancel_left}
use Rattle.wasm_shapes.specs.Tree.{Tree, count}
use Rattle.wasm_shapes.specs.Shape.{Shape, closed}
use Rattle.wasm_shapes.specs.Spells.{Is, Spelled, Spells}
use Rattle.wasm_leb.specs.Place.{BeginsNumber, BeginsNoNumber}
use Rattle.wasm_shapes.specs.Place.{Begins, BeginsNone}
use Rattle.wasm_shapes.specs.Sound.{sound}
use Rattle.wasm_shapes.specs.Rows.{RowsLeft, NoRows, rows_then}
use Rattle.wasm_shapes.specs.RowLaws as statements
use Rattle.wasm_leb.proofs.Unique.{unsigned_unique}
use Rattle.wasm_shapes.proofs.Unique.{unique}

pub rows_end : {s : Shape} {n : ℕ} {bytes : List ℕ} → n ≡ 0 → bytes ≡ [] → RowsLeft s n bytes Tree.nil
rows_end k e = record { shaped = Is.nil; counted = sym k; spelled = e }

-- one row more in front
pub rows_cons : {s : Shape} {n m : ℕ} {bytes left : List ℕ} {t rows : Tree} → m ≡ suc n → Begins s bytes t left → RowsLeft s n left rows → RowsLeft s m bytes (Tree.cons t rows)
rows_cons {left = left} k p r = record {
  shaped = Is.cons p.spells.shaped r.shaped;
  counted = ap suc r.counted ∙ sym k;
  spelled = (p.text, left, p.reads, p.spells.spelled, r.spelled);
}

-- no rows where none begins, and none behind the last
pub no_row : {s : Shape} {n m : ℕ} {bytes : List ℕ} → m ≡ suc n → BeginsNone s bytes → NoRows s m bytes
no_row {s = s} {n = n} {m = m} {bytes = bytes} k none = record { none = λ rows r. go rows r.shaped r.counted r.spelled }
  where
    go : (rows : Tree) → Is (Shape.many s) rows → count rows ≡ m → Spelled rows bytes → ⊥
    go rows Is.nil counted p = omega arith
    go rows (Is.cons {t = t} d d') counted p = none.none p.0 p.1 t (record { shaped = d; spelled = p.3 }) p.2

pub no_rows_behind : {s : Shape} {n : ℕ} {bytes : List ℕ} → n ≡ 0 → bytes ≢ [] → NoRows s n bytes
no_rows_behind {s = s} {n = n} {bytes = bytes} k more = record { none = λ rows r. go rows r.shaped r.counted r.spelled }
  where
    go : (rows : Tree) → Is (Shape.many s) rows → count rows ≡ n → Spelled rows bytes → ⊥
    go rows Is.nil counted p = more p
    go rows (Is.cons {u = u} d d') counted p = let some : suc (count u) ≡ n = counted in omega arith

-- the first of the rows is the one that the bytes begin with
pub rows_first : {s : Shape} {n m : ℕ} {bytes left : List ℕ} {t : Tree} → sound s ≡ true → closed s ≡ true → m ≡ suc n → Begins s bytes t left →
    (rows : Tree) → RowsLeft s m bytes rows → (others : Tree) × (rows ≡ Tree.cons t others) × RowsLeft s n left others
rows_first {s = s} {n = n} {m = m} {bytes = bytes} {left = left} {t = t} k h c there rows r = go rows r.shaped r.counted r.spelled
  where
    go : (rows : Tree) → Is (Shape.many s) rows → count rows ≡ m → Spelled rows bytes → (others : Tree) × (rows ≡ Tree.cons t others) × RowsLeft s n left others
    go rows Is.nil counted p = absurd (omega arith)
    go rows (Is.cons {t = v} {u = u} d d') counted p =
        let both_ways : there.text ++ left ≡ p.0 ++ p.1 = sym there.reads ∙ p.2 in
        let same : (there.text ≡ p.0) × (t ≡ v) = unique there.spells.shaped d there.text p.0 left p.1 k (inl h) there.spells.spelled p.3 both_ways in
        let shifted : p.0 ++ left ≡ p.0 ++ p.1 = ap (λ (z : List ℕ). z ++ left) (sym same.0) ∙ both_ways in
        let behind : left ≡ p.1 = append_cancel_left p.0 left p.1 shifted in
        let some : suc (count u) ≡ m = counted in
        let P : List ℕ → Type 0 = λ z. Spelled u z in
        (u, ap (λ (w : Tree). Tree.cons w u) (sym same.1), record { shaped = d'; counted = omega arith; spelled = subst P (sym behind) p.4 })

-- and so the bytes are one list of so many rows
pub rows_one : {s : Shape} {n : ℕ} {bytes : List ℕ} {t u : Tree} → sound s ≡ true → closed s ≡ true → RowsLeft s n bytes t → RowsLeft s n bytes u → t ≡ u
rows_one {s = s} {bytes = bytes} {t = t} {u = u} k h p q = go t u p.shaped q.shaped (p.counted ∙ sym q.counted) bytes p.spelled q.spelled
  where
    go : (t u : Tree) → Is (Shape.many s) t → Is (Shape.many s) u → count t ≡ count u → (bytes : List ℕ) → Spelled t bytes → Spelled u bytes → t ≡ u
    go t u Is.nil Is.nil e bytes p q = refl
    go t u Is.nil (Is.cons {u = v} d d') e bytes p q = let some : 0 ≡ suc (count v) = e in absurd (omega arith)
    go t u (Is.cons {u = v} d d') Is.nil e bytes p q = let some : suc (count v) ≡ 0 = e in absurd (omega arith)
    go t u (Is.cons {t = t'} {u = v} d d') (Is.cons {t = u'} {u = w} f f') e bytes p q =
        let both_ways : p.0 ++ p.1 ≡ q.0 ++ q.1 = sym p.2 ∙ q.2 in
        let same : (p.0 ≡ q.0) × (t' ≡ u') = unique d f p.0 q.0 p.1 q.1 k (inl h) p.3 q.3 both_ways in
        let behind : p.1 ≡ q.1 = append_cancel_left q.0 p.1 q.1 (ap (λ (z : List ℕ). z ++ p.1) (sym same.0) ∙ both_ways) in
        let S : List ℕ → Type 0 = λ z. Spelled v z in
        let fewer : count v ≡ count w = omega arith in
        ap₂ Tree.cons same.1 (go v w d' f' fewer q.1 (subst S behind p.4) q.4)

-- a row more behind the others
pub snoc_is : {s : Shape} (rows : List Tree) {t : Tree} → Is (Shape.many s) (rows_then rows Tree.nil) → Is s t → Is (Shape.many s) (rows_then (rows ++ t ∷ []) Tree.nil)
snoc_is [] d e = Is.cons e d
snoc_is (u ∷ rows) (Is.cons d d') e = Is.cons d (snoc_is rows d' e)

pub snoc_spelled : (rows : List Tree) (t : Tree) (x y : List ℕ) → Spelled (rows_then rows Tree.nil) x → Spelled t y → Spelled (rows_then (rows ++ t ∷ []) Tree.nil) (x ++ y)
snoc_spelled [] t x y p q = (y, [], ap (λ (z : List ℕ). z ++ y) p ∙ sym (append-nil y), q, refl)
snoc_spelled (u ∷ rows) t x y p q =
    (p.0, p.1 ++ y, ap (λ (z : List ℕ). z ++ y) p.2 ∙ append_assoc p.0 p.1 y, p.3, snoc_spelled rows t p.1 y p.4 q)

snoc_count : (rows : List Tree) (t : Tree) → count (rows_then (rows ++ t ∷ []) Tree.nil) ≡ suc (count (rows_then rows Tree.nil))
snoc_count [] t = refl
snoc_count (u ∷ rows) t = ap suc (snoc_count rows t)

pub rows_snoc : {s : Shape} {n : ℕ} {bytes text : List ℕ} {t : Tree} (rows : List Tree) → RowsLeft s n bytes (rows_then rows Tree.nil) → Spells s text t →
    RowsLeft s (suc n) (bytes ++ text) (rows_then (rows ++ t ∷ []) Tree.nil)
rows_snoc {bytes = bytes} {text = text} {t = t} rows r p = record {
  shaped = snoc_is rows r.shaped p.shaped;
  counted = snoc_count rows t ∙ ap suc r.counted;
  spelled = snoc_spelled rows t bytes text r.spelled p.spelled;
}

pub rows_then-append : (ts : List Tree) (t others : Tree) → rows_then (ts ++ t ∷ []) others ≡ rows_then ts (Tree.cons t others)
rows_then-append [] t others = refl
rows_then-append (u ∷ ts) t others = ap (λ (w : Tree). Tree.cons u w) (rows_then-append ts t others)

-- ---- a vector

pub vec_spelled : {s : Shape} {n : ℕ} {body start : List ℕ} {rows : Tree} → BeginsNumber 128 32 32 body n start → RowsLeft s n start rows → Spells (Shape.vec s) body (Tree.vec rows)
vec_spelled {start = start} p r = record {
  shaped = Is.vec r.shaped;
  spelled = (p.0, start, p.2, rw r.counted p.1, r.spelled);
}

-- a vector's rows are what stands behind its number
pub vec_is : {s : Shape} {n : ℕ} {body start : List ℕ} → BeginsNumber 128 32 32 body n start → (tree : Tree) → Spells (Shape.vec s) body tree →
    (rows : Tree) × (tree ≡ Tree.vec rows) × RowsLeft s n start rows
vec_is {s = s} {n = n} {body = body} {start = start} there tree p = go tree p.shaped p.spelled
  where
    go : (tree : Tree) → Is (Shape.vec s) tree → Spelled tree body → (rows : Tree) × (tree ≡ Tree.vec rows) × RowsLeft s n start rows
    go tree (Is.vec {t = t} d) q =
        let both_ways : there.0 ++ start ≡ q.0 ++ q.1 = sym there.2 ∙ q.2 in
        let same : (there.0 ≡ q.0) × (n ≡ count t) = unsigned_unique start q.1 there.1 q.3 both_ways in
        let shifted : q.0 ++ start ≡ q.0 ++ q.1 = ap (λ (z : List ℕ). z ++ start) (sym same.0) ∙ both_ways in
        let behind : start ≡ q.1 = append_cancel_left q.0 start q.1 shifted in
        let P : List ℕ → Type 0 = λ z. Spelled t z in
        (t, refl, record { shaped = d; counted = sym same.1; spelled = subst P (sym behind) q.4 })

-- nothing is a vector where no count begins
pub vec_counted : {s : Shape} {body : List ℕ} → BeginsNoNumber 128 32 32 body → (tree : Tree) → Spells (Shape.vec s) body tree → ⊥
vec_counted {s = s} {body = body} none tree p = go tree p.shaped p.spelled
  where
    go : (tree : Tree) → Is (Shape.vec s) tree → Spelled tree body → ⊥
    go tree (Is.vec {t = t} d) q = none q.0 q.1 (count t) q.3 q.2

-- ---- a loop over rows

-- The rows so far, and any that may be left, are all the rows; and all the rows are these and some that are left.
pub record RowsSoFar (shape : Shape) (total : ℕ) (start : List ℕ) (rows : List Tree) (left : ℕ) (rest : List ℕ) : Type 0 where
  pub forth : (others : Tree) → RowsLeft shape left rest others → RowsLeft shape total start (rows_then rows others)
  pub back : (all : Tree) → RowsLeft shape total start all → (others : Tree) × (all ≡ rows_then rows others) × RowsLeft shape left rest others

pub so_far_none : (s : Shape) (n : ℕ) (bytes : List ℕ) → RowsSoFar s n bytes [] n bytes
so_far_none s n bytes = record { forth = λ others r. r; back = λ all r. (all, refl, r) }

pub so_far_more : {s : Shape} {total n m : ℕ} {start bytes left : List ℕ} {t : Tree} (rows : List Tree) → sound s ≡ true → closed s ≡ true → m ≡ suc n → Begins s bytes t left →
    RowsSoFar s total start rows m bytes → RowsSoFar s total start (rows ++ t ∷ []) n left
so_far_more {s = s} {total = total} {n = n} {m = m} {start = start} {bytes = bytes} {left = left} {t = t} rows k h c there so_far = record {
  forth = λ others r. rw (rows_then-append rows t others) (so_far.forth (Tree.cons t others) (rows_cons c there r));
  back = λ all r. step all (so_far.back all r);
}
  where
    step : (all : Tree) → (others : Tree) × (all ≡ rows_then rows others) × RowsLeft s m bytes others →
        (others : Tree) × (all ≡ rows_then (rows ++ t ∷ []) others) × RowsLeft s n left others
    step all p =
        let q = rows_first k h c there p.0 p.2 in
        (q.0, p.1 ∙ ap (λ (w : Tree). rows_then rows w) q.1 ∙ sym (rows_then-append rows t q.0), q.2)

pub so_far_stuck : {s : Shape} {total left : ℕ} {start rest : List ℕ} {rows : List Tree} → RowsSoFar s total start rows left rest → NoRows s left rest → NoRows s total start
so_far_stuck so_far none = record { none = λ all r. none.none (so_far.back all r).0 (so_far.back all r).2 }

-- ---- the laws

pub are_rows : statements.AreRows
are_rows = record {
  rows = λ s n body start t there p. vec_is there t p;
  vector = λ s n body start rows there r. vec_spelled there r;
  uncounted = λ s body t none p. vec_counted none t p;
  first = λ s k h n bytes left t rows there r. rows_first k h refl there rows r;
  more = λ s n bytes left t rows there r. rows_cons refl there r;
  stuck = λ s n bytes none. no_row refl none;
  ended = λ s bytes more. no_rows_behind refl more;
  whole = λ s. rows_end refl refl;
}
