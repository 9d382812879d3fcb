-- Readings below a depth, part by part.
use Rattle.std.proofs.Common.{◌≡◌, ℕ, zero, suc, ◌+◌, ◌≤◌, max, List, [], ◌∷◌, ◌++◌, true, refl, sym, ap, ◌∙◌, append_assoc, arith, inl, inr, subst}
use Rattle.std.proofs.lemmas.List.{append_cancel_left}
use Rattle.wasm_leb.specs.Place.{BeginsNumber, BeginsNoNumber}
use Rattle.wasm_leb.proofs.Unique.{unsigned_unique}
use Rattle.wasm_shapes.specs.Tree.{Tree, count}
use Rattle.wasm_shapes.specs.Shape.{Shape, Named, closed}
use Rattle.wasm_shapes.specs.NamedShapes.{shape_of}
use Rattle.wasm_shapes.specs.Sound.{sound}
use Rattle.wasm_shapes.specs.Spells.{Is, Spelled}
use Rattle.wasm_shapes.specs.Place.{Begins, BeginsNone}
use Rattle.wasm_shapes.specs.Rows.{rows_then}
use Rattle.wasm_shapes.specs.Depth.{opens, Shallow, BeginsAt, BeginsNoneAt, BeginsRows, NoRowsAt}
use Rattle.wasm_shapes.proofs.Unique.{unique}
use Rattle.wasm_shapes.proofs.Rows.{rows_then-append}

-- what the bytes begin with is known, and what is left behind it
pub begins_unique : {s : Shape} {t u : Tree} {bytes a b : List ℕ} → sound s ≡ true → closed s ≡ true → Begins s bytes t a → Begins s bytes u b → (t ≡ u) × (a ≡ b)
begins_unique {t = t} {u = u} {a = a} {b = b} k h p q =
    let both_ways : p.text ++ a ≡ q.text ++ b = sym p.reads ∙ q.reads in
    let same : (p.text ≡ q.text) × (t ≡ u) = unique p.spells.shaped q.spells.shaped p.text q.text a b k (inl h) p.spells.spelled q.spells.spelled both_ways in
    (same.1, append_cancel_left q.text a b (ap (λ (z : List ℕ). z ++ a) (sym same.0) ∙ both_ways))

-- ---- none at a depth

pub at_none : {s : Shape} {d : ℕ} {bytes : List ℕ} → BeginsNone s bytes → BeginsNoneAt s d bytes
at_none n = record { none = λ left tree p. n.none p.begins.text left tree p.begins.spells p.begins.reads }

pub at_here : {s : Shape} {d : ℕ} {bytes xs : List ℕ} → bytes ≡ xs → BeginsNoneAt s d xs → BeginsNoneAt s d bytes
at_here e n = record {
  none = λ left tree p. n.none left tree (record { begins = record { text = p.begins.text; spells = p.begins.spells; reads = sym e ∙ p.begins.reads }; shallow = p.shallow });
}

pub at_or : {a b : Shape} {d : ℕ} {bytes : List ℕ} → BeginsNoneAt a d bytes → BeginsNoneAt b d bytes → BeginsNoneAt (Shape.or a b) d bytes
at_or {a = a} {b = b} {d = d} {bytes = bytes} first others = record { none = λ left tree p. go left tree p.begins.text p.begins.spells.shaped p.begins.spells.spelled p.begins.reads p.shallow }
  where
    go : (left : List ℕ) (tree : Tree) (text : List ℕ) → Is (Shape.or a b) tree → Spelled tree text → bytes ≡ text ++ left → Shallow d tree → ⊥
    go left tree text (Is.first {t = t} i) p e s =
        first.none left t (record { begins = record { text = text; spells = record { shaped = i; spelled = p }; reads = e }; shallow = record { most = s.most } })
    go left tree text (Is.later {k = k} {t = t} i) p e s =
        others.none left (Tree.row k t) (record { begins = record { text = text; spells = record { shaped = i; spelled = p }; reads = e }; shallow = record { most = s.most } })

pub at_ref : {n : Named} {d : ℕ} {bytes : List ℕ} → BeginsNoneAt (shape_of n) d bytes → BeginsNoneAt (Shape.ref n) d bytes
at_ref {n = n} {d = d} {bytes = bytes} none = record { none = λ left tree p. go left tree p.begins.text p.begins.spells.shaped p.begins.spells.spelled p.begins.reads p.shallow }
  where
    go : (left : List ℕ) (tree : Tree) (text : List ℕ) → Is (Shape.ref n) tree → Spelled tree text → bytes ≡ text ++ left → Shallow d tree → ⊥
    go left tree text (Is.ref i) p e s =
        none.none left tree (record { begins = record { text = text; spells = record { shaped = i; spelled = p }; reads = e }; shallow = s })

-- behind a byte
pub at_lead : {b c d : ℕ} {s : Shape} {xs : List ℕ} → c ≡ b → BeginsNoneAt s d xs → BeginsNoneAt (Shape.seq (Shape.fixed b) s) d (c ∷ xs)
at_lead {b = b} {c = c} {d = d} {s = s} {xs = xs} same none = record { none = λ left tree p. go left tree p.begins.text p.begins.spells.shaped p.begins.spells.spelled p.begins.reads p.shallow }
  where
    go : (left : List ℕ) (tree : Tree) (text : List ℕ) → Is (Shape.seq (Shape.fixed b) s) tree → Spelled tree text → c ∷ xs ≡ text ++ left → Shallow d tree → ⊥
    go left tree text (Is.seq {u = u} Is.fixed i) p e shallow =
        let parts : c ∷ xs ≡ p.0 ++ (p.1 ++ left) = e ∙ ap (λ (z : List ℕ). z ++ left) p.2 ∙ append_assoc p.0 p.1 left in
        let byte : p.0 ≡ b ∷ [] = p.3 in
        let parts : c ∷ xs ≡ b ∷ (p.1 ++ left) = parts ∙ ap (λ (z : List ℕ). z ++ (p.1 ++ left)) byte in
        let rest : xs ≡ p.1 ++ left = cc in
        let most : max zero (opens u) + d ≤ 200 = shallow.most in
        none.none left u (record { begins = record { text = p.1; spells = record { shaped = i; spelled = p.4 }; reads = rest }; shallow = record { most = omega arith } })

-- a scope is one deeper
pub at_scope : {s : Shape} {d : ℕ} {bytes : List ℕ} → BeginsNoneAt s (d + 1) bytes → BeginsNoneAt (Shape.scope s) d bytes
at_scope {s = s} {d = d} {bytes = bytes} none = record { none = λ left tree p. go left tree p.begins.text p.begins.spells.shaped p.begins.spells.spelled p.begins.reads p.shallow }
  where
    go : (left : List ℕ) (tree : Tree) (text : List ℕ) → Is (Shape.scope s) tree → Spelled tree text → bytes ≡ text ++ left → Shallow d tree → ⊥
    go left tree text (Is.scope {t = t} i) p e shallow =
        let most : suc (opens t) + d ≤ 200 = shallow.most in
        none.none left t (record { begins = record { text = text; spells = record { shaped = i; spelled = p }; reads = e }; shallow = record { most = omega arith } })

-- the last scope that may be open is
pub at_full : {s : Shape} {d : ℕ} {bytes : List ℕ} → 200 ≤ d → BeginsNoneAt (Shape.scope s) d bytes
at_full {s = s} {d = d} {bytes = bytes} full = record { none = λ left tree p. go tree p.begins.spells.shaped p.shallow }
  where
    go : (tree : Tree) → Is (Shape.scope s) tree → Shallow d tree → ⊥
    go tree (Is.scope {t = t} i) shallow = let most : suc (opens t) + d ≤ 200 = shallow.most in omega arith

pub at_vec : {s : Shape} {n d : ℕ} {bytes start : List ℕ} → BeginsNumber 128 32 32 bytes n start → NoRowsAt s n d start → BeginsNoneAt (Shape.vec s) d bytes
at_vec {s = s} {n = n} {d = d} {bytes = bytes} {start = start} there none = record { none = λ left tree p. go left tree p.begins.text p.begins.spells.shaped p.begins.spells.spelled p.begins.reads p.shallow }
  where
    go : (left : List ℕ) (tree : Tree) (text : List ℕ) → Is (Shape.vec s) tree → Spelled tree text → bytes ≡ text ++ left → Shallow d tree → ⊥
    go left tree text (Is.vec {t = t} i) p e shallow =
        let parts : bytes ≡ p.0 ++ (p.1 ++ left) = e ∙ ap (λ (z : List ℕ). z ++ left) p.2 ∙ append_assoc p.0 p.1 left in
        let both_ways : there.0 ++ start ≡ p.0 ++ (p.1 ++ left) = sym there.2 ∙ parts in
        let same : (there.0 ≡ p.0) × (n ≡ count t) = unsigned_unique start (p.1 ++ left) there.1 p.3 both_ways in
        let shifted : p.0 ++ start ≡ p.0 ++ (p.1 ++ left) = ap (λ (z : List ℕ). z ++ start) (sym same.0) ∙ both_ways in
        let behind : start ≡ p.1 ++ left = append_cancel_left p.0 start (p.1 ++ left) shifted in
        none.none left t
        (record { counted = sym same.1; begins = record { text = p.1; spells = record { shaped = i; spelled = p.4 }; reads = behind } })
        (record { most = shallow.most })

pub none_count : {s : Shape} {bytes : List ℕ} → BeginsNoNumber 128 32 32 bytes → BeginsNone (Shape.vec s) bytes
none_count {s = s} {bytes = bytes} none = record { none = λ text left tree p e. go text left tree p.shaped p.spelled e }
  where
    go : (text left : List ℕ) (tree : Tree) → Is (Shape.vec s) tree → Spelled tree text → bytes ≡ text ++ left → ⊥
    go text left tree (Is.vec {t = t} i) p e =
        none p.0 (p.1 ++ left) (count t) p.3 (e ∙ ap (λ (z : List ℕ). z ++ left) p.2 ∙ append_assoc p.0 p.1 left)

-- ---- some at a depth

pub begins_vec : {s : Shape} {n : ℕ} {bytes start left : List ℕ} {rows : Tree} → BeginsNumber 128 32 32 bytes n start → BeginsRows s n start rows left → Begins (Shape.vec s) bytes (Tree.vec rows) left
begins_vec {left = left} p r = record {
  text = p.0 ++ r.begins.text;
  spells = record { shaped = Is.vec r.begins.spells.shaped; spelled = (p.0, r.begins.text, refl, rw r.counted p.1, r.begins.spells.spelled) };
  reads = p.2 ∙ ap (λ (z : List ℕ). p.0 ++ z) r.begins.reads ∙ sym (append_assoc p.0 r.begins.text left);
}

-- ---- rows

pub rows_end : {s : Shape} {n : ℕ} {bytes : List ℕ} → n ≡ 0 → BeginsRows s n bytes Tree.nil bytes
rows_end k = record { counted = sym k; begins = record { text = []; spells = record { shaped = Is.nil; spelled = refl }; reads = refl } }

pub rows_cons : {s : Shape} {n m : ℕ} {bytes middle left : List ℕ} {t rows : Tree} → m ≡ suc n → Begins s bytes t middle → BeginsRows s n middle rows left → BeginsRows s m bytes (Tree.cons t rows) left
rows_cons {left = left} k p r = record {
  counted = ap suc r.counted ∙ sym k;
  begins = record {
    text = p.text ++ r.begins.text;
    spells = record { shaped = Is.cons p.spells.shaped r.begins.spells.shaped; spelled = (p.text, r.begins.text, refl, p.spells.spelled, r.begins.spells.spelled) };
    reads = p.reads ∙ ap (λ (z : List ℕ). p.text ++ z) r.begins.reads ∙ sym (append_assoc p.text r.begins.text left);
  };
}

-- a first row, and the others
pub rows_split : {s : Shape} {n m : ℕ} {bytes left : List ℕ} {rows : Tree} → m ≡ suc n → BeginsRows s m bytes rows left →
    (t others : Tree) × (middle : List ℕ) × (rows ≡ Tree.cons t others) × Begins s bytes t middle × BeginsRows s n middle others left
rows_split {s = s} {n = n} {m = m} {bytes = bytes} {left = left} {rows = rows} k r = go rows r.counted r.begins.text r.begins.spells.shaped r.begins.spells.spelled r.begins.reads
  where
    go : (rows : Tree) → count rows ≡ m → (text : List ℕ) → Is (Shape.many s) rows → Spelled rows text → bytes ≡ text ++ left →
        (t others : Tree) × (middle : List ℕ) × (rows ≡ Tree.cons t others) × Begins s bytes t middle × BeginsRows s n middle others left
    go rows c text Is.nil p e = absurd (omega arith)
    go rows c text (Is.cons {t = t} {u = u} i j) p e =
        let some : suc (count u) ≡ m = c in
        let parts : bytes ≡ p.0 ++ (p.1 ++ left) = e ∙ ap (λ (z : List ℕ). z ++ left) p.2 ∙ append_assoc p.0 p.1 left in (
          t,
          u,
          p.1 ++ left,
          refl,
          record { text = p.0; spells = record { shaped = i; spelled = p.3 }; reads = parts },
          record { counted = omega arith; begins = record { text = p.1; spells = record { shaped = j; spelled = p.4 }; reads = refl } },
        )

-- the first of the rows is the one that the bytes begin with
pub rows_first : {s : Shape} {n m : ℕ} {bytes middle left : List ℕ} {t rows : Tree} → sound s ≡ true → closed s ≡ true → m ≡ suc n → Begins s bytes t middle →
    BeginsRows s m bytes rows left → (others : Tree) × (rows ≡ Tree.cons t others) × BeginsRows s n middle others left
rows_first {s = s} {n = n} {middle = middle} {left = left} {t = t} k h c there r =
    let p = rows_split c r in
    let same : (t ≡ p.0) × (middle ≡ p.2) = begins_unique k h there p.4 in
    let P : List ℕ → Type 0 = λ z. BeginsRows s n z p.1 left in
    (p.1, p.3 ∙ ap (λ (w : Tree). Tree.cons w p.1) (sym same.0), subst P (sym same.1) p.5)

pub rows_none : {s : Shape} {n : ℕ} {bytes left : List ℕ} {rows : Tree} → n ≡ 0 → BeginsRows s n bytes rows left → (rows ≡ Tree.nil) × (bytes ≡ left)
rows_none {s = s} {n = n} {bytes = bytes} {left = left} {rows = rows} k r = go rows r.counted r.begins.text r.begins.spells.shaped r.begins.spells.spelled r.begins.reads
  where
    go : (rows : Tree) → count rows ≡ n → (text : List ℕ) → Is (Shape.many s) rows → Spelled rows text → bytes ≡ text ++ left → (rows ≡ Tree.nil) × (bytes ≡ left)
    go rows c text Is.nil p e = (refl, e ∙ ap (λ (z : List ℕ). z ++ left) p)
    go rows c text (Is.cons {u = u} i j) p e = let some : suc (count u) ≡ n = c in absurd (omega arith)

pub shallow_first : {d : ℕ} {t u : Tree} → Shallow d (Tree.cons t u) → Shallow d t × Shallow d u
shallow_first {d = d} {t = t} {u = u} s =
    let most : max (opens t) (opens u) + d ≤ 200 = s.most in
    (record { most = omega arith }, record { most = omega arith })

pub shallow_cons : {d : ℕ} {t u : Tree} → Shallow d t → Shallow d u → Shallow d (Tree.cons t u)
shallow_cons {d = d} {t = t} {u = u} p q =
    let first : opens t + d ≤ 200 = p.most in
    let others : opens u + d ≤ 200 = q.most in
    let most : max (opens t) (opens u) + d ≤ 200 = omega arith in
    record { most = most }

pub no_row : {s : Shape} {n m d : ℕ} {bytes : List ℕ} → m ≡ suc n → BeginsNoneAt s d bytes → NoRowsAt s m d bytes
no_row {s = s} {n = n} {m = m} {d = d} {bytes = bytes} k none = record { none = λ left rows r shallow. go left rows (rows_split k r) shallow }
  where
    go : (left : List ℕ) (rows : Tree) → (t others : Tree) × (middle : List ℕ) × (rows ≡ Tree.cons t others) × Begins s bytes t middle × BeginsRows s n middle others left →
        Shallow d rows → ⊥
    go left rows p shallow =
        let P : Tree → Type 0 = λ w. Shallow d w in
        none.none p.2 p.0 (record { begins = p.4; shallow = (shallow_first (subst P p.3 shallow)).0 })

-- ---- a loop over rows

-- The rows so far, and any that may be left, are all the rows; and all the rows are these and some that are left.
pub record SoFar (shape : Shape) (depth total : ℕ) (start : List ℕ) (rows : List Tree) (n : ℕ) (rest : List ℕ) : Type 0 where
  pub forth : (left : List ℕ) (others : Tree) → BeginsRows shape n rest others left → BeginsRows shape total start (rows_then rows others) left
  pub back : (left : List ℕ) (all : Tree) → BeginsRows shape total start all left →
      (others : Tree) × (all ≡ rows_then rows others) × BeginsRows shape n rest others left
  pub shallow : Shallow depth (rows_then rows Tree.nil)

pub shallow_then : (d : ℕ) (ts : List Tree) (u : Tree) → Shallow d (rows_then ts Tree.nil) → Shallow d u → Shallow d (rows_then ts u)
shallow_then d [] u p q = q
shallow_then d (t ∷ ts) u p q =
    let parts = shallow_first p in shallow_cons parts.0 (shallow_then d ts u parts.1 q)

pub shallow_behind : (d : ℕ) (ts : List Tree) (u : Tree) → Shallow d (rows_then ts u) → Shallow d u
shallow_behind d [] u p = p
shallow_behind d (t ∷ ts) u p = shallow_behind d ts u (shallow_first p).1

pub so_far_none : (s : Shape) (d n : ℕ) (bytes : List ℕ) → d ≤ 200 → SoFar s d n bytes [] n bytes
so_far_none s d n bytes deep = record { forth = λ left others r. r; back = λ left all r. (all, refl, r); shallow = record { most = omega arith } }

pub so_far_more : {s : Shape} {d total n m : ℕ} {start bytes rest : List ℕ} {t : Tree} (rows : List Tree) → sound s ≡ true → closed s ≡ true → m ≡ suc n →
    BeginsAt s d bytes t rest → SoFar s d total start rows m bytes → SoFar s d total start (rows ++ t ∷ []) n rest
so_far_more {s = s} {d = d} {total = total} {n = n} {m = m} {start = start} {bytes = bytes} {rest = rest} {t = t} rows k h c there so_far = record {
  forth = λ left others r. rw (rows_then-append rows t others) (so_far.forth left (Tree.cons t others) (rows_cons c there.begins r));
  back = λ left all r. step left all (so_far.back left all r);
  shallow = rw (rows_then-append rows t Tree.nil)
      (shallow_then d rows (Tree.cons t Tree.nil) so_far.shallow (shallow_cons there.shallow (record { most = below there.shallow })));
}
  where
    below : Shallow d t → zero + d ≤ 200
    below p = let first : opens t + d ≤ 200 = p.most in omega arith

    step : (left : List ℕ) (all : Tree) → (others : Tree) × (all ≡ rows_then rows others) × BeginsRows s m bytes others left →
        (others : Tree) × (all ≡ rows_then (rows ++ t ∷ []) others) × BeginsRows s n rest others left
    step left all p =
        let q = rows_first k h c there.begins p.2 in
        (q.0, p.1 ∙ ap (λ (w : Tree). rows_then rows w) q.1 ∙ sym (rows_then-append rows t q.0), q.2)

-- all rows are read
pub so_far_end : {s : Shape} {d total n : ℕ} {start rest : List ℕ} {rows : List Tree} → n ≡ 0 → SoFar s d total start rows n rest →
    BeginsRows s total start (rows_then rows Tree.nil) rest
so_far_end {rest = rest} k so_far = so_far.forth rest Tree.nil (rows_end k)

-- no row begins where one is due
pub so_far_stuck : {s : Shape} {d total n : ℕ} {start rest : List ℕ} {rows : List Tree} → SoFar s d total start rows n rest → NoRowsAt s n d rest →
    NoRowsAt s total d start
so_far_stuck {s = s} {d = d} {n = n} {rest = rest} {rows = rows} so_far none = record { none = λ left all r shallow. step left all (so_far.back left all r) shallow }
  where
    step : (left : List ℕ) (all : Tree) → (others : Tree) × (all ≡ rows_then rows others) × BeginsRows s n rest others left → Shallow d all → ⊥
    step left all p shallow =
        let P : Tree → Type 0 = λ w. Shallow d w in
        none.none left p.0 p.2 (shallow_behind d rows p.0 (subst P p.1 shallow))

pub none_stuck : {s : Shape} {d total n m : ℕ} {start rest : List ℕ} {rows : List Tree} → m ≡ suc n → SoFar s d total start rows m rest → BeginsNoneAt s d rest →
    NoRowsAt s total d start
none_stuck k so_far none = so_far_stuck so_far (no_row k none)

-- so many rows that fill the bytes are one list
pub rows_unique : {s : Shape} {n : ℕ} {bytes : List ℕ} {t u : Tree} → sound (Shape.many s) ≡ true → BeginsRows s n bytes t [] → BeginsRows s n bytes u [] → t ≡ u
rows_unique k p q =
    (unique p.begins.spells.shaped q.begins.spells.shaped p.begins.text q.begins.text [] [] k (inr (refl, refl)) p.begins.spells.spelled q.begins.spells.spelled
    (sym p.begins.reads ∙ q.begins.reads)).1

pub rows_then-one : (ts us : List Tree) → rows_then ts Tree.nil ≡ rows_then us Tree.nil → ts ≡ us
rows_then-one [] [] e = refl
rows_then-one [] (u ∷ us) e = absurd cc
rows_then-one (t ∷ ts) [] e = absurd cc
rows_then-one (t ∷ ts) (u ∷ us) e =
    let rest : rows_then ts Tree.nil ≡ rows_then us Tree.nil = cc in
    let heads : t ≡ u = cc in
    let tails : ts ≡ us = rows_then-one ts us rest in
    cc
