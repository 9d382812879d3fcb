-- What bytes begin with: indices further out, scopes, and what a byte says is there or is not.
use Rattle.std.proofs.Common.{◌≡◌, ℕ, List, [], ◌∷◌, ◌++◌, refl, sym, ap, ◌∙◌, append_assoc}
use Rattle.wasm_leb.specs.Place.{BeginsNumber}
use Rattle.wasm_shapes.specs.declared.Space.{Space}
use Rattle.wasm_shapes.specs.Tree.{Tree}
use Rattle.wasm_shapes.specs.Shape.{Shape}
use Rattle.wasm_shapes.specs.Spells.{Is, Spelled}
use Rattle.wasm_shapes.specs.Place.{Begins, BeginsNone}

-- ---- an index further out

pub begins_outer : {s : Space} {c i : ℕ} {bytes middle left : List ℕ} → BeginsNumber 128 32 32 bytes c middle → BeginsNumber 128 32 32 middle i left →
    Begins (Shape.outer s) bytes (Tree.outer s c i) left
begins_outer {left = left} p q = record {
  text = p.0 ++ q.0;
  spells = record { shaped = Is.outer; spelled = (p.0, q.0, refl, p.1, q.1) };
  reads = p.2 ∙ ap (λ (z : List ℕ). p.0 ++ z) q.2 ∙ sym (append_assoc p.0 q.0 left);
}

-- as two indices side by side
pub none_outer : {s : Space} {bytes : List ℕ} → BeginsNone (Shape.seq (Shape.ix s) (Shape.ix s)) bytes → BeginsNone (Shape.outer s) bytes
none_outer {s = s} {bytes = bytes} none = record { none = λ text left tree p e. go text left tree p.shaped p.spelled e }
  where
    go : (text left : List ℕ) (tree : Tree) → Is (Shape.outer s) tree → Spelled tree text → bytes ≡ text ++ left → ⊥
    go text left tree (Is.outer {c = c} {i = i}) p e =
        none.none text left (Tree.pair (Tree.ix s c) (Tree.ix s i)) (record { shaped = Is.seq Is.ix Is.ix; spelled = p }) e

-- ---- a scope

pub begins_scope : {a : Shape} {t : Tree} {bytes left : List ℕ} → Begins a bytes t left → Begins (Shape.scope a) bytes (Tree.scope t) left
begins_scope p = record { text = p.text; spells = record { shaped = Is.scope p.spells.shaped; spelled = p.spells.spelled }; reads = p.reads }

pub none_scope : {a : Shape} {bytes : List ℕ} → BeginsNone a bytes → BeginsNone (Shape.scope a) bytes
none_scope {a = a} {bytes = bytes} none = record { none = λ text left tree p e. go text left tree p.shaped p.spelled e }
  where
    go : (text left : List ℕ) (tree : Tree) → Is (Shape.scope a) tree → Spelled tree text → bytes ≡ text ++ left → ⊥
    go text left tree (Is.scope {t = t} d) p e = none.none text left t (record { shaped = d; spelled = p }) e

-- ---- what is there or is not

pub begins_absent : {a : Shape} {bytes left : List ℕ} → bytes ≡ 0 ∷ left → Begins (Shape.opt a) bytes Tree.absent left
begins_absent e = record { text = 0 ∷ []; spells = record { shaped = Is.absent; spelled = refl }; reads = e }

pub begins_present : {a : Shape} {t : Tree} {bytes xs left : List ℕ} → bytes ≡ 1 ∷ xs → Begins a xs t left → Begins (Shape.opt a) bytes (Tree.present t) left
begins_present e p = record {
  text = 1 ∷ p.text;
  spells = record { shaped = Is.present p.spells.shaped; spelled = (p.text, refl, p.spells.spelled) };
  reads = e ∙ ap (λ (z : List ℕ). 1 ∷ z) p.reads;
}

pub none_present : {a : Shape} {xs : List ℕ} → BeginsNone a xs → BeginsNone (Shape.opt a) (1 ∷ xs)
none_present {a = a} {xs = xs} none = record { none = λ text left tree p e. go text left tree p.shaped p.spelled e }
  where
    go : (text left : List ℕ) (tree : Tree) → Is (Shape.opt a) tree → Spelled tree text → 1 ∷ xs ≡ text ++ left → ⊥
    go text left tree Is.absent p e =
        let parts : 1 ∷ xs ≡ 0 ∷ left = e ∙ ap (λ (z : List ℕ). z ++ left) p in
        cc
    go text left tree (Is.present {t = t} d) p e =
        let parts : 1 ∷ xs ≡ 1 ∷ (p.0 ++ left) = e ∙ ap (λ (z : List ℕ). z ++ left) p.1 in
        none.none p.0 left t (record { shaped = d; spelled = p.2 }) cc
