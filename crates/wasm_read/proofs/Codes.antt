-- The numbers of operators, and the operators at the front of some bytes.
use Rattle.std.proofs.Common.{◌≡◌, ℕ, zero, suc, ◌+◌, ◌<◌, ◌≤◌, length, length-append, List, [], ◌∷◌, ◌++◌, Bool, true, false, not, ◌&&◌, nat_le, Option, Some, None, refl, sym, ap, ap₂, ◌∙◌, append_assoc, arith, ◌⊎◌, inl, inr, subst}
use Rattle.std.proofs.lemmas.List.{append_cancel_left}
use Rattle.std.proofs.lemmas.Bool.{le-leb, leb-true}
use Rattle.wasm_leb.specs.Place.{BeginsNumber, BeginsNoNumber}
use Rattle.wasm_leb.proofs.Unique.{unsigned_unique}
use Rattle.wasm_shapes.specs.declared.ImmKind.{ImmKind}
use Rattle.wasm_shapes.specs.Operators.{Code, plain, prefixed, code_from, is_prefix, is_code, kinds_among}
use Rattle.wasm_shapes.specs.Tree.{Tree}
use Rattle.wasm_shapes.specs.Shape.{Shape, immediates, shape_of_kinds, shape_of_row}
use Rattle.wasm_shapes.specs.Sound.{nullable}
use Rattle.wasm_shapes.specs.Spells.{Is, Spelled, SpelledCode}
use Rattle.wasm_shapes.specs.Place.{Begins, BeginsNone}
use Rattle.wasm_shapes.proofs.Begins.{none_row}
use Rattle.wasm_shapes.proofs.Fronts.{nullable_sound}
use Rattle.wasm_shapes.proofs.Lists.{both, spelled_out}
use Rattle.wasm_read.specs.Operations.{BeginsCode, BeginsNoCode}

-- ---- prefixes

prefix_test : (b : ℕ) → 0xfb ≤ b → b ≤ 0xfe → is_prefix b ≡ true
prefix_test b low high = go (nat_le 0xfb b) (nat_le b 0xfe) (le-leb 0xfb b low) (le-leb b 0xfe high)
  where
    go : (p q : Bool) → p ≡ true → q ≡ true → (p && q) ≡ true
    go true q e f = f
    go false q e f = absurd cc

not_prefix : (b : ℕ) → (b < 0xfb) ⊎ (0xfe < b) → is_prefix b ≡ true → ⊥
not_prefix b (inl low) e =
    let within : (nat_le 0xfb b ≡ true) × (nat_le b 0xfe ≡ true) = both _ _ e in
    let above : 0xfb ≤ b = leb-true _ _ within.0 in
    omega arith
not_prefix b (inr high) e =
    let within : (nat_le 0xfb b ≡ true) × (nat_le b 0xfe ≡ true) = both _ _ e in
    let below : b ≤ 0xfe = leb-true _ _ within.1 in
    omega arith

not_false : (p : Bool) → (p ≡ true → ⊥) → not p ≡ true
not_false true none = absurd (none refl)
not_false false none = refl

code_of_prefix : (p n : ℕ) → 0xfb ≤ p → code_from p n ≡ prefixed p n
code_of_prefix zero n low = absurd (omega arith)
code_of_prefix (suc p) n low = refl

-- ---- numbers

pub begins_plain : {b : ℕ} {bytes left : List ℕ} → (b < 0xfb) ⊎ (0xfe < b) → bytes ≡ b ∷ left → BeginsCode bytes (plain b) left
begins_plain {b = b} other e = record { text = b ∷ []; valid = not_false (is_prefix b) (not_prefix b other); spelled = refl; reads = e }

pub begins_prefixed : {p n : ℕ} {bytes middle left : List ℕ} → 0xfb ≤ p → p ≤ 0xfe → bytes ≡ p ∷ middle → BeginsNumber 128 32 32 middle n left →
    BeginsCode bytes (code_from p n) left
begins_prefixed {p = p} {n = n} {bytes = bytes} {left = left} low high e there =
    let C : Code → Type 0 = λ c. BeginsCode bytes c left in
    subst C (sym (code_of_prefix p n low)) (record {
      text = p ∷ there.0;
      valid = prefix_test p low high;
      spelled = (there.0, refl, there.1);
      reads = e ∙ ap (λ (z : List ℕ). p ∷ z) there.2;
    })

pub no_code_at_end : {bytes : List ℕ} → bytes ≡ [] → BeginsNoCode bytes
no_code_at_end {bytes = bytes} e = record { none = λ text left c k p r. go text left c p r }
  where
    go : (text left : List ℕ) (c : Code) → SpelledCode c text → bytes ≡ text ++ left → ⊥
    go text left (plain b) p r = let whole : [] ≡ b ∷ left = sym e ∙ r ∙ ap (λ (z : List ℕ). z ++ left) p in cc
    go text left (prefixed q n) p r = let whole : [] ≡ q ∷ (p.0 ++ left) = sym e ∙ r ∙ ap (λ (z : List ℕ). z ++ left) p.1 in cc

-- no number stands behind the prefix
pub no_code_behind : {q : ℕ} {bytes middle : List ℕ} → 0xfb ≤ q → q ≤ 0xfe → bytes ≡ q ∷ middle → BeginsNoNumber 128 32 32 middle → BeginsNoCode bytes
no_code_behind {q = q} {bytes = bytes} {middle = middle} low high e none = record { none = λ text left c k p r. go text left c k p r }
  where
    go : (text left : List ℕ) (c : Code) → is_code c ≡ true → SpelledCode c text → bytes ≡ text ++ left → ⊥
    go text left (plain b) k p r =
        let whole : q ∷ middle ≡ b ∷ left = sym e ∙ r ∙ ap (λ (z : List ℕ). z ++ left) p in
        let same : q ≡ b = cc in
        let yes : is_prefix q ≡ true = prefix_test q low high in
        let moved : is_prefix q ≡ is_prefix b = ap is_prefix same in
        let no : not (is_prefix b) ≡ true = k in
        let both_ways : is_prefix b ≡ true = sym moved ∙ yes in
        let never : not true ≡ true = sym (ap not both_ways) ∙ no in
        cc
    go text left (prefixed b n) k p r =
        let whole : q ∷ middle ≡ b ∷ (p.0 ++ left) = sym e ∙ r ∙ ap (λ (z : List ℕ). z ++ left) p.1 in
        none p.0 left n p.2 cc

code_unique : (c d : Code) (x y a b : List ℕ) → is_code c ≡ true → is_code d ≡ true → SpelledCode c x → SpelledCode d y → x ++ a ≡ y ++ b → (x ≡ y) × (c ≡ d)
code_unique (plain c) (plain d) x y a b k l p q e =
    let out : c ∷ a ≡ d ∷ b = spelled_out x y (c ∷ []) (d ∷ []) a b p q e in
    let same : c ≡ d = cc in
    (cc, ap plain same)
code_unique (plain c) (prefixed d n) x y a b k l p q e =
    let out : c ∷ a ≡ d ∷ (q.0 ++ b) = spelled_out x y (c ∷ []) (d ∷ q.0) a b p q.1 e in
    let same : c ≡ d = cc in
    absurd (differ c d k l same)
  where
    differ : (c d : ℕ) → not (is_prefix c) ≡ true → is_prefix d ≡ true → c ≡ d → ⊥
    differ c d k l e = let never : not true ≡ true = ap not (sym l ∙ sym (ap is_prefix e)) ∙ k in cc
code_unique (prefixed c n) (plain d) x y a b k l p q e =
    let out : c ∷ (p.0 ++ a) ≡ d ∷ b = spelled_out x y (c ∷ p.0) (d ∷ []) a b p.1 q e in
    let same : c ≡ d = cc in
    let never : not true ≡ true = ap not (sym k ∙ ap is_prefix same) ∙ l in
    absurd cc
code_unique (prefixed c n) (prefixed d m) x y a b k l p q e =
    let out : c ∷ (p.0 ++ a) ≡ d ∷ (q.0 ++ b) = spelled_out x y (c ∷ p.0) (d ∷ q.0) a b p.1 q.1 e in
    let same : c ≡ d = cc in
    let rest : p.0 ++ a ≡ q.0 ++ b = cc in
    let number = unsigned_unique a b p.2 q.2 rest in
    (p.1 ∙ ap₂ (λ (h : ℕ) (z : List ℕ). h ∷ z) same number.0 ∙ sym q.1, ap₂ prefixed same number.1)

-- ---- operators

pub begins_op : {c : Code} {ks : List ImmKind} {ends : Bool} {t : Tree} {bytes middle left : List ℕ} → kinds_among ends c ≡ Some ks → BeginsCode bytes c middle →
    Begins (shape_of_kinds ks) middle t left → Begins (Shape.op ends) bytes (Tree.op c t) left
begins_op {c = c} {ks = ks} {ends = ends} {t = t} {left = left} row there p =
    let I : Option (List ImmKind) → Type 0 = λ o. Is (shape_of_row o) t in
    record {
      text = there.text ++ p.text;
      spells = record {
        shaped = Is.op there.valid (subst I (sym row) p.spells.shaped);
        spelled = (there.text, p.text, refl, there.spelled, p.spells.spelled);
      };
      reads = there.reads ∙ ap (λ (z : List ℕ). there.text ++ z) p.reads ∙ sym (append_assoc there.text p.text left);
    }

pub none_op_code : {ends : Bool} {bytes : List ℕ} → BeginsNoCode bytes → BeginsNone (Shape.op ends) bytes
none_op_code {ends = ends} {bytes = bytes} none = record { none = λ text left tree p e. go text left tree p.shaped p.spelled e }
  where
    go : (text left : List ℕ) (tree : Tree) → Is (Shape.op ends) tree → Spelled tree text → bytes ≡ text ++ left → ⊥
    go text left tree (Is.op {c = c} k d) p e =
        none.none p.0 (p.1 ++ left) c k p.3 (e ∙ ap (λ (z : List ℕ). z ++ left) p.2 ∙ append_assoc p.0 p.1 left)

pub none_op : {c : Code} {ends : Bool} {bytes middle : List ℕ} → BeginsCode bytes c middle → BeginsNone (immediates ends c) middle →
    BeginsNone (Shape.op ends) bytes
none_op {c = c} {ends = ends} {bytes = bytes} {middle = middle} there none = record { none = λ text left tree p e. go text left tree p.shaped p.spelled e }
  where
    go : (text left : List ℕ) (tree : Tree) → Is (Shape.op ends) tree → Spelled tree text → bytes ≡ text ++ left → ⊥
    go text left tree (Is.op {c = d} {t = t} k f) p e =
        let parts : bytes ≡ p.0 ++ (p.1 ++ left) = e ∙ ap (λ (z : List ℕ). z ++ left) p.2 ∙ append_assoc p.0 p.1 left in
        let both_ways : there.text ++ middle ≡ p.0 ++ (p.1 ++ left) = sym there.reads ∙ parts in
        let same : (there.text ≡ p.0) × (c ≡ d) = code_unique c d there.text p.0 middle (p.1 ++ left) there.valid k there.spelled p.3 both_ways in
        let shifted : p.0 ++ middle ≡ p.0 ++ (p.1 ++ left) = ap (λ (z : List ℕ). z ++ middle) (sym same.0) ∙ both_ways in
        let I : Code → Type 0 = λ c. Is (immediates ends c) t in
        none.none p.1 left t (record { shaped = subst I (sym same.1) f; spelled = p.4 }) (append_cancel_left p.0 middle (p.1 ++ left) shifted)

-- no row has the number
pub none_op_row : {c : Code} {ends : Bool} {bytes middle : List ℕ} → kinds_among ends c ≡ None → BeginsCode bytes c middle → BeginsNone (Shape.op ends) bytes
none_op_row {middle = middle} row there =
    let N : Option (List ImmKind) → Type 0 = λ o. BeginsNone (shape_of_row o) middle in
    none_op there (subst N (sym row) none_row)

-- the row's immediates do not stand behind it
pub none_op_imms : {c : Code} {ks : List ImmKind} {ends : Bool} {bytes middle : List ℕ} → kinds_among ends c ≡ Some ks → BeginsCode bytes c middle →
    BeginsNone (shape_of_kinds ks) middle → BeginsNone (Shape.op ends) bytes
none_op_imms {middle = middle} row there none =
    let N : Option (List ImmKind) → Type 0 = λ o. BeginsNone (shape_of_row o) middle in
    none_op there (subst N (sym row) none)

-- what is spelled by some bytes leaves fewer
pub fewer_left : {s : Shape} {t : Tree} {bytes left : List ℕ} → nullable s ≡ false → Begins s bytes t left → length left < length bytes
fewer_left {s = s} {t = t} {bytes = bytes} {left = left} fills p = go p.text p.spells.shaped p.spells.spelled p.reads
  where
    go : (text : List ℕ) → Is s t → Spelled t text → bytes ≡ text ++ left → length left < length bytes
    go [] d q e = let empty : nullable s ≡ true = nullable_sound d [] q refl in absurd cc
    go (b ∷ text) d q e = let long : length bytes ≡ length (b ∷ text) + length left = ap length e ∙ length-append (b ∷ text) left in omega arith
