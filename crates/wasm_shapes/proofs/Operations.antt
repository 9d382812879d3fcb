-- What begins with an operator.
use Rattle.std.proofs.Common.{◌≡◌, ℕ, Bool, true, false, List, [], ◌∷◌, ◌++◌, refl, sym, ap, ◌∙◌, append_assoc, not, subst}
use Rattle.wasm_leb.specs.Place.{BeginsNumber, BeginsNoNumber}
use Rattle.wasm_leb.proofs.Unique.{unsigned_unique}
use Rattle.std.proofs.lemmas.List.{append_cancel_left}
use Rattle.wasm_shapes.specs.Operators.{Code, plain, prefixed, is_code, is_prefix}
use Rattle.wasm_shapes.specs.Tree.{Tree}
use Rattle.wasm_shapes.specs.Shape.{Shape, immediates}
use Rattle.wasm_shapes.specs.Spells.{Is, Spelled, SpelledCode}
use Rattle.wasm_shapes.specs.Place.{Begins, BeginsNone}

-- an operator of one byte
pub begins_plain : {ends : Bool} {b : ℕ} {t : Tree} {bytes middle left : List ℕ} → bytes ≡ b ∷ middle → is_code (plain b) ≡ true →
    Begins (immediates ends (plain b)) middle t left → Begins (Shape.op ends) bytes (Tree.op (plain b) t) left
begins_plain {b = b} e k p = record {
  text = b ∷ p.text;
  spells = record { shaped = Is.op k p.spells.shaped; spelled = (b ∷ [], p.text, refl, refl, p.spells.spelled) };
  reads = e ∙ ap (λ (z : List ℕ). b ∷ z) p.reads;
}

-- an operator behind a prefix
pub begins_prefixed : {ends : Bool} {b n : ℕ} {t : Tree} {bytes numbers middle left : List ℕ} → bytes ≡ b ∷ numbers → is_prefix b ≡ true →
    BeginsNumber 128 32 32 numbers n middle → Begins (immediates ends (prefixed b n)) middle t left → Begins (Shape.op ends) bytes (Tree.op (prefixed b n) t) left
begins_prefixed {b = b} {numbers = numbers} {left = left} e k n p = record {
  text = b ∷ (n.0 ++ p.text);
  spells = record { shaped = Is.op k p.spells.shaped; spelled = (b ∷ n.0, p.text, refl, (n.0, refl, n.1), p.spells.spelled) };
  reads = e ∙ ap (λ (z : List ℕ). b ∷ z) (n.2 ∙ ap (λ (z : List ℕ). n.0 ++ z) p.reads ∙ sym (append_assoc n.0 p.text left));
}

-- the parts of an operator at a byte
parts : {b : ℕ} (c : Code) (y z left bytes text middle : List ℕ) → bytes ≡ b ∷ middle → bytes ≡ text ++ left → text ≡ y ++ z → b ∷ middle ≡ y ++ (z ++ left)
parts c y z left bytes text middle e f g = sym e ∙ f ∙ ap (λ (v : List ℕ). v ++ left) g ∙ append_assoc y z left

not_both : (p : Bool) → p ≡ true → not p ≡ true → ⊥
not_both true e f = cc
not_both false e f = cc

pub none_plain : {ends : Bool} {b : ℕ} {bytes middle : List ℕ} → bytes ≡ b ∷ middle → is_code (plain b) ≡ true → BeginsNone (immediates ends (plain b)) middle → BeginsNone (Shape.op ends) bytes
none_plain {ends = ends} {b = b} {bytes = bytes} {middle = middle} e k none = record { none = λ text left tree p r. go text left tree p.shaped p.spelled r }
  where
    at : (c : Code) (t : Tree) (y z left : List ℕ) → is_code c ≡ true → Is (immediates ends c) t → SpelledCode c y → Spelled t z → b ∷ middle ≡ y ++ (z ++ left) → ⊥
    at (plain d) t y z left l s p q r =
        let out : b ∷ middle ≡ d ∷ (z ++ left) = r ∙ ap (λ (v : List ℕ). v ++ (z ++ left)) p in
        let same : d ≡ b = cc in
        let behind : middle ≡ z ++ left = cc in
        let P : ℕ → Type 0 = λ n. Is (immediates ends (plain n)) t in
        none.none z left t (record { shaped = subst P same s; spelled = q }) behind
    at (prefixed d n) t y z left l s p q r =
        let out : b ∷ middle ≡ d ∷ (p.0 ++ (z ++ left)) = r ∙ ap (λ (v : List ℕ). v ++ (z ++ left)) p.1 in
        let same : d ≡ b = cc in
        not_both (is_prefix b) (ap is_prefix (sym same) ∙ l) k

    go : (text left : List ℕ) (tree : Tree) → Is (Shape.op ends) tree → Spelled tree text → bytes ≡ text ++ left → ⊥
    go text left tree (Is.op {c = c} {t = t} l s) p r = at c t p.0 p.1 left l s p.3 p.4 (parts c p.0 p.1 left bytes text middle e r p.2)

-- no operator begins with a prefix where the number or the immediates behind it don't
pub none_behind : {ends : Bool} {b : ℕ} {bytes numbers : List ℕ} → bytes ≡ b ∷ numbers → is_prefix b ≡ true →
    ((n : ℕ) (middle : List ℕ) → BeginsNumber 128 32 32 numbers n middle → BeginsNone (immediates ends (prefixed b n)) middle) → BeginsNone (Shape.op ends) bytes
none_behind {ends = ends} {b = b} {bytes = bytes} {numbers = numbers} e k none = record { none = λ text left tree p r. go text left tree p.shaped p.spelled r }
  where
    at : (c : Code) (t : Tree) (y z left : List ℕ) → is_code c ≡ true → Is (immediates ends c) t → SpelledCode c y → Spelled t z → b ∷ numbers ≡ y ++ (z ++ left) → ⊥
    at (plain d) t y z left l s p q r =
        let out : b ∷ numbers ≡ d ∷ (z ++ left) = r ∙ ap (λ (v : List ℕ). v ++ (z ++ left)) p in
        let same : b ≡ d = cc in
        not_both (is_prefix d) (ap is_prefix (sym same) ∙ k) l
    at (prefixed d n) t y z left l s p q r =
        let out : b ∷ numbers ≡ d ∷ (p.0 ++ (z ++ left)) = r ∙ ap (λ (v : List ℕ). v ++ (z ++ left)) p.1 in
        let same : d ≡ b = cc in
        let behind : numbers ≡ p.0 ++ (z ++ left) = cc in
        let P : ℕ → Type 0 = λ m. Is (immediates ends (prefixed m n)) t in
        (none n (z ++ left) (p.0, p.2, behind)).none z left t (record { shaped = subst P same s; spelled = q }) refl

    go : (text left : List ℕ) (tree : Tree) → Is (Shape.op ends) tree → Spelled tree text → bytes ≡ text ++ left → ⊥
    go text left tree (Is.op {c = c} {t = t} l s) p r = at c t p.0 p.1 left l s p.3 p.4 (parts c p.0 p.1 left bytes text numbers e r p.2)

pub none_prefixed_number : {ends : Bool} {b : ℕ} {bytes numbers : List ℕ} → bytes ≡ b ∷ numbers → is_prefix b ≡ true → BeginsNoNumber 128 32 32 numbers → BeginsNone (Shape.op ends) bytes
none_prefixed_number e k none = none_behind e k (λ n middle there. absurd (none there.0 middle n there.1 there.2))

pub none_prefixed : {ends : Bool} {b n : ℕ} {bytes numbers middle : List ℕ} → bytes ≡ b ∷ numbers → is_prefix b ≡ true →
    BeginsNumber 128 32 32 numbers n middle → BeginsNone (immediates ends (prefixed b n)) middle → BeginsNone (Shape.op ends) bytes
none_prefixed {ends = ends} {b = b} {n = n} {numbers = numbers} {middle = middle} e k here none = none_behind e k (λ m middle' there.
    let both_ways : here.0 ++ middle ≡ there.0 ++ middle' = sym here.2 ∙ there.2 in
    let same = unsigned_unique middle middle' here.1 there.1 both_ways in
    let shifted : there.0 ++ middle ≡ there.0 ++ middle' = ap (λ (z : List ℕ). z ++ middle) (sym same.0) ∙ both_ways in
    let behind : middle ≡ middle' = append_cancel_left there.0 middle middle' shifted in
    let number : n ≡ m = same.1 in
    let P : ℕ → Type 0 = λ v. BeginsNone (immediates ends (prefixed b v)) middle' in
    let Q : List ℕ → Type 0 = λ v. BeginsNone (immediates ends (prefixed b n)) v in
    subst P number (subst Q behind none))
