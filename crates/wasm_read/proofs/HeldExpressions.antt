-- Constant expressions that are held, and whole texts that are none.
use Rattle.std.proofs.Common.{◌≡◌, ◌≢◌, ℕ, List, [], ◌++◌, length, take, ◌+◌, ◌-◌, length-append, refl, sym, ap, ◌∙◌, append-nil, subst, inl, arith}
use Rattle.std.proofs.lemmas.List.{append_cancel_left}
use Rattle.std.proofs.Math.Seq.{take-append_seam}
use Rattle.wasm_shapes.specs.Tree.{Tree}
use Rattle.wasm_shapes.specs.Shape.{Shape, Named}
use Rattle.wasm_shapes.specs.Place.{Begins, BeginsNone}
use Rattle.wasm_shapes.specs.Types.{expression_of}
use Rattle.wasm_shapes.proofs.Unique.{unique}
use Rattle.wasm_read.specs.Expressions.{SpellsExpression, NoExpression, HeldExpression, HeldExpression-one, held_expression}

-- the front of the bytes is what was read
module _ {bytes left : List ℕ} {t : Tree} (p : Begins (Shape.ref Named.expression) bytes t left) where
  text_taken : take (length bytes - length left) bytes ≡ p.text
  text_taken =
      let long : length bytes ≡ length p.text + length left = ap length p.reads ∙ length-append p.text left in
      let same : length bytes - length left ≡ length p.text = omega arith in
      ap (λ (n : ℕ). take n bytes) same ∙ ap (take (length p.text)) p.reads ∙ take-append_seam p.text left

  pub front_spells : SpellsExpression (take (length bytes - length left) bytes) t
  front_spells = let S : List ℕ → Type 0 = λ z. SpellsExpression z t in subst S (sym text_taken) p.spells

  pub front_stands : bytes ≡ take (length bytes - length left) bytes ++ left
  front_stands = p.reads ∙ ap (λ (z : List ℕ). z ++ left) (sym text_taken)

pub expression_held : {bytes : List ℕ} (operators : List Tree) → SpellsExpression bytes (expression_of operators) → HeldExpression bytes
expression_held operators p = (operators, ∣ p ∣₁)

module _ {bytes : List ℕ} (h : HeldExpression bytes) where
  pub expression_held_is : (operators : List Tree) → SpellsExpression bytes (expression_of operators) → held_expression bytes h ≡ operators
  unfolding held_expression expression_held
  expression_held_is operators p = HeldExpression-one bytes h (expression_held operators p)

  pub expression_spells : ∥ SpellsExpression bytes (expression_of (held_expression bytes h)) ∥₁
  unfolding held_expression
  expression_spells = h.1

-- what fills all bytes spells them
pub whole_spells : {bytes left : List ℕ} {t : Tree} → Begins (Shape.ref Named.expression) bytes t left → left ≡ [] → SpellsExpression bytes t
whole_spells {bytes = bytes} {t = t} p e =
    let S : List ℕ → Type 0 = λ z. SpellsExpression z t in
    let same : bytes ≡ p.text = p.reads ∙ ap (λ (z : List ℕ). p.text ++ z) e ∙ append-nil p.text in
    subst S (sym same) p.spells

-- no expression fills the bytes where one ends before the last
pub none_fills : {bytes left : List ℕ} {t : Tree} → Begins (Shape.ref Named.expression) bytes t left → left ≢ [] → NoExpression bytes
none_fills {bytes = bytes} {left = left} {t = t} p more u q =
    let both_ways : p.text ++ left ≡ bytes ++ [] = sym p.reads ∙ sym (append-nil bytes) in
    let same : (p.text ≡ bytes) × (t ≡ u) = unique p.spells.shaped q.shaped p.text bytes left [] refl (inl refl) p.spells.spelled q.spelled both_ways in
    let shifted : bytes ++ left ≡ bytes ++ [] = ap (λ (z : List ℕ). z ++ left) (sym same.0) ∙ both_ways in
    more (append_cancel_left bytes left [] shifted)

pub none_whole : {bytes : List ℕ} → BeginsNone (Shape.ref Named.expression) bytes → NoExpression bytes
none_whole {bytes = bytes} none u q = none.none bytes [] u q (sym (append-nil bytes))
