-- Expressions: operators up to `end`, one by one.
use Rattle.std.proofs.Common.{◌≡◌, ◌≢◌, ℕ, List, [], ◌∷◌, ◌++◌, Bool, true, false, ◌&&◌, nat_le, if◌then◌else◌, Option, Some, refl, sym, ap, ◌∙◌, append_assoc, arith, subst, inl}
use Rattle.std.proofs.lemmas.Bool.{leb-true}
use Rattle.std.proofs.lemmas.List.{append_cancel_left}
use Rattle.wasm_shapes.specs.declared.ImmKind.{ImmKind}
use Rattle.wasm_shapes.specs.Operators.{Code, plain, prefixed, kinds_among, look_up, plain_operators}
use Rattle.wasm_shapes.specs.Tree.{Tree}
use Rattle.wasm_shapes.specs.Shape.{Shape, Named, immediates, shape_of_row}
use Rattle.wasm_shapes.specs.Spells.{Is, Spelled, SpelledCode}
use Rattle.wasm_shapes.specs.Place.{Begins, BeginsNone}
use Rattle.wasm_shapes.specs.Rows.{rows_then}
use Rattle.wasm_shapes.proofs.Lists.{both}
use Rattle.wasm_shapes.proofs.Rows.{rows_then-append}
use Rattle.wasm_shapes.proofs.Unique.{unique}

-- ---- operators of an expression

-- an operator other than `end` has the same row in an expression
same_row : (c : Code) → c ≢ plain 0x0b → kinds_among true c ≡ kinds_among false c
same_row (plain b) other = go (nat_le 0x0b b && nat_le b 0x0b) refl
  where
    go : (q : Bool) → (nat_le 0x0b b && nat_le b 0x0b) ≡ q → (if q then Some [] else look_up plain_operators b) ≡ look_up plain_operators b
    go true at =
        let ends = both (nat_le 0x0b b) (nat_le b 0x0b) at in
        let is : b ≡ 0x0b = omega (arith, leb-true 0x0b b ends.0, leb-true b 0x0b ends.1) in
        absurd (other (ap plain is))
    go false at = refl
same_row (prefixed p n) other = refl

pub inner_is : (c : Code) (u : Tree) → c ≢ plain 0x0b → Is (Shape.op true) (Tree.op c u) → Is (Shape.op false) (Tree.op c u)
inner_is c u other (Is.op k d) = let P : Option (List ImmKind) → Type 0 = λ o. Is (shape_of_row o) u in Is.op k (subst P (same_row c other) d)

-- `end` is none of them
pub no_end : {c : Code} {u : Tree} → Is (immediates false c) u → c ≢ plain 0x0b
no_end {c = c} {u = u} d e =
    let I : Code → Type 0 = λ z. Is (immediates false z) u in
    let never : Is Shape.none u = subst I e d in
    elim never [ ]

pub outer_is : {t : Tree} → Is (Shape.op false) t → Is (Shape.op true) t
outer_is (Is.op {c = c} {t = u} k d) =
    let P : Option (List ImmKind) → Type 0 = λ o. Is (shape_of_row o) u in Is.op k (subst P (sym (same_row c (no_end d))) d)

-- an operator that does not begin with the byte of `end`
pub begins_inner : {b : ℕ} {bytes xs left : List ℕ} {t : Tree} → bytes ≡ b ∷ xs → b ≢ 0x0b → Begins (Shape.op true) bytes t left → Begins (Shape.op false) bytes t left
begins_inner {b = b} {bytes = bytes} {xs = xs} {left = left} here other p = record {
  text = p.text;
  spells = record { shaped = go p.spells.shaped p.text p.spells.spelled p.reads; spelled = p.spells.spelled };
  reads = p.reads;
}
  where
    go : {t : Tree} → Is (Shape.op true) t → (text : List ℕ) → Spelled t text → bytes ≡ text ++ left → Is (Shape.op false) t
    go (Is.op {c = c} {t = u} k d) text q e =
        let is_end : c ≡ plain 0x0b → ⊥ = λ same.
        let S : Code → Type 0 = λ z. SpelledCode z q.0 in
        let first : q.0 ≡ 0x0b ∷ [] = subst S same q.3 in
        let whole : b ∷ xs ≡ 0x0b ∷ (q.1 ++ left) = sym here ∙ e ∙ ap (λ (z : List ℕ). z ++ left) q.2 ∙ ap (λ (z : List ℕ). (z ++ q.1) ++ left) first in
        other cc in
        inner_is c u is_end (Is.op k d)

-- ---- up to `end`

abbrev until_end : Shape
until_end = Shape.until 0x0b (Shape.op false)

pub begins_end : {bytes left : List ℕ} → bytes ≡ 0x0b ∷ left → Begins until_end bytes (Tree.until 0x0b Tree.nil) left
begins_end e = record { text = 0x0b ∷ []; spells = record { shaped = Is.until Is.nil; spelled = ([], refl, refl) }; reads = e }

pub begins_more : {bytes middle left : List ℕ} {t us : Tree} → Begins (Shape.op false) bytes t middle → Begins until_end middle (Tree.until 0x0b us) left →
    Begins until_end bytes (Tree.until 0x0b (Tree.cons t us)) left
begins_more {bytes = bytes} {middle = middle} {left = left} {t = t} {us = us} p q = go q.spells.shaped q.spells.spelled
  where
    go : Is until_end (Tree.until 0x0b us) → Spelled (Tree.until 0x0b us) q.text → Begins until_end bytes (Tree.until 0x0b (Tree.cons t us)) left
    go (Is.until d) s = record {
      text = p.text ++ q.text;
      spells = record {
        shaped = Is.until (Is.cons p.spells.shaped d);
        spelled = (
          p.text ++ s.0,
          ap (λ (z : List ℕ). p.text ++ z) s.1 ∙ sym (append_assoc p.text s.0 (0x0b ∷ [])),
          (p.text, s.0, refl, p.spells.spelled, s.2),
        );
      };
      reads = p.reads ∙ ap (λ (z : List ℕ). p.text ++ z) q.reads ∙ sym (append_assoc p.text q.text left);
    }

-- where neither an operator nor `end` begins
pub none_begins : {b : ℕ} {bytes xs : List ℕ} → bytes ≡ b ∷ xs → b ≢ 0x0b → BeginsNone (Shape.op true) bytes → BeginsNone until_end bytes
none_begins {b = b} {bytes = bytes} {xs = xs} here other none = record { none = λ text left tree p e. go text left tree p.shaped p.spelled e }
  where
    go : (text left : List ℕ) (tree : Tree) → Is until_end tree → Spelled tree text → bytes ≡ text ++ left → ⊥
    go text left tree (Is.until Is.nil) p e =
        let whole : b ∷ xs ≡ 0x0b ∷ left = sym here ∙ e ∙ ap (λ (z : List ℕ). z ++ left) p.1 ∙ ap (λ (z : List ℕ). (z ++ (0x0b ∷ [])) ++ left) p.2 in
        other cc
    go text left tree (Is.until (Is.cons {t = t} d d')) p e =
        let q = p.2 in
        none.none q.0 ((q.1 ++ (0x0b ∷ [])) ++ left) t (record { shaped = outer_is d; spelled = q.3 })
        (e ∙ ap (λ (z : List ℕ). z ++ left) p.1 ∙ ap (λ (z : List ℕ). (z ++ (0x0b ∷ [])) ++ left) q.2
        ∙ ap (λ (z : List ℕ). z ++ left) (append_assoc q.0 q.1 (0x0b ∷ [])) ∙ append_assoc q.0 (q.1 ++ (0x0b ∷ [])) left)

-- where an operator begins, and behind it no others up to `end`
pub none_more : {b : ℕ} {bytes xs middle : List ℕ} {t : Tree} → bytes ≡ b ∷ xs → b ≢ 0x0b → Begins (Shape.op false) bytes t middle → BeginsNone until_end middle →
    BeginsNone until_end bytes
none_more {b = b} {bytes = bytes} {xs = xs} {middle = middle} {t = t} here other there none =
    record { none = λ text left tree p e. go text left tree p.shaped p.spelled e }
  where
    go : (text left : List ℕ) (tree : Tree) → Is until_end tree → Spelled tree text → bytes ≡ text ++ left → ⊥
    go text left tree (Is.until Is.nil) p e =
        let whole : b ∷ xs ≡ 0x0b ∷ left = sym here ∙ e ∙ ap (λ (z : List ℕ). z ++ left) p.1 ∙ ap (λ (z : List ℕ). (z ++ (0x0b ∷ [])) ++ left) p.2 in
        other cc
    go text left tree (Is.until (Is.cons {t = v} {u = u} d d')) p e =
        let q = p.2 in
        let parts : bytes ≡ q.0 ++ ((q.1 ++ (0x0b ∷ [])) ++ left) =
        e ∙ ap (λ (z : List ℕ). z ++ left) p.1 ∙ ap (λ (z : List ℕ). (z ++ (0x0b ∷ [])) ++ left) q.2
        ∙ ap (λ (z : List ℕ). z ++ left) (append_assoc q.0 q.1 (0x0b ∷ [])) ∙ append_assoc q.0 (q.1 ++ (0x0b ∷ [])) left in
        let behind : List ℕ = (q.1 ++ (0x0b ∷ [])) ++ left in
        let both_ways : there.text ++ middle ≡ q.0 ++ behind = sym there.reads ∙ parts in
        let same : (there.text ≡ q.0) × (t ≡ v) = unique there.spells.shaped d there.text q.0 middle behind refl (inl refl) there.spells.spelled q.3 both_ways in
        let shifted : q.0 ++ middle ≡ q.0 ++ behind = ap (λ (z : List ℕ). z ++ middle) (sym same.0) ∙ both_ways in
        none.none (q.1 ++ (0x0b ∷ [])) left (Tree.until 0x0b u) (record { shaped = Is.until d'; spelled = (q.1, refl, q.4) })
        (append_cancel_left q.0 middle behind shifted)

-- ---- a loop over operators

-- The operators so far, and any up to `end` behind them, are an expression; and there is none where none is behind them.
pub record OperatorsSoFar (start : List ℕ) (operators : List Tree) (rest : List ℕ) : Type 0 where
  pub forth : (others : Tree) (left : List ℕ) → Begins until_end rest (Tree.until 0x0b others) left →
      Begins until_end start (Tree.until 0x0b (rows_then operators others)) left
  pub back : BeginsNone until_end rest → BeginsNone until_end start

pub no_operators : (bytes : List ℕ) → OperatorsSoFar bytes [] bytes
no_operators bytes = record { forth = λ others left p. p; back = λ none. none }

pub operator_more : {b : ℕ} {start bytes xs middle : List ℕ} {t : Tree} (operators : List Tree) → bytes ≡ b ∷ xs → b ≢ 0x0b → Begins (Shape.op true) bytes t middle →
    OperatorsSoFar start operators bytes → OperatorsSoFar start (operators ++ t ∷ []) middle
operator_more {t = t} operators here other there so_far =
    let inner = begins_inner here other there in record {
      forth = λ others left p. rw (rows_then-append operators t others) (so_far.forth (Tree.cons t others) left (begins_more inner p));
      back = λ none. so_far.back (none_more here other inner none);
    }

pub operators_ended : {start bytes left : List ℕ} {operators : List Tree} → bytes ≡ 0x0b ∷ left → OperatorsSoFar start operators bytes →
    Begins (Shape.ref Named.expression) start (Tree.until 0x0b (rows_then operators Tree.nil)) left
operators_ended {left = left} here so_far =
    let whole = so_far.forth Tree.nil left (begins_end here) in
    record { text = whole.text; spells = record { shaped = Is.ref whole.spells.shaped; spelled = whole.spells.spelled }; reads = whole.reads }
