-- Element segments have their shape, and of their counts only the number of what they list can be too large.
use Rattle.std.specs.Prelude.{IfErr}
use Rattle.std.proofs.Common.{◌≡◌, ℕ, ◌-◌, ◌<◌, ◌^◌, List, [], ◌∷◌, ◌++◌, length, map, All, Contains, Bool, true, false, ◌⊎◌, inl, inr, Option, Some, None, Result, Ok, Err, OnOk, refl, sym, ap, ◌∙◌, subst, append_assoc}
use Rattle.std.proofs.lemmas.List.Elements.{All-nil, All-head, All-tail, All-append, Contains-append_cases}
use mathlib.Core.Logic.{∥∥₁_map, ∥∥₁_map₂}
use Rattle.wasm_shapes.specs.declared.Space.TheVariants as space
use Rattle.wasm_shapes.specs.Tree.{Tree, Listed, normal, funcref}
use Rattle.wasm_shapes.specs.Shape.{Shape, Named, reference}
use Rattle.wasm_shapes.specs.Spells.{Is, Spells}
use Rattle.wasm_shapes.specs.Fits.{InRange}
use Rattle.wasm_shapes.specs.Module.{element_row, element_functions}
use Rattle.wasm_shapes.specs.Types.{Items, active_of, rows_tree, vector_tree, expression_of, function_index_tree}
use Rattle.wasm_shapes.proofs.Frameless.{frameless_spells}
use Rattle.wasm_write.specs.Types.{RefType, ref_type_tree}
use Rattle.wasm_write.specs.declared.types.Elements.{Elements}
use Rattle.wasm_write.specs.declared.types.Elements.TheVariants as elements
use Rattle.wasm_write.specs.declared.fault.WriteFault.{WriteFault}
use Rattle.wasm_write.specs.declared.fault.WriteFault.TheVariants.{TooLarge, NoMemory}
use Rattle.wasm_write.specs.Counts.{counts, IsTooLarge}
use Rattle.wasm_write.specs.Faults.{IfTooLarge}
use Rattle.wasm_write.specs.Rows.{is_funcref, elements_tree, elements_len, active_tree, unplaced_tree, HasSpelling, HaveSpellings}
use Rattle.wasm_write.proofs.TypeShapes.{reference_is}
use Rattle.wasm_write.proofs.Items.{count_map, large_right}
use Rattle.wasm_write.proofs.Holding.{OnOk-map}
use Rattle.wasm_write.proofs.SmallCounts.{IsSmall, counts_small, last_is_large}
use Rattle.wasm_write.proofs.InitRows.{reference_counts, expression_in_range}

-- ---- shapes

indices_are : (is : List ℕ) → Is (Shape.many (Shape.ix space.Function)) (rows_tree (map function_index_tree is))
indices_are [] = Is.nil
indices_are (i ∷ is) = Is.cons Is.ix (indices_are is)

functions_are : (is : List ℕ) → Is element_functions (vector_tree (map function_index_tree is))
functions_are is = Is.vec (indices_are is)

expressions_are : (es : List (List Tree)) → All HasSpelling es → ∥ Is (Shape.many (Shape.ref Named.expression)) (rows_tree (map expression_of es)) ∥₁
expressions_are [] p = ∣ Is.nil ∣₁
expressions_are (e ∷ es) p = ∥∥₁_map₂ (All-head HasSpelling e es p) (expressions_are es (All-tail HasSpelling e es p)) (λ s d. Is.cons s.shaped d)

funcref_is : Is reference funcref
funcref_is = Is.later (Is.first (Is.spare (Is.first (Is.later (Is.later (Is.later (Is.first Is.fixed)))))))

type_is : (ty : RefType) → Is reference (ref_type_tree ty)
type_is ty = reference_is ty.nullable ty.heap_type

abbrev EachIs : List (List Tree) → Type 0
EachIs es = Is (Shape.many (Shape.ref Named.expression)) (rows_tree (map expression_of es))

abbrev OffsetIs : List Tree → Type 0
OffsetIs offset = Is (Shape.ref Named.expression) (expression_of offset)

expressions_active : (known : Bool) (table : Option ℕ) (offset : List Tree) (ty : RefType) (es : List (List Tree)) → OffsetIs offset → EachIs es →
    Is element_row (active_of table (expression_of offset) (Items.expressions known (ref_type_tree ty) (map expression_of es)))
expressions_active true None offset ty es o d = Is.later {k = 2} (Is.later {k = 1} (Is.later {k = 0} (Is.first (Is.left o (Is.vec d) (Is.swap funcref_is (Is.vec d))))))
expressions_active false None offset ty es o d = Is.later {k = 2} (Is.later {k = 1} (Is.later {k = 0} (Is.first (Is.aimed o (Is.swap (type_is ty) (Is.vec d))))))
expressions_active known (Some i) offset ty es o d = Is.later {k = 2} (Is.later {k = 1} (Is.later {k = 0} (Is.first (Is.aimed o (Is.swap (type_is ty) (Is.vec d))))))

active_is : (table : Option ℕ) (offset : List Tree) (row : Elements) → HasSpelling offset → HaveSpellings row → ∥ Is element_row (active_tree table offset row) ∥₁
active_is None offset (elements.Functions is) p q = ∥∥₁_map p (λ s. Is.first (Is.left s.shaped (functions_are is) (functions_are is)))
active_is (Some i) offset (elements.Functions is) p q = ∥∥₁_map p (λ s. Is.first (Is.aimed s.shaped (functions_are is)))
active_is table offset (elements.Expressions ty es) p q = ∥∥₁_map₂ p (expressions_are es q) (λ s d. expressions_active (is_funcref ty) table offset ty es s.shaped d)

unplaced_is : (declared : Bool) (row : Elements) → HaveSpellings row → ∥ Is element_row (unplaced_tree declared row) ∥₁
unplaced_is false (elements.Functions is) q = ∣ Is.later {k = 0} (Is.first (Is.seq Is.flag (Is.seq Is.fixed (functions_are is)))) ∣₁
unplaced_is true (elements.Functions is) q = ∣ Is.later {k = 1} (Is.later {k = 0} (Is.first (Is.seq Is.flag (Is.seq Is.fixed (functions_are is))))) ∣₁
unplaced_is false (elements.Expressions ty es) q =
    ∥∥₁_map (expressions_are es q)
    (λ d. Is.later {k = 3} (Is.later {k = 2} (Is.later {k = 1} (Is.later {k = 0} (Is.first (Is.seq Is.flag (Is.swap (type_is ty) (Is.vec d))))))))
unplaced_is true (elements.Expressions ty es) q =
    ∥∥₁_map (expressions_are es q)
    (λ d. Is.later {k = 4} (Is.later {k = 3} (Is.later {k = 2} (Is.later {k = 1} (Is.later {k = 0} (Is.first (Is.seq Is.flag (Is.swap (type_is ty) (Is.vec d)))))))))

-- one that is in range is spelled by its normal spelling
segment_spelled : {t : Tree} → ∥ Is element_row t ∥₁ → InRange t → ∥ Spells element_row (normal t) t ∥₁
segment_spelled p r = ∥∥₁_map p (λ d. frameless_spells element_row refl d r)

active_spelled : (table : Option ℕ) (offset : List Tree) (row : Elements) → HasSpelling offset → HaveSpellings row → InRange (active_tree table offset row) →
    ∥ Spells element_row (normal (active_tree table offset row)) (active_tree table offset row) ∥₁
active_spelled table offset row p q r = segment_spelled (active_is table offset row p q) r

unplaced_spelled : (declared : Bool) (row : Elements) → HaveSpellings row → InRange (unplaced_tree declared row) →
    ∥ Spells element_row (normal (unplaced_tree declared row)) (unplaced_tree declared row) ∥₁
unplaced_spelled declared row q r = segment_spelled (unplaced_is declared row q) r

-- ---- counts

-- all counts but the last are small
record Ends (among : List ℕ) (n : ℕ) : Type 0 where
  front : List ℕ
  is : among ≡ front ++ n ∷ []
  small : All IsSmall front

ends_behind : (xs : List ℕ) {ys : List ℕ} {n : ℕ} → All IsSmall xs → Ends ys n → Ends (xs ++ ys) n
ends_behind xs {n = n} s e = record {
  front = xs ++ e.front;
  is = ap (λ (z : List ℕ). xs ++ z) e.is ∙ sym (append_assoc xs e.front (n ∷ []));
  small = All-append IsSmall xs e.front s e.small;
}

ends_vector : {A : Type 0} (f : A → Tree) (xs : List A) → All IsSmall (counts (rows_tree (map f xs))) → Ends (counts (vector_tree (map f xs))) (length xs)
ends_vector f xs s = record { front = counts (rows_tree (map f xs)); is = ap (λ (n : ℕ). counts (rows_tree (map f xs)) ++ n ∷ []) (count_map f xs); small = s }

functions_small : (is : List ℕ) → All IsSmall (counts (rows_tree (map function_index_tree is)))
functions_small [] = All-nil IsSmall
functions_small (i ∷ is) = functions_small is

each_in_range : (es : List (List Tree)) → All HasSpelling es → InRange (rows_tree (map expression_of es))
each_in_range [] p = tt
each_in_range (e ∷ es) p = (expression_in_range e (All-head HasSpelling e es p), each_in_range es (All-tail HasSpelling e es p))

expressions_small : (es : List (List Tree)) → All HasSpelling es → All IsSmall (counts (rows_tree (map expression_of es)))
expressions_small es p = counts_small (rows_tree (map expression_of es)) (each_in_range es p)

offset_small : (offset : List Tree) → HasSpelling offset → All IsSmall (counts (expression_of offset))
offset_small offset p = counts_small (expression_of offset) (expression_in_range offset p)

type_small : (ty : RefType) → All IsSmall (counts (ref_type_tree ty))
type_small ty =
    let S : List ℕ → Type 0 = λ z. All IsSmall z in
    subst S (sym (reference_counts ty.nullable ty.heap_type)) (All-nil IsSmall)

items_end : (row : Elements) → HaveSpellings row → Ends (counts (elements_tree row)) (elements_len row)
items_end (elements.Functions is) q = ends_vector function_index_tree is (functions_small is)
items_end (elements.Expressions ty es) q = ends_behind (counts (ref_type_tree ty)) (type_small ty) (ends_vector expression_of es (expressions_small es q))

expressions_end : (known : Bool) (table : Option ℕ) (offset : List Tree) (ty : RefType) (es : List (List Tree)) → HasSpelling offset → All HasSpelling es →
    Ends (counts (active_of table (expression_of offset) (Items.expressions known (ref_type_tree ty) (map expression_of es)))) (length es)
expressions_end true None offset ty es p q = ends_behind (counts (expression_of offset)) (offset_small offset p) (ends_vector expression_of es (expressions_small es q))
expressions_end false None offset ty es p q = ends_behind (counts (expression_of offset)) (offset_small offset p) (items_end (elements.Expressions ty es) q)
expressions_end known (Some i) offset ty es p q = ends_behind (counts (expression_of offset)) (offset_small offset p) (items_end (elements.Expressions ty es) q)

active_ends : (table : Option ℕ) (offset : List Tree) (row : Elements) → HasSpelling offset → HaveSpellings row → Ends (counts (active_tree table offset row)) (elements_len row)
active_ends None offset (elements.Functions is) p q = ends_behind (counts (expression_of offset)) (offset_small offset p) (items_end (elements.Functions is) q)
active_ends (Some i) offset (elements.Functions is) p q = ends_behind (counts (expression_of offset)) (offset_small offset p) (items_end (elements.Functions is) q)
active_ends table offset (elements.Expressions ty es) p q = expressions_end (is_funcref ty) table offset ty es p q

unplaced_ends : (declared : Bool) (row : Elements) → HaveSpellings row → Ends (counts (unplaced_tree declared row)) (elements_len row)
unplaced_ends false (elements.Functions is) q = items_end (elements.Functions is) q
unplaced_ends true (elements.Functions is) q = items_end (elements.Functions is) q
unplaced_ends false (elements.Expressions ty es) q = items_end (elements.Expressions ty es) q
unplaced_ends true (elements.Expressions ty es) q = items_end (elements.Expressions ty es) q

-- what is too large is the number of what a segment lists, or that of the rows
abbrev SegmentTooLarge : ℕ → ℕ → ℕ → Type 0
SegmentTooLarge len n size = ((size ≡ len) ⊎ (size ≡ n)) × (2 ^ 32 - 1 < size)

segment_large : {A : Type 0} (r : Result A WriteFault) (among : List ℕ) (len n : ℕ) → Ends among len → IfErr r (λ f. IfTooLarge f (IsTooLarge (among ++ n ∷ []))) →
    IfErr r (λ f. IfTooLarge f (SegmentTooLarge len n))
segment_large (Ok a) among len n e q = tt
segment_large (Err NoMemory) among len n e q = tt
segment_large (Err (TooLarge size)) among len n e q = elim (Contains-append_cases among (n ∷ []) size q.counted) [
  | inl listed ↦
      let C : List ℕ → Type 0 = λ z. Contains z size in
      let last = last_is_large e.front len size e.small (record { counted = subst C e.is listed; large = q.large }) in (inl last.0, q.large)
  | inr rows ↦
      let last = last_is_large [] n size (All-nil IsSmall) (record { counted = rows; large = q.large }) in (inr last.0, q.large)
]

pub active_large : {A : Type 0} (r : Result A WriteFault) (table : Option ℕ) (offset : List Tree) (row : Elements) (n : ℕ) → HasSpelling offset → HaveSpellings row →
    IfErr r (λ f. IfTooLarge f (IsTooLarge (counts (active_tree table offset row) ++ n ∷ []))) → IfErr r (λ f. IfTooLarge f (SegmentTooLarge (elements_len row) n))
active_large r table offset row n p q l = segment_large r (counts (active_tree table offset row)) (elements_len row) n (active_ends table offset row p q) l

pub unplaced_large : {A : Type 0} (r : Result A WriteFault) (declared : Bool) (row : Elements) (n : ℕ) → HaveSpellings row →
    IfErr r (λ f. IfTooLarge f (IsTooLarge (counts (unplaced_tree declared row) ++ n ∷ []))) → IfErr r (λ f. IfTooLarge f (SegmentTooLarge (elements_len row) n))
unplaced_large r declared row n q l = segment_large r (counts (unplaced_tree declared row)) (elements_len row) n (unplaced_ends declared row q) l

-- ---- numbers

vector_len : {A : Type 0} (f : A → Tree) (xs : List A) → InRange (vector_tree (map f xs)) → length xs < 2 ^ 32
vector_len f xs r = rw (← count_map f xs) r.0

expressions_len : (known : Bool) (table : Option ℕ) (offset : List Tree) (ty : RefType) (es : List (List Tree)) →
    InRange (active_of table (expression_of offset) (Items.expressions known (ref_type_tree ty) (map expression_of es))) → length es < 2 ^ 32
expressions_len true None offset ty es r = vector_len expression_of es r.1
expressions_len false None offset ty es r = vector_len expression_of es r.2.1
expressions_len known (Some i) offset ty es r = vector_len expression_of es r.2.1

active_len : (table : Option ℕ) (offset : List Tree) (row : Elements) → InRange (active_tree table offset row) → elements_len row < 2 ^ 32
active_len None offset (elements.Functions is) r = vector_len function_index_tree is r.1
active_len (Some i) offset (elements.Functions is) r = vector_len function_index_tree is r.2
active_len table offset (elements.Expressions ty es) r = expressions_len (is_funcref ty) table offset ty es r

unplaced_len : (declared : Bool) (row : Elements) → InRange (unplaced_tree declared row) → elements_len row < 2 ^ 32
unplaced_len false (elements.Functions is) r = vector_len function_index_tree is r.1.1
unplaced_len true (elements.Functions is) r = vector_len function_index_tree is r.1.1
unplaced_len false (elements.Expressions ty es) r = vector_len expression_of es r.1.1
unplaced_len true (elements.Expressions ty es) r = vector_len expression_of es r.1.1

-- ---- rows that are written

pub active_ok : {A E P : Type 0} (r : Result A E) (table : Option ℕ) (offset : List Tree) (row : Elements) → HasSpelling offset → HaveSpellings row → OnOk r P →
    (P → InRange (active_tree table offset row)) → OnOk r (∥ Spells element_row (normal (active_tree table offset row)) (active_tree table offset row) ∥₁)
active_ok r table offset row p q o f = OnOk-map r o (λ h. active_spelled table offset row p q (f h))

pub unplaced_ok : {A E P : Type 0} (r : Result A E) (declared : Bool) (row : Elements) → HaveSpellings row → OnOk r P → (P → InRange (unplaced_tree declared row)) →
    OnOk r (∥ Spells element_row (normal (unplaced_tree declared row)) (unplaced_tree declared row) ∥₁)
unplaced_ok r declared row q o f = OnOk-map r o (λ h. unplaced_spelled declared row q (f h))

pub large_behind : {A : Type 0} (r : Result A WriteFault) (xs ys zs : List ℕ) → zs ≡ xs ++ ys → IfErr r (λ e. IfTooLarge e (IsTooLarge ys)) →
    IfErr r (λ e. IfTooLarge e (IsTooLarge zs))
large_behind (Ok a) xs ys zs same p = tt
large_behind (Err e) xs ys zs same p = let L : List ℕ → Type 0 = λ z. IfTooLarge e (IsTooLarge z) in subst L (sym same) (large_right e xs ys p)

-- by whether the type is that of references to functions that may be null
pub left_funcref : (offset : List Tree) (ty : RefType) (es : List (List Tree)) → is_funcref ty ≡ true →
    active_tree None offset (elements.Expressions ty es) ≡ Tree.row 3 (Tree.left Listed.expressions (expression_of offset) (vector_tree (map expression_of es)))
left_funcref offset ty es e =
    let T : Bool → Tree = λ b. active_of None (expression_of offset) (Items.expressions b (ref_type_tree ty) (map expression_of es)) in ap T e

pub left_other : (offset : List Tree) (ty : RefType) (es : List (List Tree)) → is_funcref ty ≡ false →
    active_tree None offset (elements.Expressions ty es) ≡ active_tree (Some 0) offset (elements.Expressions ty es)
left_other offset ty es e =
    let T : Bool → Tree = λ b. active_of None (expression_of offset) (Items.expressions b (ref_type_tree ty) (map expression_of es)) in ap T e

pub active_fits : {A E : Type 0} (r : Result A E) (table : Option ℕ) (offset : List Tree) (row : Elements) (n : ℕ) → OnOk r (InRange (active_tree table offset row)) →
    OnOk r (n < 2 ^ 32) → OnOk r ((elements_len row < 2 ^ 32) × (n < 2 ^ 32))
active_fits (Ok a) table offset row n p q = (active_len table offset row p, q)
active_fits (Err e) table offset row n p q = tt

pub unplaced_fits : {A E : Type 0} (r : Result A E) (declared : Bool) (row : Elements) (n : ℕ) → OnOk r (InRange (unplaced_tree declared row)) →
    OnOk r (n < 2 ^ 32) → OnOk r ((elements_len row < 2 ^ 32) × (n < 2 ^ 32))
unplaced_fits (Ok a) declared row n p q = (unplaced_len declared row p, q)
unplaced_fits (Err e) declared row n p q = tt
