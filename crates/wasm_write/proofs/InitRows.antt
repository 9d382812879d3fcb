-- Rows that hold the expression of a first value.
use Rattle.std.specs.Prelude.{IfErr}
use Rattle.std.proofs.Common.{◌≡◌, ℕ, ◌-◌, ◌<◌, ◌^◌, List, [], ◌∷◌, ◌++◌, All, Bool, true, false, Result, Ok, Err, Option, Some, None, refl, ap, ap₂, subst, sym}
use mathlib.Core.Logic.{∥∥₁_map}
use Rattle.wasm_shapes.specs.Tree.{Tree, normal}
use Rattle.wasm_shapes.specs.Shape.{Shape, Named, lead, table_type, global_type}
use Rattle.wasm_shapes.specs.Spells.{Is, Spells}
use Rattle.wasm_shapes.specs.Fits.{InRange}
use Rattle.wasm_shapes.specs.Module.{table_row, global_row}
use Rattle.wasm_shapes.specs.Types.{expression_of, led, bounds_tree}
use Rattle.wasm_shapes.proofs.Frameless.{frameless_spells}
use Rattle.wasm_shapes.proofs.ReadBack.{spelled_in_range, in_range_had}
use Rattle.wasm_types.specs.declared.types.AbstractHeapType.{AbstractHeapType}
use Rattle.wasm_types.specs.declared.types.AbstractHeapType.TheVariants as abstract
use Rattle.wasm_write.specs.Types.{HeapType, ValType, abstract_tree, heap_type_tree, reference_parts, val_type_tree, table_type_tree, global_type_tree}
use Rattle.wasm_types.specs.declared.types.HeapType.TheVariants as heap
use Rattle.wasm_types.specs.declared.types.ValType.TheVariants as value
use Rattle.wasm_write.specs.declared.types.TableType.{TableType}
use Rattle.wasm_write.specs.declared.types.GlobalType.{GlobalType}
use Rattle.wasm_write.specs.declared.fault.WriteFault.{WriteFault}
use Rattle.wasm_write.specs.declared.fault.WriteFault.TheVariants.{TooLarge, NoMemory}
use Rattle.wasm_write.specs.Counts.{counts, IsTooLarge}
use Rattle.wasm_write.specs.Faults.{IfTooLarge}
use Rattle.wasm_write.specs.Rows.{table_with_init_tree, global_tree}
use Rattle.wasm_write.proofs.SmallCounts.{IsSmall, counts_small, last_is_large}
use Rattle.wasm_write.proofs.ExternalShapes.{table_type_is, global_type_is}

-- ---- types have no counts

abstract_counts : (ty : AbstractHeapType) → counts (abstract_tree ty) ≡ []
abstract_counts abstract.NoFunc = refl
abstract_counts _ = refl

heap_counts : (ty : HeapType) → counts (heap_type_tree ty) ≡ []
heap_counts (heap.Abstract false ty) = abstract_counts ty
heap_counts (heap.Abstract true ty) = abstract_counts ty
heap_counts (heap.Exact i) = refl
heap_counts (heap.Concrete i) = refl

pub reference_counts : (nullable : Bool) (ty : HeapType) → counts (reference_parts nullable ty) ≡ []
reference_counts false ty = heap_counts ty
reference_counts true (heap.Abstract false ty) = abstract_counts ty
reference_counts true (heap.Abstract true ty) = abstract_counts ty
reference_counts true (heap.Exact i) = refl
reference_counts true (heap.Concrete i) = refl

value_counts : (ty : ValType) → counts (val_type_tree ty) ≡ []
value_counts value.I32 = refl
value_counts value.I64 = refl
value_counts value.F32 = refl
value_counts value.F64 = refl
value_counts value.V128 = refl
value_counts (value.Ref ty) = reference_counts ty.nullable ty.heap_type

bounds_counts : (minimum : ℕ) (maximum : Option ℕ) → counts (bounds_tree minimum maximum) ≡ []
bounds_counts minimum None = refl
bounds_counts minimum (Some maximum) = refl

table_counts : (ty : TableType) → counts (table_type_tree ty) ≡ []
table_counts ty =
    ap₂ (λ (y z : List ℕ). y ++ z) (reference_counts ty.element_type.nullable ty.element_type.heap_type) (bounds_counts ty.minimum ty.maximum)

global_counts : (ty : GlobalType) → counts (global_type_tree ty) ≡ []
global_counts ty = ap (λ (z : List ℕ). z ++ []) (value_counts ty.val_type)

-- ---- rows

-- An expression has a spelling, and so a row of a type and an expression is refused for the number of the rows alone.
init_large : {A : Type 0} (r : Result A WriteFault) (t e : Tree) (n : ℕ) → counts t ≡ [] → ∥ Spells (Shape.ref Named.expression) (normal e) e ∥₁ →
    IfErr r (λ f. IfTooLarge f (IsTooLarge ((counts t ++ counts e) ++ n ∷ []))) → IfErr r (λ f. IfTooLarge f (λ size. (size ≡ n) × (2 ^ 32 - 1 < size)))
init_large (Ok a) t e n none p q = tt
init_large (Err NoMemory) t e n none p q = tt
init_large (Err (TooLarge size)) t e n none p q =
    let ranged = in_range_had e (∥∥₁_map p (λ s. spelled_in_range e (normal e) s.spelled)) in
    let S : List ℕ → Type 0 = λ z. All IsSmall (z ++ counts e) in
    last_is_large (counts t ++ counts e) n size (subst S (sym none) (counts_small e ranged)) q

-- the normal spellings of both, side by side
init_spells : {a : Shape} {t e : Tree} → Spells a (normal t) t → ∥ Spells (Shape.ref Named.expression) (normal e) e ∥₁ →
    ∥ Spells (Shape.seq a (Shape.ref Named.expression)) (normal (Tree.pair t e)) (Tree.pair t e) ∥₁
init_spells {t = t} {e = e} s p =
    ∥∥₁_map p (λ q. record { shaped = Is.seq s.shaped q.shaped; spelled = (normal t, normal e, refl, s.spelled, q.spelled) })

-- the same behind a byte, and as a row of a choice
led_spells : {b : ℕ} {s : Shape} {t : Tree} → Spells s (normal t) t → Spells (lead b s) (normal (led b t)) (led b t)
led_spells {b = b} {t = t} p = record { shaped = Is.seq Is.fixed p.shaped; spelled = (b ∷ [], normal t, refl, refl, p.spelled) }

pub table_with_init_spelled : (ty : TableType) (init : List Tree) → InRange (table_type_tree ty) →
    ∥ Spells (Shape.ref Named.expression) (normal (expression_of init)) (expression_of init) ∥₁ →
    ∥ Spells table_row (normal (table_with_init_tree ty init)) (table_with_init_tree ty init) ∥₁
table_with_init_spelled ty init r p =
    ∥∥₁_map (init_spells (frameless_spells table_type refl (table_type_is ty) r) p) (λ s.
    let behind = led_spells {b = 0x40} (led_spells {b = 0x00} s) in
    record { shaped = Is.later {k = 0} (Is.first behind.shaped); spelled = behind.spelled })

pub table_with_init_large : {A : Type 0} (r : Result A WriteFault) (ty : TableType) (init : List Tree) (n : ℕ) →
    ∥ Spells (Shape.ref Named.expression) (normal (expression_of init)) (expression_of init) ∥₁ →
    IfErr r (λ f. IfTooLarge f (IsTooLarge (counts (table_with_init_tree ty init) ++ n ∷ []))) → IfErr r (λ f. IfTooLarge f (λ size. (size ≡ n) × (2 ^ 32 - 1 < size)))
table_with_init_large r ty init n p q = init_large r (table_type_tree ty) (expression_of init) n (table_counts ty) p q

pub global_spelled : (ty : GlobalType) (init : List Tree) → InRange (global_type_tree ty) →
    ∥ Spells (Shape.ref Named.expression) (normal (expression_of init)) (expression_of init) ∥₁ →
    ∥ Spells global_row (normal (global_tree ty init)) (global_tree ty init) ∥₁
global_spelled ty init r p = init_spells (frameless_spells global_type refl (global_type_is ty) r) p

pub global_large : {A : Type 0} (r : Result A WriteFault) (ty : GlobalType) (init : List Tree) (n : ℕ) →
    ∥ Spells (Shape.ref Named.expression) (normal (expression_of init)) (expression_of init) ∥₁ →
    IfErr r (λ f. IfTooLarge f (IsTooLarge (counts (global_tree ty init) ++ n ∷ []))) → IfErr r (λ f. IfTooLarge f (λ size. (size ≡ n) × (2 ^ 32 - 1 < size)))
global_large r ty init n p q = init_large r (global_type_tree ty) (expression_of init) n (global_counts ty) p q

-- what has a spelling is in range
pub expression_in_range : (operators : List Tree) → ∥ Spells (Shape.ref Named.expression) (normal (expression_of operators)) (expression_of operators) ∥₁ →
    InRange (expression_of operators)
expression_in_range operators p = in_range_had (expression_of operators) (∥∥₁_map p (λ s. spelled_in_range (expression_of operators) (normal (expression_of operators)) s.spelled))
