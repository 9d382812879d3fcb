-- Heap and reference types at the front of some bytes.
use Rattle.std.proofs.Common.{◌≡◌, ◌≢◌, ℕ, ◌<◌, true, false, List, [], ◌∷◌, ◌++◌, refl, sym, ap, ◌∙◌, inr, ◌⊎◌}
use Rattle.wasm_shapes.specs.declared.Space.TheVariants as space
use Rattle.wasm_shapes.specs.Tree.{Tree}
use Rattle.wasm_shapes.specs.Shape.{Shape, lead, abstract_heap, abstract_rows, concrete_rows, heap, reference}
use Rattle.wasm_shapes.specs.Sound.{first_bytes}
use Rattle.wasm_shapes.specs.Spells.{Is, Spelled}
use Rattle.wasm_shapes.specs.Place.{Begins, BeginsNone}
use Rattle.wasm_shapes.proofs.Fronts.{outside}
use Rattle.wasm_shapes.proofs.Begins.{begins_byte, begins_row, none_by_front, none_byte, none_seq_first, none_or, none_row, none_here}
use Rattle.wasm_shapes.proofs.Parts.{begins_among, none_among, none_first_rows, none_spare, none_spare_left}
use Rattle.wasm_types.specs.declared.types.AbstractHeapType.{AbstractHeapType}
use Rattle.wasm_types.specs.declared.types.AbstractHeapType.TheVariants as abstract
use Rattle.wasm_read.specs.Types.{HeapType, abstract_byte, abstract_tree, concrete_tree, heap_type_tree, nullable_tree}
use Rattle.wasm_types.specs.declared.types.HeapType.TheVariants as variant

-- ---- abstract ones

pub abstract_begins : (ty : AbstractHeapType) {bytes left : List ℕ} → bytes ≡ abstract_byte ty ∷ left → Begins abstract_heap bytes (abstract_tree ty) left
abstract_begins abstract.NoFunc e = begins_row (begins_byte e)
abstract_begins _ e = begins_row (begins_byte e)

pub abstract_none : {b : ℕ} {xs : List ℕ} → (b < 0x68) ⊎ (0x75 < b) → BeginsNone abstract_heap (b ∷ xs)
abstract_none {b = b} out = none_by_front refl (outside 0x68 0x75 b (first_bytes abstract_heap) refl out)

-- ---- heap types

abbrev abstracts : List Shape
abstracts = abstract_heap ∷ lead 0x65 abstract_heap ∷ []

abbrev concretes : List Shape
concretes = lead 0x62 (Shape.ix space.Type_) ∷ Shape.sx space.Type_ ∷ []

pub heap_begins : {t : Tree} {bytes left : List ℕ} → Begins abstract_rows bytes t left → Begins heap bytes t left
heap_begins p = begins_among abstracts concretes p

concrete_is : (ty : HeapType) → Is concrete_rows (concrete_tree ty) → Is heap (heap_type_tree ty)
concrete_is (variant.Abstract shared ty) d = elim d [ ]
concrete_is (variant.Exact i) (Is.first d) = Is.later {k = 1} (Is.later {k = 0} (Is.first d))
concrete_is (variant.Concrete i) (Is.later (Is.first d)) = Is.later {k = 2} (Is.later {k = 1} (Is.later {k = 0} (Is.first d)))

concrete_spelled : (ty : HeapType) (x : List ℕ) → Is concrete_rows (concrete_tree ty) → Spelled (concrete_tree ty) x → Spelled (heap_type_tree ty) x
concrete_spelled (variant.Abstract shared ty) x d p = elim d [ ]
concrete_spelled (variant.Exact i) x d p = p
concrete_spelled (variant.Concrete i) x d p = p

pub concrete_begins : (ty : HeapType) {bytes left : List ℕ} → Begins concrete_rows bytes (concrete_tree ty) left → Begins heap bytes (heap_type_tree ty) left
concrete_begins ty p = record {
  text = p.text;
  spells = record { shaped = concrete_is ty p.spells.shaped; spelled = concrete_spelled ty p.text p.spells.shaped p.spells.spelled };
  reads = p.reads;
}

pub heap_none : {bytes : List ℕ} → BeginsNone abstract_rows bytes → BeginsNone concrete_rows bytes → BeginsNone heap bytes
heap_none none others = none_among abstracts concretes none others

-- ---- reference types

null_is : (ty : HeapType) → Is heap (heap_type_tree ty) → Is reference (nullable_tree ty)
null_is (variant.Abstract false ty) (Is.first d) = Is.later {k = 0} (Is.first (Is.spare (Is.first d)))
null_is (variant.Abstract true ty) (Is.later (Is.first d)) = Is.later {k = 0} (Is.first (Is.spare (Is.later {k = 0} (Is.first d))))
null_is (variant.Exact i) (Is.later (Is.later (Is.first d))) = Is.later {k = 0} (Is.first (Is.kept (Is.first d)))
null_is (variant.Concrete i) (Is.later (Is.later (Is.later (Is.first d)))) = Is.later {k = 0} (Is.first (Is.kept (Is.later {k = 0} (Is.first d))))

null_spelled : (ty : HeapType) (x : List ℕ) → Spelled (heap_type_tree ty) x → Spelled (nullable_tree ty) (0x63 ∷ x)
null_spelled (variant.Abstract shared ty) x p = inr (x, refl, p)
null_spelled (variant.Exact i) x p = (x, refl, p)
null_spelled (variant.Concrete i) x p = (x, refl, p)

-- behind its byte
pub null_begins : (ty : HeapType) {bytes xs left : List ℕ} → bytes ≡ 0x63 ∷ xs → Begins heap xs (heap_type_tree ty) left → Begins reference bytes (nullable_tree ty) left
null_begins ty e p = record {
  text = 0x63 ∷ p.text;
  spells = record { shaped = null_is ty p.spells.shaped; spelled = null_spelled ty p.text p.spells.spelled };
  reads = e ∙ ap (λ (z : List ℕ). 0x63 ∷ z) p.reads;
}

no_concrete : {bytes : List ℕ} → BeginsNone heap bytes → BeginsNone concrete_rows bytes
no_concrete {bytes = bytes} none = record { none = λ text left tree p e. go text left tree p.shaped p.spelled e }
  where
    go : (text left : List ℕ) (tree : Tree) → Is concrete_rows tree → Spelled tree text → bytes ≡ text ++ left → ⊥
    go text left tree (Is.first {t = t} d) p e =
        none.none text left (Tree.row 2 t) (record { shaped = Is.later {k = 1} (Is.later {k = 0} (Is.first d)); spelled = p }) e
    go text left tree (Is.later (Is.first {t = t} d)) p e =
        none.none text left (Tree.row 3 t) (record { shaped = Is.later {k = 2} (Is.later {k = 1} (Is.later {k = 0} (Is.first d))); spelled = p }) e
    go text left tree (Is.later (Is.later d)) p e = elim d [ ]

pub null_none : {xs : List ℕ} → BeginsNone heap xs → BeginsNone reference (0x63 ∷ xs)
null_none none =
    none_or (none_by_front refl refl)
    (none_or (none_spare (none_by_front refl refl) (none_first_rows abstracts concretes none) (no_concrete none)) none_row)

-- no heap type stands alone
pub bare_none : {c : ℕ} {bytes xs : List ℕ} → bytes ≡ c ∷ xs → c ≢ 0x64 → c ≢ 0x63 → BeginsNone abstract_rows bytes → BeginsNone reference bytes
bare_none e other another none =
    none_here e (none_or (none_seq_first (none_byte other)) (none_or (none_spare_left another (none_here (sym e) none)) none_row))
