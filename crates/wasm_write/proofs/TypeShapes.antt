-- The trees of types have the shapes of their tables.
use Rattle.std.proofs.Common.{◌≡◌, ℕ, Bool, true, false, List, [], ◌∷◌, length, map, Option, Some, None, refl, arith}
use Rattle.wasm_shapes.specs.declared.Space.TheVariants as space
use Rattle.wasm_shapes.specs.Tree.{Tree}
use Rattle.wasm_shapes.specs.Shape.{Shape, Named, choice, abstract_heap, heap, reference, storage, field, values, inner_rows, rows_and, described_rows, describing_rows, composite_rows, sub_rows, group_rows}
use Rattle.wasm_shapes.specs.Spells.{Is}
use Rattle.wasm_shapes.specs.Types.{rows_tree, mutable_of, shared_composite_tree, sub_type_of, group_of}
use Rattle.wasm_types.specs.declared.types.AbstractHeapType.{AbstractHeapType}
use Rattle.wasm_types.specs.declared.types.AbstractHeapType.TheVariants as abstract
use Rattle.wasm_write.specs.Types.{HeapType, ValType, StorageType, FieldType, type_index, abstract_tree, heap_type_tree, nullable_tree, reference_parts, val_type_tree, val_types_tree, storage_type_tree, field_type_tree, inner_tree, described_tree, describing_tree, composite_tree, supertypes_tree, sub_type_tree, group_tree}
use Rattle.wasm_types.specs.declared.types.HeapType.TheVariants as variant
use Rattle.wasm_types.specs.declared.types.ValType.TheVariants as value
use Rattle.wasm_types.specs.declared.types.StorageType.TheVariants as stored
use Rattle.wasm_write.specs.declared.types.CompositeInnerType.{CompositeInnerType}
use Rattle.wasm_write.specs.declared.types.CompositeInnerType.TheVariants as inner
use Rattle.wasm_write.specs.declared.types.CompositeType.{CompositeType}
use Rattle.wasm_write.specs.declared.types.SubType.{SubType}
use Rattle.wasm_write.specs.declared.types.RecGroup.{RecGroup}

-- ---- items

pub items_are : {A : Type 0} (s : Shape) (f : A → Tree) → ((x : A) → Is s (f x)) → (xs : List A) → Is (Shape.many s) (rows_tree (map f xs))
items_are s f each [] = Is.nil
items_are s f each (x ∷ xs) = Is.cons (each x) (items_are s f each xs)

-- the rows of a choice are rows of one with more
among : (rows others : List Shape) {t : Tree} → Is (choice rows) t → Is (choice (rows_and rows others)) t
among [] others d = elim d [ ]
among (s ∷ rows) others (Is.first d) = Is.first d
among (s ∷ rows) others (Is.later d) = Is.later (among rows others d)

-- ---- heap types

abstract_is : (ty : AbstractHeapType) → Is abstract_heap (abstract_tree ty)
abstract_is abstract.NoFunc = Is.first Is.fixed
abstract_is abstract.NoExtern = Is.later {k = 0} (Is.first Is.fixed)
abstract_is abstract.None = Is.later {k = 1} (Is.later {k = 0} (Is.first Is.fixed))
abstract_is abstract.Func = Is.later {k = 2} (Is.later {k = 1} (Is.later {k = 0} (Is.first Is.fixed)))
abstract_is abstract.Extern = Is.later {k = 3} (Is.later {k = 2} (Is.later {k = 1} (Is.later {k = 0} (Is.first Is.fixed))))
abstract_is abstract.Any = Is.later {k = 4} (Is.later {k = 3} (Is.later {k = 2} (Is.later {k = 1} (Is.later {k = 0} (Is.first Is.fixed)))))
abstract_is abstract.Eq = Is.later {k = 5} (Is.later {k = 4} (Is.later {k = 3} (Is.later {k = 2} (Is.later {k = 1} (Is.later {k = 0} (Is.first Is.fixed))))))
abstract_is abstract.I31 = Is.later {k = 6} (Is.later {k = 5} (Is.later {k = 4} (Is.later {k = 3} (Is.later {k = 2} (Is.later {k = 1} (Is.later {k = 0} (Is.first Is.fixed)))))))
abstract_is abstract.Struct = Is.later {k = 7} (Is.later {k = 6} (Is.later {k = 5} (Is.later {k = 4} (Is.later {k = 3} (Is.later {k = 2} (Is.later {k = 1} (Is.later {k = 0} (Is.first Is.fixed))))))))
abstract_is abstract.Array = Is.later {k = 8} (Is.later {k = 7} (Is.later {k = 6} (Is.later {k = 5} (Is.later {k = 4} (Is.later {k = 3} (Is.later {k = 2} (Is.later {k = 1} (Is.later {k = 0} (Is.first Is.fixed)))))))))
abstract_is abstract.Exn = Is.later {k = 9} (Is.later {k = 8} (Is.later {k = 7} (Is.later {k = 6} (Is.later {k = 5} (Is.later {k = 4} (Is.later {k = 3} (Is.later {k = 2} (Is.later {k = 1} (Is.later {k = 0} (Is.first Is.fixed))))))))))
abstract_is abstract.NoExn = Is.later {k = 10} (Is.later {k = 9} (Is.later {k = 8} (Is.later {k = 7} (Is.later {k = 6} (Is.later {k = 5} (Is.later {k = 4} (Is.later {k = 3} (Is.later {k = 2} (Is.later {k = 1} (Is.later {k = 0} (Is.first Is.fixed)))))))))))
abstract_is abstract.Cont = Is.later {k = 11} (Is.later {k = 10} (Is.later {k = 9} (Is.later {k = 8} (Is.later {k = 7} (Is.later {k = 6} (Is.later {k = 5} (Is.later {k = 4} (Is.later {k = 3} (Is.later {k = 2} (Is.later {k = 1} (Is.later {k = 0} (Is.first Is.fixed))))))))))))
abstract_is abstract.NoCont = Is.later {k = 12} (Is.later {k = 11} (Is.later {k = 10} (Is.later {k = 9} (Is.later {k = 8} (Is.later {k = 7} (Is.later {k = 6} (Is.later {k = 5} (Is.later {k = 4} (Is.later {k = 3} (Is.later {k = 2} (Is.later {k = 1} (Is.later {k = 0} (Is.first Is.fixed)))))))))))))

pub heap_is : (ty : HeapType) → Is heap (heap_type_tree ty)
heap_is (variant.Abstract false ty) = Is.first (abstract_is ty)
heap_is (variant.Abstract true ty) = Is.later {k = 0} (Is.first (Is.seq Is.fixed (abstract_is ty)))
heap_is (variant.Exact i) = Is.later {k = 1} (Is.later {k = 0} (Is.first (Is.seq Is.fixed Is.ix)))
heap_is (variant.Concrete i) = Is.later {k = 2} (Is.later {k = 1} (Is.later {k = 0} (Is.first Is.sx)))

-- ---- reference and value types

nullable_is : (ty : HeapType) → Is reference (nullable_tree ty)
nullable_is (variant.Abstract false ty) = Is.later {k = 0} (Is.first (Is.spare (Is.first (abstract_is ty))))
nullable_is (variant.Abstract true ty) = Is.later {k = 0} (Is.first (Is.spare (Is.later {k = 0} (Is.first (Is.seq Is.fixed (abstract_is ty))))))
nullable_is (variant.Exact i) = Is.later {k = 0} (Is.first (Is.kept (Is.first (Is.seq Is.fixed Is.ix))))
nullable_is (variant.Concrete i) = Is.later {k = 0} (Is.first (Is.kept (Is.later {k = 0} (Is.first Is.sx))))

pub reference_is : (nullable : Bool) (ty : HeapType) → Is reference (reference_parts nullable ty)
reference_is false ty = Is.first (Is.seq Is.fixed (heap_is ty))
reference_is true ty = nullable_is ty

pub value_is : (ty : ValType) → Is (Shape.ref Named.value) (val_type_tree ty)
value_is value.I32 = Is.ref (Is.first Is.fixed)
value_is value.I64 = Is.ref (Is.later {k = 0} (Is.first Is.fixed))
value_is value.F32 = Is.ref (Is.later {k = 1} (Is.later {k = 0} (Is.first Is.fixed)))
value_is value.F64 = Is.ref (Is.later {k = 2} (Is.later {k = 1} (Is.later {k = 0} (Is.first Is.fixed))))
value_is value.V128 = Is.ref (Is.later {k = 3} (Is.later {k = 2} (Is.later {k = 1} (Is.later {k = 0} (Is.first Is.fixed)))))
value_is (value.Ref ty) = Is.ref (Is.later {k = 4} (Is.later {k = 3} (Is.later {k = 2} (Is.later {k = 1} (Is.later {k = 0} (Is.first (reference_is ty.nullable ty.heap_type)))))))

-- ---- fields

storage_is : (ty : StorageType) → Is storage (storage_type_tree ty)
storage_is stored.I8 = Is.first Is.fixed
storage_is stored.I16 = Is.later {k = 0} (Is.first Is.fixed)
storage_is (stored.Val ty) = Is.later {k = 1} (Is.later {k = 0} (Is.first (value_is ty)))

mutable_is : (m : Bool) → Is (Shape.or (Shape.fixed 0) (Shape.or (Shape.fixed 1) Shape.none)) (mutable_of m)
mutable_is false = Is.first Is.fixed
mutable_is true = Is.later {k = 0} (Is.first Is.fixed)

pub field_is : (ty : FieldType) → Is field (field_type_tree ty)
field_is ty = Is.seq (storage_is ty.element_type) (mutable_is ty.mutable)

-- ---- composite types

pub values_are : (types : List ValType) → Is values (val_types_tree types)
values_are types = Is.vec (items_are (Shape.ref Named.value) val_type_tree value_is types)

inner_is : (ty : CompositeInnerType) → Is (choice inner_rows) (inner_tree ty)
inner_is (inner.Func ty) = Is.first (Is.seq Is.fixed (Is.seq (values_are ty.params) (values_are ty.results)))
inner_is (inner.Array ty) = Is.later {k = 0} (Is.first (Is.seq Is.fixed (field_is ty.0)))
inner_is (inner.Struct ty) = Is.later {k = 1} (Is.later {k = 0} (Is.first (Is.seq Is.fixed (Is.vec (items_are field field_type_tree field_is ty.fields)))))
inner_is (inner.Cont ty) = Is.later {k = 2} (Is.later {k = 1} (Is.later {k = 0} (Is.first (Is.seq Is.fixed Is.sx))))

described_is : (descriptor : Option ℕ) {t : Tree} → Is (choice inner_rows) t → Is (choice described_rows) (described_tree descriptor t)
described_is None d = among inner_rows (Shape.swap (Shape.seq (Shape.fixed 0x4d) (Shape.ix space.Type_)) (choice inner_rows) ∷ []) d
described_is (Some i) d = Is.later {k = 3} (Is.later {k = 2} (Is.later {k = 1} (Is.later {k = 0} (Is.first (Is.swap (Is.seq Is.fixed Is.ix) d)))))

describing_is : (describes : Option ℕ) {t : Tree} → Is (choice described_rows) t → Is (choice describing_rows) (describing_tree describes t)
describing_is None d = among described_rows (Shape.swap (Shape.seq (Shape.fixed 0x4c) (Shape.ix space.Type_)) (choice described_rows) ∷ []) d
describing_is (Some i) d = Is.later {k = 4} (Is.later {k = 3} (Is.later {k = 2} (Is.later {k = 1} (Is.later {k = 0} (Is.first (Is.swap (Is.seq Is.fixed Is.ix) d))))))

shared_is : (shared : Bool) {t : Tree} → Is (choice describing_rows) t → Is (choice composite_rows) (shared_composite_tree shared t)
shared_is false d = among describing_rows (Shape.seq (Shape.fixed 0x65) (choice describing_rows) ∷ []) d
shared_is true d = Is.later {k = 5} (Is.later {k = 4} (Is.later {k = 3} (Is.later {k = 2} (Is.later {k = 1} (Is.later {k = 0} (Is.first (Is.seq Is.fixed d)))))))

composite_is : (ty : CompositeType) → Is (choice composite_rows) (composite_tree ty)
composite_is ty = shared_is ty.shared (describing_is ty.describes (described_is ty.descriptor (inner_is ty.inner)))

-- ---- subtypes and groups

supertypes_are : (supertypes : List ℕ) → Is (Shape.vec (Shape.ix space.Type_)) (supertypes_tree supertypes)
supertypes_are supertypes = Is.vec (items_are (Shape.ix space.Type_) type_index (λ i. Is.ix) supertypes)

sub_of_is : (is_final : Bool) (supertypes : List ℕ) {t : Tree} → Is (choice composite_rows) t → Is (choice sub_rows) (sub_type_of is_final (map type_index supertypes) t)
sub_of_is true is d = Is.first (Is.final (items_are (Shape.ix space.Type_) type_index (λ i. Is.ix) is) (Is.ref d))
sub_of_is false is d = Is.later {k = 0} (Is.first (Is.seq Is.fixed (Is.seq (supertypes_are is) (Is.ref d))))

sub_is : (ty : SubType) → Is (choice sub_rows) (sub_type_tree ty)
sub_is ty = sub_of_is ty.is_final ty.supertype_idxs (composite_is ty.composite_type)

group_of_is : (explicit : Bool) (types : List SubType) → (explicit ≡ false → length types ≡ 1) → Is (choice group_rows) (group_of explicit (map sub_type_tree types))
group_of_is true types h =
    Is.later {k = 1} (Is.later {k = 0} (Is.first (Is.seq Is.fixed (Is.vec (items_are (Shape.ref Named.sub) sub_type_tree (λ ty. Is.ref (sub_is ty)) types)))))
group_of_is false (ty ∷ types) h = among sub_rows (Shape.seq (Shape.fixed 0x4e) (Shape.vec (Shape.ref Named.sub)) ∷ []) (sub_is ty)
group_of_is false [] h = absurd (omega (arith, h refl))

pub group_is : (group : RecGroup) → Is (Shape.ref Named.group) (group_tree group)
group_is group = Is.ref (group_of_is group.explicit group.types group.bare_holds_one)
