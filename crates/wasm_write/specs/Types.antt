-- The trees that the types of a core module stand for, as they are written (WebAssembly Core Specification 3.0,
-- section 5.3). Each is of the table with all its rows.
use Rattle.std.specs.Prelude.{ℕ, Bool, List, map, Option, option_map}
use Rattle.wasm_shapes.specs.declared.Space.TheVariants as space
use Rattle.wasm_shapes.specs.Tree.{Tree}
use Rattle.wasm_shapes.specs.Types.{led, vector_tree, behind_descriptor, behind_described, shared_composite_tree, sub_type_of, group_of, table_of, memory_of, global_of}
use Rattle.wasm_types.specs.declared.types.FieldType as field_type
use Rattle.wasm_types.specs.declared.types.FuncType as func_type
use Rattle.wasm_types.specs.declared.types.HeapType as heap_type
use Rattle.wasm_types.specs.declared.types.RefType as ref_type
use Rattle.wasm_types.specs.declared.types.StorageType as storage_type
use Rattle.wasm_types.specs.declared.types.ValType as val_type
use Rattle.wasm_types.specs.Types as of
use Rattle.wasm_types.specs.Types.{Indices}
pub use Rattle.wasm_types.specs.Types.{abstract_tree, tag_type_tree, custom_tree as custom_section_tree}
use Rattle.wasm_write.specs.declared.types.CompositeInnerType.{CompositeInnerType}
use Rattle.wasm_write.specs.declared.types.CompositeInnerType.TheVariants as inner
use Rattle.wasm_write.specs.declared.types.CompositeType.{CompositeType}
use Rattle.wasm_write.specs.declared.types.SubType.{SubType}
use Rattle.wasm_write.specs.declared.types.RecGroup.{RecGroup}
use Rattle.wasm_write.specs.declared.types.TableType.{TableType}
use Rattle.wasm_write.specs.declared.types.MemoryType.{MemoryType}
use Rattle.wasm_write.specs.declared.types.GlobalType.{GlobalType}
use Rattle.wasm_write.specs.declared.types.EntityType.{EntityType}
use Rattle.wasm_write.specs.declared.types.EntityType.TheVariants as entity

-- an index of a type, spelled without sign and with one
abbrev pub type_index : ℕ → Tree
type_index i = Tree.ix space.Type_ i

abbrev pub signed_index : ℕ → Tree
signed_index i = Tree.sx space.Type_ i

-- ---- types by this kind of index

abbrev pub HeapType : Type 0
HeapType = heap_type.HeapType ℕ

abbrev pub RefType : Type 0
RefType = ref_type.RefType ℕ

abbrev pub ValType : Type 0
ValType = val_type.ValType ℕ

abbrev pub StorageType : Type 0
StorageType = storage_type.StorageType ℕ

abbrev pub FieldType : Type 0
FieldType = field_type.FieldType ℕ

abbrev pub FuncType : Type 0
FuncType = func_type.FuncType ℕ

abbrev pub indices : Indices ℕ
indices = record { unsigned = type_index; signed = signed_index }

abbrev pub heap_type_tree : HeapType → Tree
heap_type_tree ty = of.heap_type_tree indices ty

abbrev pub nullable_tree : HeapType → Tree
nullable_tree ty = of.nullable_tree indices ty

abbrev pub reference_parts : Bool → HeapType → Tree
reference_parts nullable ty = of.reference_parts indices nullable ty

abbrev pub ref_type_tree : RefType → Tree
ref_type_tree ty = of.ref_type_tree indices ty

abbrev pub val_type_tree : ValType → Tree
val_type_tree ty = of.val_type_tree indices ty

abbrev pub val_types_tree : List ValType → Tree
val_types_tree types = vector_tree (map val_type_tree types)

abbrev pub storage_type_tree : StorageType → Tree
storage_type_tree ty = of.storage_type_tree indices ty

abbrev pub field_type_tree : FieldType → Tree
field_type_tree ty = of.field_type_tree indices ty

abbrev pub fields_tree : List FieldType → Tree
fields_tree fields = vector_tree (map field_type_tree fields)

abbrev pub func_type_tree : FuncType → Tree
func_type_tree ty = Tree.pair (val_types_tree ty.params) (val_types_tree ty.results)

-- ---- composite types

abbrev pub inner_tree : CompositeInnerType → Tree
inner_tree (inner.Func ty) = Tree.row 0 (led 0x60 (func_type_tree ty))
inner_tree (inner.Array ty) = Tree.row 1 (led 0x5e (field_type_tree ty.0))
inner_tree (inner.Struct ty) = Tree.row 2 (led 0x5f (fields_tree ty.fields))
inner_tree (inner.Cont ty) = Tree.row 3 (led 0x5d (signed_index ty.0))

-- behind its descriptor, where it has one
abbrev pub described_tree : Option ℕ → Tree → Tree
described_tree descriptor t = behind_descriptor (option_map type_index descriptor) t

-- behind what it describes, where it describes a type
abbrev pub describing_tree : Option ℕ → Tree → Tree
describing_tree describes t = behind_described (option_map type_index describes) t

-- one that is not shared
abbrev pub unshared_tree : CompositeType → Tree
unshared_tree ty = describing_tree ty.describes (described_tree ty.descriptor (inner_tree ty.inner))

abbrev pub composite_tree : CompositeType → Tree
composite_tree ty = shared_composite_tree ty.shared (unshared_tree ty)

-- ---- subtypes and groups

abbrev pub supertypes_tree : List ℕ → Tree
supertypes_tree supertypes = vector_tree (map type_index supertypes)

-- the supertypes and the composite type of a subtype
abbrev pub parts_tree : SubType → Tree
parts_tree ty = Tree.pair (supertypes_tree ty.supertype_idxs) (composite_tree ty.composite_type)

abbrev pub sub_type_tree : SubType → Tree
sub_type_tree ty = sub_type_of ty.is_final (map type_index ty.supertype_idxs) (composite_tree ty.composite_type)

abbrev pub group_tree : RecGroup → Tree
group_tree group = group_of group.explicit (map sub_type_tree group.types)

-- ---- what is imported

abbrev pub table_type_tree : TableType → Tree
table_type_tree ty = table_of (ref_type_tree ty.element_type) ty.shared ty.table64 ty.minimum ty.maximum

abbrev pub memory_type_tree : MemoryType → Tree
memory_type_tree ty = memory_of ty.shared ty.memory64 ty.minimum ty.maximum ty.page_size_log2

abbrev pub global_type_tree : GlobalType → Tree
global_type_tree ty = global_of (val_type_tree ty.val_type) ty.mutable ty.shared

abbrev pub entity_tree : EntityType → Tree
entity_tree (entity.Function i) = Tree.row 0 (led 0x00 (type_index i))
entity_tree (entity.Table ty) = Tree.row 1 (led 0x01 (table_type_tree ty))
entity_tree (entity.Memory ty) = Tree.row 2 (led 0x02 (memory_type_tree ty))
entity_tree (entity.Global ty) = Tree.row 3 (led 0x03 (global_type_tree ty))
entity_tree (entity.Tag ty) = Tree.row 4 (led 0x04 (tag_type_tree ty))
entity_tree (entity.FunctionExact i) = Tree.row 5 (led 0x20 (type_index i))
