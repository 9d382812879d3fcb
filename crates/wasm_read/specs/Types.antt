-- The trees that the types and rows of a core module stand for, as they are read (WebAssembly Core Specification 3.0,
-- section 5.3). An index inside a recursion group stands for a leaf that no shape has.
use Rattle.std.specs.Prelude.{◌≡◌, ◌⊎◌, ℕ, Bool, List, [], ◌∷◌, map, Option, Some, None}
use Rattle.std.specs.Option.{option_map}
use Rattle.wasm_leb.specs.Place.{BeginsNumber}
use Rattle.wasm_shapes.specs.declared.Space.TheVariants as space
use Rattle.wasm_shapes.specs.Tree.{Tree}
use Rattle.wasm_shapes.specs.Shape.{Shape}
use Rattle.wasm_shapes.specs.Place.{Begins}
use Rattle.wasm_shapes.specs.Module.{unnamed}
use Rattle.wasm_shapes.specs.Types.{behind_descriptor, behind_described, sub_type_of, group_of, table_of, memory_of, global_of, null_table_of, table_with_init_of, global_with_init_of, import_of, item_import_of, compact_items_of, compact_names_of, item_of, Items, items_of, passive_of, declared_of, active_of, active_data_of, passive_data_tree}
pub use Rattle.wasm_shapes.specs.Types.{no_reading, led, vector_tree, shared_tree, mutable_of, shared_composite_tree, flag, limits_flags, bounds_tree, paged_tree, limits_tree, global_flags, function_tree}
use Rattle.wasm_types.specs.declared.types.FieldType as field_type
use Rattle.wasm_types.specs.declared.types.FuncType as func_type
use Rattle.wasm_types.specs.declared.types.HeapType as heap_type
use Rattle.wasm_types.specs.declared.types.RefType as ref_type
use Rattle.wasm_types.specs.declared.types.StorageType as storage_type
use Rattle.wasm_types.specs.declared.types.ValType as val_type
use Rattle.wasm_types.specs.Types as of
use Rattle.wasm_types.specs.Types.{Indices}
use Rattle.wasm_types.specs.declared.types.HeapType.TheVariants as heap
pub use Rattle.wasm_types.specs.Types.{abstract_tree, is_funcref, tag_type_tree, custom_tree}
use Rattle.wasm_read.specs.declared.types.UnpackedIndex.{UnpackedIndex}
use Rattle.wasm_read.specs.declared.types.UnpackedIndex.TheVariants as unpacked
use Rattle.wasm_types.specs.declared.types.AbstractHeapType.{AbstractHeapType}
use Rattle.wasm_types.specs.declared.types.AbstractHeapType.TheVariants as abstract
use Rattle.wasm_read.specs.declared.types.CompositeInnerType.{CompositeInnerType}
use Rattle.wasm_read.specs.declared.types.CompositeInnerType.TheVariants as inner
use Rattle.wasm_read.specs.declared.types.CompositeType.{CompositeType}
use Rattle.wasm_read.specs.declared.types.SubType.{SubType}
use Rattle.wasm_read.specs.declared.types.RecGroup.{RecGroup}
use Rattle.wasm_read.specs.declared.types.ExternalKind.{ExternalKind}
use Rattle.wasm_read.specs.declared.types.ExternalKind.TheVariants as external
use Rattle.wasm_read.specs.declared.types.Export.{Export}
use Rattle.wasm_read.specs.declared.types.TableType.{TableType}
use Rattle.wasm_read.specs.declared.types.MemoryType.{MemoryType}
use Rattle.wasm_read.specs.declared.types.GlobalType.{GlobalType}
use Rattle.wasm_read.specs.declared.types.TypeRef.{TypeRef}
use Rattle.wasm_read.specs.declared.types.TypeRef.TheVariants as entity
use Rattle.wasm_read.specs.declared.types.ImportCompact.{ImportCompact}
use Rattle.wasm_read.specs.declared.types.Imports.{Imports}
use Rattle.wasm_read.specs.declared.types.Imports.TheVariants as imported
use Rattle.wasm_read.specs.declared.types.Table.{Table}
use Rattle.wasm_read.specs.declared.types.TableInit.{TableInit}
use Rattle.wasm_read.specs.declared.types.TableInit.TheVariants as init
use Rattle.wasm_read.specs.declared.types.Global.{Global}
use Rattle.wasm_read.specs.declared.types.ElementItems.{ElementItems}
use Rattle.wasm_read.specs.declared.types.ElementItems.TheVariants as items
use Rattle.wasm_read.specs.declared.types.ElementKind.{ElementKind}
use Rattle.wasm_read.specs.declared.types.ElementKind.TheVariants as element
use Rattle.wasm_read.specs.declared.types.Element.{Element}
use Rattle.wasm_read.specs.declared.types.DataKind.{DataKind}
use Rattle.wasm_read.specs.declared.types.DataKind.TheVariants as segment
use Rattle.wasm_read.specs.declared.types.Data.{Data}
use Rattle.wasm_read.specs.Expressions.{expr_tree}

-- the index of the module
abbrev pub module_index : UnpackedIndex → Option ℕ
module_index (unpacked.Module i) = Some i
module_index (unpacked.RecGroup i) = None

-- an index of a type, spelled without sign and with one
abbrev pub type_index : UnpackedIndex → Tree
type_index (unpacked.Module i) = Tree.ix space.Type_ i
type_index (unpacked.RecGroup i) = Tree.canonical i

abbrev pub signed_index : UnpackedIndex → Tree
signed_index (unpacked.Module i) = Tree.sx space.Type_ i
signed_index (unpacked.RecGroup i) = Tree.canonical i

-- ---- types by this kind of index

abbrev pub HeapType : Type 0
HeapType = heap_type.HeapType UnpackedIndex

abbrev pub RefType : Type 0
RefType = ref_type.RefType UnpackedIndex

abbrev pub ValType : Type 0
ValType = val_type.ValType UnpackedIndex

abbrev pub StorageType : Type 0
StorageType = storage_type.StorageType UnpackedIndex

abbrev pub FieldType : Type 0
FieldType = field_type.FieldType UnpackedIndex

abbrev pub FuncType : Type 0
FuncType = func_type.FuncType UnpackedIndex

abbrev pub indices : Indices UnpackedIndex
indices = record { unsigned = type_index; signed = signed_index }

abbrev pub heap_type_tree : HeapType → Tree
heap_type_tree ty = of.heap_type_tree indices ty

abbrev pub nullable_tree : HeapType → Tree
nullable_tree ty = of.nullable_tree indices ty

abbrev pub reference_parts : Bool → HeapType → Tree
reference_parts nullable ty = of.reference_parts indices nullable ty

abbrev pub ref_type_tree : RefType → Tree
ref_type_tree ty = of.ref_type_tree indices ty

abbrev pub val_type_tree : ValType → Tree
val_type_tree ty = of.val_type_tree indices ty

abbrev pub val_types_tree : List ValType → Tree
val_types_tree types = of.val_types_tree indices types

abbrev pub storage_type_tree : StorageType → Tree
storage_type_tree ty = of.storage_type_tree indices ty

abbrev pub field_type_tree : FieldType → Tree
field_type_tree ty = of.field_type_tree indices ty

abbrev pub fields_tree : List FieldType → Tree
fields_tree fields = of.fields_tree indices fields

abbrev pub func_type_tree : FuncType → Tree
func_type_tree ty = of.func_type_tree indices ty

-- ---- heap types

-- the byte that spells an abstract heap type
abbrev pub abstract_byte : AbstractHeapType → ℕ
abstract_byte abstract.NoFunc = 0x73
abstract_byte abstract.NoExtern = 0x72
abstract_byte abstract.None = 0x71
abstract_byte abstract.Func = 0x70
abstract_byte abstract.Extern = 0x6f
abstract_byte abstract.Any = 0x6e
abstract_byte abstract.Eq = 0x6d
abstract_byte abstract.I31 = 0x6c
abstract_byte abstract.Struct = 0x6b
abstract_byte abstract.Array = 0x6a
abstract_byte abstract.Exn = 0x69
abstract_byte abstract.NoExn = 0x74
abstract_byte abstract.Cont = 0x68
abstract_byte abstract.NoCont = 0x75

-- one that names a type of the module
abbrev pub concrete_tree : HeapType → Tree
concrete_tree (heap.Abstract shared ty) = no_reading
concrete_tree (heap.Exact i) = Tree.row 0 (led 0x62 (type_index i))
concrete_tree (heap.Concrete i) = Tree.row 1 (signed_index i)

-- ---- composite types

abbrev pub inner_tree : CompositeInnerType → Tree
inner_tree (inner.Func ty) = Tree.row 0 (led 0x60 (func_type_tree ty))
inner_tree (inner.Array ty) = Tree.row 1 (led 0x5e (field_type_tree ty.0))
inner_tree (inner.Struct ty) = Tree.row 2 (led 0x5f (fields_tree ty.fields))
inner_tree (inner.Cont ty) = Tree.row 3 (led 0x5d (signed_index ty.0))

-- behind its descriptor, where it has one
abbrev pub described_tree : Option UnpackedIndex → Tree → Tree
described_tree i t = behind_descriptor (option_map type_index i) t

-- behind what it describes, where it describes a type
abbrev pub describing_tree : Option UnpackedIndex → Tree → Tree
describing_tree i t = behind_described (option_map type_index i) t

abbrev pub composite_tree : CompositeType → Tree
composite_tree ty =
    shared_composite_tree ty.shared (describing_tree ty.describes_idx (described_tree ty.descriptor_idx (inner_tree ty.inner)))

-- ---- subtypes and groups

-- supertypes behind their number
abbrev pub supertypes_tree : List UnpackedIndex → Tree
supertypes_tree supertypes = vector_tree (map type_index supertypes)

-- a final type or an open one, with its supertypes
abbrev pub sub_parts : Bool → List UnpackedIndex → Tree → Tree
sub_parts is_final is t = sub_type_of is_final (map type_index is) t

abbrev pub sub_type_tree : SubType → Tree
sub_type_tree ty = sub_parts ty.is_final ty.supertype_idxs (composite_tree ty.composite_type)

-- the types of a group, as one that is explicit or as one that is a type alone
abbrev pub group_parts : Bool → List SubType → Tree
group_parts explicit types = group_of explicit (map sub_type_tree types)

abbrev pub group_tree : RecGroup → Tree
group_tree group = group_parts group.explicit group.types

-- ---- what is imported

abbrev pub table_type_tree : TableType → Tree
table_type_tree ty = table_of (ref_type_tree ty.element_type) ty.shared ty.table64 ty.initial ty.maximum

abbrev pub memory_type_tree : MemoryType → Tree
memory_type_tree ty = memory_of ty.shared ty.memory64 ty.initial ty.maximum ty.page_size_log2

abbrev pub global_type_tree : GlobalType → Tree
global_type_tree ty = global_of (val_type_tree ty.content_type) ty.mutable ty.shared

abbrev pub entity_tree : TypeRef → Tree
entity_tree (entity.Func i) = Tree.row 0 (led 0x00 (Tree.ix space.Type_ i))
entity_tree (entity.FuncExact i) = Tree.row 5 (led 0x20 (Tree.ix space.Type_ i))
entity_tree (entity.Table ty) = Tree.row 1 (led 0x01 (table_type_tree ty))
entity_tree (entity.Memory ty) = Tree.row 2 (led 0x02 (memory_type_tree ty))
entity_tree (entity.Global ty) = Tree.row 3 (led 0x03 (global_type_tree ty))
entity_tree (entity.Tag ty) = Tree.row 4 (led 0x04 (tag_type_tree ty))

-- ---- rows

-- a name in a module that is known, and the type of what is imported under it
abbrev pub compact_tree : ImportCompact → Tree
compact_tree item = item_import_of item.name.now (entity_tree item.ty)

-- a module's name, a name in it, and the type of what is imported; or a compact row
abbrev pub import_tree : Imports → Tree
import_tree (imported.Single row) = import_of row.module.now row.name.now (entity_tree row.ty)
import_tree (imported.Compact1 «module» items) = compact_items_of «module».now items
import_tree (imported.Compact2 «module» ty names) = compact_names_of «module».now (entity_tree ty) names

-- behind an empty name the bytes begin with what makes this an import from the module
pub record IsUnnamed (from bytes : List ℕ) (t : Tree) (left : List ℕ) : Type 0 where
  pub what : Tree
  pub whole : t ≡ import_of from [] what
  pub begins : Begins unnamed bytes what left

-- a table that starts with null references, or with the value of an expression
abbrev pub table_parts : TableInit → TableType → Tree
table_parts init.RefNull ty = null_table_of (table_type_tree ty)
table_parts (init.Expr e) ty = table_with_init_of (table_type_tree ty) (expr_tree e)

abbrev pub table_tree : Table → Tree
table_tree row = table_parts row.init row.ty

-- a global and the expression of its first value
abbrev pub global_tree : Global → Tree
global_tree row = global_with_init_of (global_type_tree row.ty) (expr_tree row.init_expr)

-- what is exported, of a kind and by its index: an exact function stands for what a function stands for
abbrev pub item_tree : ExternalKind → ℕ → Tree
item_tree external.Func i = item_of space.Function i
item_tree external.FuncExact i = item_of space.Function i
item_tree external.Table i = item_of space.Table i
item_tree external.Memory i = item_of space.Memory i
item_tree external.Global i = item_of space.Global i
item_tree external.Tag i = item_of space.Tag i

-- the byte of a kind: an exact function has one of its own
abbrev pub kind_byte : ExternalKind → ℕ
kind_byte external.Func = 0x00
kind_byte external.FuncExact = 0x20
kind_byte external.Table = 0x01
kind_byte external.Memory = 0x02
kind_byte external.Global = 0x03
kind_byte external.Tag = 0x04

-- the bytes begin with the byte of the kind
abbrev pub SaysKind : ExternalKind → List ℕ → Type 0
SaysKind kind bytes = (rest : List ℕ) × (bytes ≡ kind_byte kind ∷ rest)

abbrev pub export_tree : Export → Tree
export_tree row = Tree.pair (Tree.name row.name.now) (item_tree row.kind row.index)

-- the byte behind the name is that of the kind
pub record ExportKind (bytes : List ℕ) (row : Export) : Type 0 where
  pub rest : List ℕ
  pub named : Begins Shape.name bytes (Tree.name row.name.now) rest
  pub says : SaysKind row.kind rest

-- ---- element segments

-- what a segment lists
abbrev pub listed_items : ElementItems → Items
listed_items (items.Functions is) = Items.functions is
listed_items (items.Expressions ty es) = Items.expressions (is_funcref ty) (ref_type_tree ty) (map expr_tree es)

-- functions behind their number, or expressions behind their type and their number
abbrev pub element_items_tree : ElementItems → Tree
element_items_tree row = items_of (listed_items row)

-- by its kind
abbrev pub element_parts : ElementKind → Items → Tree
element_parts (element.Active table offset) row = active_of table (expr_tree offset) row
element_parts element.Passive row = passive_of row
element_parts element.Declared row = declared_of row

abbrev pub element_tree : Element → Tree
element_tree row = element_parts row.kind (listed_items row.items)

-- An active segment leaves its table out with the flags 0 and 4, and names it with 2 and 6.
abbrev pub FlagSays : ElementKind → ℕ → Type 0
FlagSays (element.Active None offset) flag = (flag ≡ 0) ⊎ (flag ≡ 4)
FlagSays (element.Active (Some table) offset) flag = (flag ≡ 2) ⊎ (flag ≡ 6)
FlagSays element.Passive flag = Unit {0}
FlagSays element.Declared flag = Unit {0}

-- the flag in front of a segment says whether the segment has a table of its own
pub record ElementFlag (bytes : List ℕ) (row : Element) : Type 0 where
  pub flag : ℕ
  pub rest : List ℕ
  pub flagged : BeginsNumber 128 32 32 bytes flag rest
  pub says : FlagSays row.kind flag

-- a data segment: placed in a memory, or passive
abbrev pub data_parts : DataKind → List ℕ → Tree
data_parts (segment.Active memory offset) bytes = active_data_of memory (expr_tree offset) bytes
data_parts segment.Passive bytes = passive_data_tree bytes

abbrev pub data_tree : Data → Tree
data_tree row = data_parts row.kind row.contents.now
