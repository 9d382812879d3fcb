-- The trees that the types of a core module stand for (WebAssembly Core Specification 3.0, section 5.3), whatever the kind
-- of their type indices. Each is of the table with all its rows.
use Rattle.std.specs.Prelude.{ℕ, Bool, true, false, ◌&&◌, List, map}
use Rattle.wasm_shapes.specs.Tree.{Tree}
use Rattle.wasm_shapes.specs.Types.{led, vector_tree, shared_tree, mutable_of, tag_of}
use Rattle.wasm_types.specs.declared.types.AbstractHeapType.{AbstractHeapType}
use Rattle.wasm_types.specs.declared.types.AbstractHeapType.TheVariants as abstract
use Rattle.wasm_types.specs.declared.types.CustomSection.{CustomSection}
use Rattle.wasm_types.specs.declared.types.FieldType.{FieldType}
use Rattle.wasm_types.specs.declared.types.FuncType.{FuncType}
use Rattle.wasm_types.specs.declared.types.HeapType.{HeapType}
use Rattle.wasm_types.specs.declared.types.HeapType.TheVariants as heap
use Rattle.wasm_types.specs.declared.types.RefType.{RefType}
use Rattle.wasm_types.specs.declared.types.StorageType.{StorageType}
use Rattle.wasm_types.specs.declared.types.StorageType.TheVariants as stored
use Rattle.wasm_types.specs.declared.types.TagType.{TagType}
use Rattle.wasm_types.specs.declared.types.ValType.{ValType}
use Rattle.wasm_types.specs.declared.types.ValType.TheVariants as value

-- what an index of a type stands for, spelled without sign and with one
pub record Indices (I : Type 0) : Type 0 where
  pub unsigned : I → Tree
  pub signed : I → Tree

-- ---- heap types

abbrev pub abstract_tree : AbstractHeapType → Tree
abstract_tree abstract.NoFunc = Tree.row 0 (Tree.fixed 0x73)
abstract_tree abstract.NoExtern = Tree.row 1 (Tree.fixed 0x72)
abstract_tree abstract.None = Tree.row 2 (Tree.fixed 0x71)
abstract_tree abstract.Func = Tree.row 3 (Tree.fixed 0x70)
abstract_tree abstract.Extern = Tree.row 4 (Tree.fixed 0x6f)
abstract_tree abstract.Any = Tree.row 5 (Tree.fixed 0x6e)
abstract_tree abstract.Eq = Tree.row 6 (Tree.fixed 0x6d)
abstract_tree abstract.I31 = Tree.row 7 (Tree.fixed 0x6c)
abstract_tree abstract.Struct = Tree.row 8 (Tree.fixed 0x6b)
abstract_tree abstract.Array = Tree.row 9 (Tree.fixed 0x6a)
abstract_tree abstract.Exn = Tree.row 10 (Tree.fixed 0x69)
abstract_tree abstract.NoExn = Tree.row 11 (Tree.fixed 0x74)
abstract_tree abstract.Cont = Tree.row 12 (Tree.fixed 0x68)
abstract_tree abstract.NoCont = Tree.row 13 (Tree.fixed 0x75)

-- any function
abbrev pub are_functions : {I : Type 0} → HeapType I → Bool
are_functions (heap.Abstract false abstract.Func) = true
are_functions _ = false

-- whether a type is that of references to functions that may be null
abbrev pub is_funcref : {I : Type 0} → RefType I → Bool
is_funcref ty = ty.nullable && are_functions ty.heap_type

module _ {I : Type 0} (indices : Indices I) where
  abbrev pub heap_type_tree : HeapType I → Tree
  heap_type_tree (heap.Abstract shared ty) = shared_tree shared (abstract_tree ty)
  heap_type_tree (heap.Exact i) = Tree.row 2 (led 0x62 (indices.unsigned i))
  heap_type_tree (heap.Concrete i) = Tree.row 3 (indices.signed i)

  -- ---- reference and value types

  -- one that may be null: as its heap type alone where that is abstract
  abbrev pub nullable_tree : HeapType I → Tree
  nullable_tree (heap.Abstract shared ty) = Tree.row 1 (Tree.spare 0x63 (shared_tree shared (abstract_tree ty)))
  nullable_tree (heap.Exact i) = Tree.row 1 (Tree.kept 0x63 (Tree.row 0 (led 0x62 (indices.unsigned i))))
  nullable_tree (heap.Concrete i) = Tree.row 1 (Tree.kept 0x63 (Tree.row 1 (indices.signed i)))

  abbrev pub reference_parts : Bool → HeapType I → Tree
  reference_parts false ty = Tree.row 0 (led 0x64 (heap_type_tree ty))
  reference_parts true ty = nullable_tree ty

  abbrev pub ref_type_tree : RefType I → Tree
  ref_type_tree ty = reference_parts ty.nullable ty.heap_type

  abbrev pub val_type_tree : ValType I → Tree
  val_type_tree value.I32 = Tree.row 0 (Tree.fixed 0x7f)
  val_type_tree value.I64 = Tree.row 1 (Tree.fixed 0x7e)
  val_type_tree value.F32 = Tree.row 2 (Tree.fixed 0x7d)
  val_type_tree value.F64 = Tree.row 3 (Tree.fixed 0x7c)
  val_type_tree value.V128 = Tree.row 4 (Tree.fixed 0x7b)
  val_type_tree (value.Ref ty) = Tree.row 5 (ref_type_tree ty)

  -- value types behind their number
  abbrev pub val_types_tree : List (ValType I) → Tree
  val_types_tree types = vector_tree (map val_type_tree types)

  -- so many locals of a type
  abbrev pub local_tree : ℕ × ValType I → Tree
  local_tree l = Tree.pair (Tree.u32 l.0) (val_type_tree l.1)

  -- ---- fields and functions

  abbrev pub storage_type_tree : StorageType I → Tree
  storage_type_tree stored.I8 = Tree.row 0 (Tree.fixed 0x78)
  storage_type_tree stored.I16 = Tree.row 1 (Tree.fixed 0x77)
  storage_type_tree (stored.Val ty) = Tree.row 2 (val_type_tree ty)

  abbrev pub field_type_tree : FieldType I → Tree
  field_type_tree ty = Tree.pair (storage_type_tree ty.element_type) (mutable_of ty.mutable)

  -- fields behind their number
  abbrev pub fields_tree : List (FieldType I) → Tree
  fields_tree fields = vector_tree (map field_type_tree fields)

  abbrev pub func_type_tree : FuncType I → Tree
  func_type_tree ty = Tree.pair (val_types_tree ty.params) (val_types_tree ty.results)

-- ---- tags and custom sections

abbrev pub tag_type_tree : TagType → Tree
tag_type_tree ty = tag_of ty.func_type_idx

-- a custom section as it is, whatever its name: its name and its contents
abbrev pub custom_tree : CustomSection → Tree
custom_tree section = Tree.pair (Tree.name section.name.now) (Tree.raw section.contents.now)
