-- The trees that the types and rows of a component stand for (the Component Model's binary format), whatever the kind of what
-- differs between a reader's and a writer's.
use Rattle.std.specs.Prelude.{ℕ, zero, suc, List, [], ◌∷◌, map, Bool, true, false, Option, Some, None}
use Rattle.std.specs.Borrow.{Bor}
use Rattle.wasm_shapes.specs.declared.Space.{Space}
use Rattle.wasm_shapes.specs.declared.Space.TheVariants as space
use Rattle.wasm_shapes.specs.declared.canonical.CanonicalForm.{CanonicalForm}
use Rattle.wasm_shapes.specs.declared.canonical.CanonicalForm.TheVariants as form
use Rattle.wasm_shapes.specs.Tree.{Tree}
use Rattle.wasm_shapes.specs.Types.{led, vector_tree}
use Rattle.wasm_shapes.specs.Component.{canonical_at, number_of}
use Rattle.wasm_shapes.specs.ComponentTypes.{instance_export_tree, core_instance_export_tree, outer_tree, core_export_alias, core_type_alias, module_alias, type_alias, component_alias, func_alias, value_alias, instance_alias}
use Rattle.wasm_types.specs.declared.components.Alias.{Alias}
use Rattle.wasm_types.specs.declared.components.Alias.TheVariants.{InstanceExport, CoreInstanceExport, Outer}
use Rattle.wasm_types.specs.declared.components.CanonicalFunction.{CanonicalFunction}
use Rattle.wasm_types.specs.declared.components.CanonicalFunction.TheVariants as canonical
use Rattle.wasm_types.specs.declared.components.CanonicalOption.{CanonicalOption}
use Rattle.wasm_types.specs.declared.components.CanonicalOption.TheVariants as option
use Rattle.wasm_types.specs.declared.components.ComponentArg.{ComponentArg}
use Rattle.wasm_types.specs.declared.components.ComponentDefinedType.{ComponentDefinedType}
use Rattle.wasm_types.specs.declared.components.ComponentDefinedType.TheVariants as defined
use Rattle.wasm_types.specs.declared.components.ComponentExport.{ComponentExport}
use Rattle.wasm_types.specs.declared.components.ComponentExternalKind.{ComponentExternalKind}
use Rattle.wasm_types.specs.declared.components.ComponentExternalKind.TheVariants as kind
use Rattle.wasm_types.specs.declared.components.ComponentFuncType.{ComponentFuncType}
use Rattle.wasm_types.specs.declared.components.ComponentImport.{ComponentImport}
use Rattle.wasm_types.specs.declared.components.ComponentInstance.{ComponentInstance}
use Rattle.wasm_types.specs.declared.components.ComponentInstance.TheVariants as component_instance
use Rattle.wasm_types.specs.declared.components.ComponentOuterAliasKind.{ComponentOuterAliasKind}
use Rattle.wasm_types.specs.declared.components.ComponentOuterAliasKind.TheVariants as outer
use Rattle.wasm_types.specs.declared.components.ComponentTypeRef.{ComponentTypeRef}
use Rattle.wasm_types.specs.declared.components.ComponentTypeRef.TheVariants as ref
use Rattle.wasm_types.specs.declared.components.ComponentValType.{ComponentValType}
use Rattle.wasm_types.specs.declared.components.ComponentValType.TheVariants as value
use Rattle.wasm_types.specs.declared.components.Instance.{Instance}
use Rattle.wasm_types.specs.declared.components.Instance.TheVariants as instance
use Rattle.wasm_types.specs.declared.components.InstantiationArg.{InstantiationArg}
use Rattle.wasm_types.specs.declared.components.Operands.{Operands}
use Rattle.wasm_types.specs.declared.components.Operands.TheVariants as operands
use Rattle.wasm_types.specs.declared.components.PrimitiveValType.{PrimitiveValType}
use Rattle.wasm_types.specs.declared.components.PrimitiveValType.TheVariants as primitive
use Rattle.wasm_types.specs.declared.components.TypeBounds.{TypeBounds}
use Rattle.wasm_types.specs.declared.components.TypeBounds.TheVariants as bounds
use Rattle.wasm_types.specs.declared.components.VariantCase.{VariantCase}
use Rattle.wasm_types.specs.Types.{Indices, val_type_tree}

-- ---- types of values

-- the byte of a primitive type, and the number of its row
abbrev pub primitive_byte : PrimitiveValType → ℕ
primitive_byte primitive.Bool = 0x7f
primitive_byte primitive.S8 = 0x7e
primitive_byte primitive.U8 = 0x7d
primitive_byte primitive.S16 = 0x7c
primitive_byte primitive.U16 = 0x7b
primitive_byte primitive.S32 = 0x7a
primitive_byte primitive.U32 = 0x79
primitive_byte primitive.S64 = 0x78
primitive_byte primitive.U64 = 0x77
primitive_byte primitive.F32 = 0x76
primitive_byte primitive.F64 = 0x75
primitive_byte primitive.Char = 0x74
primitive_byte primitive.String = 0x73
primitive_byte primitive.ErrorContext = 0x64

abbrev pub primitive_number : PrimitiveValType → ℕ
primitive_number primitive.Bool = 0
primitive_number primitive.S8 = 1
primitive_number primitive.U8 = 2
primitive_number primitive.S16 = 3
primitive_number primitive.U16 = 4
primitive_number primitive.S32 = 5
primitive_number primitive.U32 = 6
primitive_number primitive.S64 = 7
primitive_number primitive.U64 = 8
primitive_number primitive.F32 = 9
primitive_number primitive.F64 = 10
primitive_number primitive.Char = 11
primitive_number primitive.String = 12
primitive_number primitive.ErrorContext = 13

abbrev pub primitive_tree : PrimitiveValType → Tree
primitive_tree ty = Tree.row (primitive_number ty) (Tree.fixed (primitive_byte ty))

-- an index of a component's type
abbrev pub type_tree : ℕ → Tree
type_tree i = Tree.ix space.ComponentType i

abbrev pub component_val_type_tree : ComponentValType → Tree
component_val_type_tree (value.Primitive ty) = Tree.row 0 (primitive_tree ty)
component_val_type_tree (value.Type_ i) = Tree.row 1 (Tree.sx space.ComponentType i)

-- what may be left out, by what it stands for where it is not
abbrev pub maybe_tree : {A : Type 0} → (A → Tree) → Option A → Tree
maybe_tree tree None = Tree.absent
maybe_tree tree (Some x) = Tree.present (tree x)

abbrev pub maybe_value_tree : Option ComponentValType → Tree
maybe_value_tree ty = maybe_tree component_val_type_tree ty

-- a name and a type, of a field or a parameter
abbrev pub named_value_tree : Bor (List ℕ) × ComponentValType → Tree
named_value_tree v = Tree.pair (Tree.name v.0.now) (component_val_type_tree v.1)

abbrev pub named_values_tree : List (Bor (List ℕ) × ComponentValType) → Tree
named_values_tree vs = vector_tree (map named_value_tree vs)

abbrev pub variant_case_tree : VariantCase → Tree
variant_case_tree c = Tree.pair (Tree.name c.name.now) (Tree.pair (maybe_value_tree c.ty) (Tree.fixed 0x00))

abbrev pub label_tree : Bor (List ℕ) → Tree
label_tree name = Tree.name name.now

abbrev pub component_defined_type_tree : ComponentDefinedType → Tree
component_defined_type_tree (defined.Primitive ty) = Tree.row 0 (primitive_tree ty)
component_defined_type_tree (defined.Record fields) = Tree.row 1 (led 0x72 (named_values_tree fields))
component_defined_type_tree (defined.Variant cases) = Tree.row 2 (led 0x71 (vector_tree (map variant_case_tree cases)))
component_defined_type_tree (defined.List ty) = Tree.row 3 (led 0x70 (component_val_type_tree ty))
component_defined_type_tree (defined.Tuple types) = Tree.row 4 (led 0x6f (vector_tree (map component_val_type_tree types)))
component_defined_type_tree (defined.Flags names) = Tree.row 5 (led 0x6e (vector_tree (map label_tree names)))
component_defined_type_tree (defined.Enum names) = Tree.row 6 (led 0x6d (vector_tree (map label_tree names)))
component_defined_type_tree (defined.Option ty) = Tree.row 7 (led 0x6b (component_val_type_tree ty))
component_defined_type_tree (defined.Result ok err) = Tree.row 8 (led 0x6a (Tree.pair (maybe_value_tree ok) (maybe_value_tree err)))
component_defined_type_tree (defined.Own i) = Tree.row 9 (led 0x69 (type_tree i))
component_defined_type_tree (defined.Borrow i) = Tree.row 10 (led 0x68 (type_tree i))
component_defined_type_tree (defined.FixedLengthList ty n) = Tree.row 11 (led 0x67 (Tree.pair (component_val_type_tree ty) (Tree.u32 n)))
component_defined_type_tree (defined.Stream ty) = Tree.row 12 (led 0x66 (maybe_value_tree ty))
component_defined_type_tree (defined.Future ty) = Tree.row 13 (led 0x65 (maybe_value_tree ty))
component_defined_type_tree (defined.Map key value) = Tree.row 14 (led 0x63 (Tree.pair (component_val_type_tree key) (component_val_type_tree value)))

-- ---- what is imported and exported

abbrev pub type_bounds_tree : TypeBounds → Tree
type_bounds_tree (bounds.Eq i) = Tree.row 0 (led 0x00 (type_tree i))
type_bounds_tree bounds.SubResource = Tree.row 1 (Tree.fixed 0x01)

-- the bytes of a sort
abbrev pub sort_bytes : ComponentExternalKind → List ℕ
sort_bytes kind.Module = 0x00 ∷ 0x11 ∷ []
sort_bytes kind.Func = 0x01 ∷ []
sort_bytes kind.Value = 0x02 ∷ []
sort_bytes kind.Type_ = 0x03 ∷ []
sort_bytes kind.Component = 0x04 ∷ []
sort_bytes kind.Instance = 0x05 ∷ []

-- what stands behind the bytes of a sort
abbrev pub sort_tree : ComponentExternalKind → Tree → Tree
sort_tree kind.Module t = Tree.row 0 (led 0x00 (led 0x11 t))
sort_tree kind.Func t = Tree.row 1 (led 0x01 t)
sort_tree kind.Value t = Tree.row 2 (led 0x02 t)
sort_tree kind.Type_ t = Tree.row 3 (led 0x03 t)
sort_tree kind.Component t = Tree.row 4 (led 0x04 t)
sort_tree kind.Instance t = Tree.row 5 (led 0x05 t)

abbrev pub sort_space : ComponentExternalKind → Space
sort_space kind.Module = space.Module
sort_space kind.Func = space.ComponentFunc
sort_space kind.Value = space.ComponentValue
sort_space kind.Type_ = space.ComponentType
sort_space kind.Component = space.Component
sort_space kind.Instance = space.ComponentInstance

-- what a component holds, by its sort and its index
abbrev pub sorted_tree : ComponentExternalKind → ℕ → Tree
sorted_tree k i = sort_tree k (Tree.ix (sort_space k) i)

abbrev pub type_ref_tree : ComponentTypeRef → Tree
type_ref_tree (ref.Module i) = sort_tree kind.Module (Tree.ix space.Type_ i)
type_ref_tree (ref.Func i) = sort_tree kind.Func (type_tree i)
type_ref_tree (ref.Value ty) = sort_tree kind.Value (component_val_type_tree ty)
type_ref_tree (ref.Type_ b) = sort_tree kind.Type_ (type_bounds_tree b)
type_ref_tree (ref.Component i) = sort_tree kind.Component (type_tree i)
type_ref_tree (ref.Instance i) = sort_tree kind.Instance (type_tree i)

abbrev pub maybe_type_ref : Option ComponentTypeRef → Tree
maybe_type_ref ty = maybe_tree type_ref_tree ty

-- a name of what is imported or exported
abbrev pub extern_name_tree : List ℕ → Tree
extern_name_tree name = Tree.pair (Tree.alike 0x00 0x01) (Tree.name name)

abbrev pub component_import_tree : ComponentImport → Tree
component_import_tree r = Tree.pair (extern_name_tree r.name.now) (type_ref_tree r.ty)

abbrev pub component_export_tree : ComponentExport → Tree
component_export_tree r = Tree.pair (extern_name_tree r.name.now) (Tree.pair (sorted_tree r.kind r.index) (maybe_type_ref r.ty))

-- ---- aliases

abbrev pub export_alias : ComponentExternalKind → Tree → Tree
export_alias kind.Module t = module_alias 0 t
export_alias kind.Func t = func_alias t
export_alias kind.Value t = value_alias t
export_alias kind.Type_ t = type_alias 0 t
export_alias kind.Instance t = instance_alias t
export_alias kind.Component t = component_alias 0 t

abbrev pub outer_alias : ComponentOuterAliasKind → ℕ → ℕ → Tree
outer_alias outer.CoreModule c i = module_alias 1 (outer_tree space.Module c i)
outer_alias outer.CoreType c i = core_type_alias (outer_tree space.Type_ c i)
outer_alias outer.Type_ c i = type_alias 1 (outer_tree space.ComponentType c i)
outer_alias outer.Component c i = component_alias 1 (outer_tree space.Component c i)

-- by the byte of the sort of what a core instance exports
abbrev pub alias_tree : {K : Type 0} → (K → ℕ) → Alias K → Tree
alias_tree sort_byte (InstanceExport kind i name) = export_alias kind (instance_export_tree i name.now)
alias_tree sort_byte (CoreInstanceExport kind i name) = core_export_alias (sort_byte kind) (core_instance_export_tree i name.now)
alias_tree sort_byte (Outer kind c i) = outer_alias kind c i

-- ---- instances

abbrev pub instantiation_arg_tree : InstantiationArg → Tree
instantiation_arg_tree a = Tree.pair (Tree.name a.name.now) (led 0x12 (Tree.ix space.Instance a.index))

-- by what an export stands for
abbrev pub instance_tree : {E : Type 0} → (E → Tree) → Instance E → Tree
instance_tree export_tree (instance.Instantiate i args) = Tree.row 0 (led 0x00 (Tree.pair (Tree.ix space.Module i) (vector_tree (map instantiation_arg_tree args))))
instance_tree export_tree (instance.FromExports exports) = Tree.row 1 (led 0x01 (vector_tree (map export_tree exports)))

abbrev pub component_arg_tree : ComponentArg → Tree
component_arg_tree a = Tree.pair (Tree.name a.name.now) (sorted_tree a.kind a.index)

abbrev pub inline_export_tree : ComponentArg → Tree
inline_export_tree a = Tree.pair (extern_name_tree a.name.now) (sorted_tree a.kind a.index)

abbrev pub component_instance_tree : ComponentInstance → Tree
component_instance_tree (component_instance.Instantiate i args) =
    Tree.row 0 (led 0x00 (Tree.pair (Tree.ix space.Component i) (vector_tree (map component_arg_tree args))))
component_instance_tree (component_instance.FromExports exports) = Tree.row 1 (led 0x01 (vector_tree (map inline_export_tree exports)))

-- ---- the function that starts a component

abbrev pub component_start_tree : ℕ → List ℕ → ℕ → Tree
component_start_tree f args results =
    Tree.pair (Tree.ix space.ComponentFunc f) (Tree.pair (vector_tree (map (Tree.ix space.ComponentValue) args)) (Tree.u32 results))

-- ---- canonical functions

abbrev pub operands_form : {I O : Type 0} → Operands I O → CanonicalForm
operands_form operands.Nothing = form.Nothing
operands_form (operands.Lift f os t) = form.Lift
operands_form (operands.Lower f os) = form.Lower
operands_form (operands.Type_ t) = form.Type_
operands_form (operands.TypeAndOptions t os) = form.TypeAndOptions
operands_form (operands.TypeAndAsync t a) = form.TypeAndAsync
operands_form (operands.Async a) = form.Async
operands_form (operands.ResultAndOptions r os) = form.ResultAndOptions
operands_form (operands.Slot t n) = form.Slot
operands_form (operands.Options os) = form.Options
operands_form (operands.CoreType t) = form.CoreType
operands_form (operands.CoreTypeAndTable t m) = form.CoreTypeAndTable

-- the byte of a canonical function, and what stands behind it
abbrev pub canonical_parts : {I : Type 0} → CanonicalFunction I → ℕ × Operands I (List CanonicalOption)
canonical_parts (canonical.Lift f t os) = (0x00, operands.Lift f os t)
canonical_parts (canonical.Lower f os) = (0x01, operands.Lower f os)
canonical_parts (canonical.ResourceNew t) = (0x02, operands.Type_ t)
canonical_parts (canonical.ResourceDrop t) = (0x03, operands.Type_ t)
canonical_parts (canonical.ResourceRep t) = (0x04, operands.Type_ t)
canonical_parts canonical.TaskCancel = (0x05, operands.Nothing)
canonical_parts (canonical.SubtaskCancel a) = (0x06, operands.Async a)
canonical_parts (canonical.TaskReturn r os) = (0x09, operands.ResultAndOptions r os)
canonical_parts canonical.SubtaskDrop = (0x0d, operands.Nothing)
canonical_parts canonical.BackpressureInc = (0x24, operands.Nothing)
canonical_parts canonical.BackpressureDec = (0x25, operands.Nothing)
canonical_parts (canonical.ContextGet t n) = (0x0a, operands.Slot t n)
canonical_parts (canonical.ContextSet t n) = (0x0b, operands.Slot t n)
canonical_parts (canonical.StreamNew t) = (0x0e, operands.Type_ t)
canonical_parts (canonical.StreamRead t os) = (0x0f, operands.TypeAndOptions t os)
canonical_parts (canonical.StreamWrite t os) = (0x10, operands.TypeAndOptions t os)
canonical_parts (canonical.StreamCancelRead t a) = (0x11, operands.TypeAndAsync t a)
canonical_parts (canonical.StreamCancelWrite t a) = (0x12, operands.TypeAndAsync t a)
canonical_parts (canonical.StreamDropReadable t) = (0x13, operands.Type_ t)
canonical_parts (canonical.StreamDropWritable t) = (0x14, operands.Type_ t)
canonical_parts (canonical.FutureNew t) = (0x15, operands.Type_ t)
canonical_parts (canonical.FutureRead t os) = (0x16, operands.TypeAndOptions t os)
canonical_parts (canonical.FutureWrite t os) = (0x17, operands.TypeAndOptions t os)
canonical_parts (canonical.FutureCancelRead t a) = (0x18, operands.TypeAndAsync t a)
canonical_parts (canonical.FutureCancelWrite t a) = (0x19, operands.TypeAndAsync t a)
canonical_parts (canonical.FutureDropReadable t) = (0x1a, operands.Type_ t)
canonical_parts (canonical.FutureDropWritable t) = (0x1b, operands.Type_ t)
canonical_parts (canonical.ErrorContextNew os) = (0x1c, operands.Options os)
canonical_parts (canonical.ErrorContextDebugMessage os) = (0x1d, operands.Options os)
canonical_parts canonical.ErrorContextDrop = (0x1e, operands.Nothing)
canonical_parts canonical.WaitableSetNew = (0x1f, operands.Nothing)
canonical_parts canonical.WaitableSetDrop = (0x22, operands.Nothing)
canonical_parts canonical.WaitableJoin = (0x23, operands.Nothing)
canonical_parts (canonical.ThreadSpawnRef t) = (0x40, operands.CoreType t)
canonical_parts (canonical.ThreadSpawnIndirect t m) = (0x41, operands.CoreTypeAndTable t m)
canonical_parts canonical.ThreadAvailableParallelism = (0x42, operands.Nothing)

-- what stands behind it, whose options are borrowed
abbrev pub borrowed_operands : {I : Type 0} → Operands I (Bor (List CanonicalOption)) → Operands I (List CanonicalOption)
borrowed_operands operands.Nothing = operands.Nothing
borrowed_operands (operands.Lift f os t) = operands.Lift f os.now t
borrowed_operands (operands.Lower f os) = operands.Lower f os.now
borrowed_operands (operands.Type_ t) = operands.Type_ t
borrowed_operands (operands.TypeAndOptions t os) = operands.TypeAndOptions t os.now
borrowed_operands (operands.TypeAndAsync t a) = operands.TypeAndAsync t a
borrowed_operands (operands.Async a) = operands.Async a
borrowed_operands (operands.ResultAndOptions r os) = operands.ResultAndOptions r os.now
borrowed_operands (operands.Slot t n) = operands.Slot t n
borrowed_operands (operands.Options os) = operands.Options os.now
borrowed_operands (operands.CoreType t) = operands.CoreType t
borrowed_operands (operands.CoreTypeAndTable t m) = operands.CoreTypeAndTable t m

abbrev pub borrowed_parts : {I : Type 0} → ℕ × Operands I (Bor (List CanonicalOption)) → ℕ × Operands I (List CanonicalOption)
borrowed_parts p = (p.0, borrowed_operands p.1)

abbrev pub canonical_option_tree : CanonicalOption → Tree
canonical_option_tree option.UTF8 = Tree.row 0 (Tree.fixed 0x00)
canonical_option_tree option.UTF16 = Tree.row 1 (Tree.fixed 0x01)
canonical_option_tree option.CompactUTF16 = Tree.row 2 (Tree.fixed 0x02)
canonical_option_tree (option.Memory i) = Tree.row 3 (led 0x03 (Tree.ix space.Memory i))
canonical_option_tree (option.Realloc i) = Tree.row 4 (led 0x04 (Tree.ix space.Function i))
canonical_option_tree (option.PostReturn i) = Tree.row 5 (led 0x05 (Tree.ix space.Function i))
canonical_option_tree option.Async = Tree.row 6 (Tree.fixed 0x06)
canonical_option_tree (option.Callback i) = Tree.row 7 (led 0x07 (Tree.ix space.Function i))
canonical_option_tree (option.CoreType i) = Tree.row 8 (led 0x08 (Tree.ix space.Type_ i))
canonical_option_tree option.Gc = Tree.row 9 (Tree.fixed 0x09)

-- options behind their number
abbrev pub canonical_options_tree : List CanonicalOption → Tree
canonical_options_tree options = vector_tree (map canonical_option_tree options)

-- whether it is asynchronous
abbrev pub async_tree : Bool → Tree
async_tree false = Tree.row 0 (Tree.fixed 0x00)
async_tree true = Tree.row 1 (Tree.fixed 0x01)

-- one result, or none
abbrev pub result_tree : Option ComponentValType → Tree
result_tree (Some ty) = Tree.row 0 (led 0x00 (component_val_type_tree ty))
result_tree None = Tree.row 1 (led 0x01 (Tree.fixed 0x00))

-- ---- types of functions and resources

-- the parameters and the result
abbrev pub component_signature_tree : ComponentFuncType → Tree
component_signature_tree f = Tree.pair (named_values_tree f.params) (result_tree f.result)

-- behind the byte that says whether it is asynchronous
abbrev pub func_row : Bool → Tree → Tree
func_row false t = Tree.row 1 (led 0x40 t)
func_row true t = Tree.row 2 (led 0x43 t)

abbrev pub component_func_type_tree : ComponentFuncType → Tree
component_func_type_tree f = func_row f.async_ (component_signature_tree f)

abbrev pub maybe_function : Option ℕ → Tree
maybe_function i = maybe_tree (Tree.ix space.Function) i

-- a resource behind its byte, by the tree of the type that stands for it
abbrev pub resource_parts : Tree → Option ℕ → Tree
resource_parts rep dtor = Tree.pair rep (maybe_function dtor)

abbrev pub resource_tree : Tree → Option ℕ → Tree
resource_tree rep dtor = Tree.row 5 (led 0x3f (resource_parts rep dtor))

-- ---- core types

-- A group of a core module's types: one open subtype stands behind another byte.
abbrev pub core_group_tree : Tree → Tree
core_group_tree (Tree.row (suc zero) t) = Tree.row 1 (led 0x00 (Tree.row 1 t))
core_group_tree t = Tree.row 2 t

-- ---- canonical functions by what stands behind their bytes

module _ {I : Type 0} (indices : Indices I) where
  -- what stands behind the byte
  abbrev pub operands_tree : Operands I (List CanonicalOption) → Tree
  operands_tree operands.Nothing = Tree.empty
  operands_tree (operands.Lift f os t) = led 0x00 (Tree.pair (Tree.ix space.Function f) (Tree.swap (canonical_options_tree os) (type_tree t)))
  operands_tree (operands.Lower f os) = led 0x00 (Tree.pair (Tree.ix space.ComponentFunc f) (canonical_options_tree os))
  operands_tree (operands.Type_ t) = type_tree t
  operands_tree (operands.TypeAndOptions t os) = Tree.swap (type_tree t) (canonical_options_tree os)
  operands_tree (operands.TypeAndAsync t a) = Tree.pair (type_tree t) (async_tree a)
  operands_tree (operands.Async a) = async_tree a
  operands_tree (operands.ResultAndOptions r os) = Tree.swap (result_tree r) (canonical_options_tree os)
  operands_tree (operands.Slot t n) = Tree.pair (val_type_tree indices t) (Tree.u32 n)
  operands_tree (operands.Options os) = canonical_options_tree os
  operands_tree (operands.CoreType t) = Tree.ix space.Type_ t
  operands_tree (operands.CoreTypeAndTable t m) = Tree.pair (Tree.ix space.Type_ t) (Tree.ix space.Table m)

  -- the row of a byte, with what stands behind it
  abbrev pub parts_tree : ℕ × Operands I (List CanonicalOption) → Tree
  parts_tree p = Tree.row (number_of (canonical_at p.0)) (led p.0 (operands_tree p.1))

  abbrev pub canonical_tree : CanonicalFunction I → Tree
  canonical_tree f = parts_tree (canonical_parts f)
