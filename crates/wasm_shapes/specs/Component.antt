-- The tables of components (the Component Model's binary format).
use Rattle.std.specs.Prelude.{ℕ, zero, suc, List, [], ◌∷◌, map, codes, nat_eq, if◌then◌else◌, Option, Some, None}
use Rattle.wasm_shapes.specs.declared.canonical.CanonicalForm.{CanonicalForm}
use Rattle.wasm_shapes.specs.declared.canonical.CanonicalForm.TheVariants as form
use Rattle.wasm_shapes.specs.declared.Space.{Space}
use Rattle.wasm_shapes.specs.declared.Space.TheVariants as space
use Rattle.wasm_shapes.specs.Tree.{Tree}
use Rattle.wasm_shapes.specs.Shape.{Shape, Named, one_of, choice, lead, final_sub, open_sub, explicit_group, entity}
use Rattle.wasm_shapes.specs.Sections.{component_header, single_import, export_row, naming_row, subsection, headed, headed_tree, core_module, single_module}

-- ---- names and sorts

-- a name of what is imported or exported: the first byte says nothing
abbrev pub extern_name : Shape
extern_name = Shape.seq (Shape.alike 0x00 0x01) Shape.name

-- what a component holds, by its sort and its index
abbrev pub sorted_item : Shape
sorted_item = choice (
    lead 0x00 (lead 0x11 (Shape.ix space.Module)) ∷ lead 0x01 (Shape.ix space.ComponentFunc) ∷ lead 0x02 (Shape.ix space.ComponentValue) ∷
    lead 0x03 (Shape.ix space.ComponentType) ∷ lead 0x04 (Shape.ix space.Component) ∷ lead 0x05 (Shape.ix space.ComponentInstance) ∷ [])

-- ---- types of values

abbrev pub primitive : Shape
primitive = one_of (0x7f ∷ 0x7e ∷ 0x7d ∷ 0x7c ∷ 0x7b ∷ 0x7a ∷ 0x79 ∷ 0x78 ∷ 0x77 ∷ 0x76 ∷ 0x75 ∷ 0x74 ∷ 0x73 ∷ 0x64 ∷ [])

-- a primitive type, or one by its index
abbrev pub component_value_rows : Shape
component_value_rows = choice (primitive ∷ Shape.sx space.ComponentType ∷ [])

abbrev pub component_value : Shape
component_value = Shape.ref Named.component_value

-- one that may be left out
abbrev pub maybe_value : Shape
maybe_value = Shape.opt component_value

-- a name and a type, of a field or a parameter
abbrev pub named_value : Shape
named_value = Shape.seq Shape.name component_value

-- a case of a variant
abbrev pub variant_case : Shape
variant_case = Shape.seq Shape.name (Shape.seq maybe_value (Shape.fixed 0x00))

-- types of values: a record, a variant, a list, a tuple, flags, an enumeration, an option, a result, an owned and a borrowed
-- resource, a list of fixed length, a stream, a future and a map
abbrev pub defined_type : Shape
defined_type = choice (
    primitive ∷
    lead 0x72 (Shape.vec named_value) ∷
    lead 0x71 (Shape.vec variant_case) ∷
    lead 0x70 component_value ∷
    lead 0x6f (Shape.vec component_value) ∷
    lead 0x6e (Shape.vec Shape.name) ∷
    lead 0x6d (Shape.vec Shape.name) ∷
    lead 0x6b component_value ∷
    lead 0x6a (Shape.seq maybe_value maybe_value) ∷
    lead 0x69 (Shape.ix space.ComponentType) ∷
    lead 0x68 (Shape.ix space.ComponentType) ∷
    lead 0x67 (Shape.seq component_value Shape.u32) ∷
    lead 0x66 maybe_value ∷
    lead 0x65 maybe_value ∷
    lead 0x63 (Shape.seq component_value component_value) ∷ [])

-- ---- what is imported and exported

-- what a type may be: another, or a resource
abbrev pub type_bounds : Shape
type_bounds = choice (lead 0x00 (Shape.ix space.ComponentType) ∷ Shape.fixed 0x01 ∷ [])

abbrev pub type_ref_rows : Shape
type_ref_rows = choice (
    lead 0x00 (lead 0x11 (Shape.ix space.Type_)) ∷ lead 0x01 (Shape.ix space.ComponentType) ∷ lead 0x02 component_value ∷
    lead 0x03 type_bounds ∷ lead 0x04 (Shape.ix space.ComponentType) ∷ lead 0x05 (Shape.ix space.ComponentType) ∷ [])

abbrev pub type_ref : Shape
type_ref = Shape.ref Named.type_ref

-- a name and the type of what is imported under it, or of what a type exports
abbrev pub extern_row : Shape
extern_row = Shape.seq extern_name type_ref

-- ---- aliases

-- an export of an instance
abbrev pub instance_export : Shape
instance_export = lead 0x00 (Shape.seq (Shape.ix space.ComponentInstance) Shape.name)

-- an export of a core instance
abbrev pub core_instance_export : Shape
core_instance_export = lead 0x01 (Shape.seq (Shape.ix space.Instance) Shape.name)

-- what stands so many scopes further out
abbrev pub outer_of : Space → Shape
outer_of s = lead 0x02 (Shape.outer s)

-- what an instance exports, or what stands further out
abbrev pub export_or_outer : Space → Shape
export_or_outer s = choice (instance_export ∷ outer_of s ∷ [])

-- an alias of a core sort, behind its first byte
abbrev pub core_alias : Shape
core_alias = choice (
    Shape.seq (Shape.within 0x00 0x04) core_instance_export ∷ lead 0x10 (outer_of space.Type_) ∷ lead 0x11 (export_or_outer space.Module) ∷ [])

-- an alias by its sort
abbrev pub alias_rows : Shape
alias_rows = choice (
    lead 0x00 core_alias ∷ lead 0x01 instance_export ∷ lead 0x02 instance_export ∷ lead 0x03 (export_or_outer space.ComponentType) ∷
    lead 0x04 (export_or_outer space.Component) ∷ lead 0x05 instance_export ∷ [])

abbrev pub alias : Shape
alias = Shape.ref Named.alias

-- ---- core types

-- what a module type declares: an import, a type, an alias of a type further out, or an export
abbrev pub module_declaration : Shape
module_declaration = choice (
    lead 0x00 single_import ∷ lead 0x01 (Shape.ref Named.group) ∷ lead 0x02 (lead 0x10 (lead 0x01 (Shape.outer space.Type_))) ∷
    lead 0x03 (Shape.seq Shape.name entity) ∷ [])

-- A module type, or types of a core module. An open subtype, whose first byte is that of a module type, stands behind another
-- byte. The rows of the types have the numbers that they have in a group.
abbrev pub core_type_rows : Shape
core_type_rows = choice (
    lead 0x50 (Shape.scope (Shape.vec module_declaration)) ∷ lead 0x00 (choice (Shape.none ∷ open_sub ∷ [])) ∷
    choice (final_sub ∷ Shape.none ∷ explicit_group ∷ []) ∷ [])

abbrev pub core_type : Shape
core_type = Shape.ref Named.core_type

-- ---- types of components

abbrev pub component_type : Shape
component_type = Shape.ref Named.component_type

-- one result, or none
abbrev pub function_result : Shape
function_result = choice (lead 0x00 component_value ∷ lead 0x01 (Shape.fixed 0x00) ∷ [])

abbrev pub function_type : Shape
function_type = Shape.seq (Shape.vec named_value) function_result

-- what an instance type declares: a core type, a type, an alias, or an export
abbrev pub instance_declaration : Shape
instance_declaration = choice (lead 0x00 core_type ∷ lead 0x01 component_type ∷ lead 0x02 alias ∷ lead 0x04 extern_row ∷ [])

-- what a component type declares: the same, and an import
abbrev pub component_declaration : Shape
component_declaration = choice (lead 0x00 core_type ∷ lead 0x01 component_type ∷ lead 0x02 alias ∷ lead 0x03 extern_row ∷ lead 0x04 extern_row ∷ [])

-- a type of values, a function type and that of an asynchronous function, a component type, an instance type, and a resource
abbrev pub component_type_rows : Shape
component_type_rows = choice (
    defined_type ∷ lead 0x40 function_type ∷ lead 0x43 function_type ∷ lead 0x41 (Shape.scope (Shape.vec component_declaration)) ∷
    lead 0x42 (Shape.scope (Shape.vec instance_declaration)) ∷ lead 0x3f (Shape.seq (Shape.ref Named.value) (Shape.opt (Shape.ix space.Function))) ∷ [])

-- ---- canonical functions

-- the encoding of text, a memory, functions for memory, for what is to be done afterwards and for calling back, a type
abbrev pub canonical_option : Shape
canonical_option = choice (
    Shape.fixed 0x00 ∷ Shape.fixed 0x01 ∷ Shape.fixed 0x02 ∷ lead 0x03 (Shape.ix space.Memory) ∷ lead 0x04 (Shape.ix space.Function) ∷
    lead 0x05 (Shape.ix space.Function) ∷ Shape.fixed 0x06 ∷ lead 0x07 (Shape.ix space.Function) ∷ lead 0x08 (Shape.ix space.Type_) ∷ Shape.fixed 0x09 ∷ [])

abbrev pub canonical_options : Shape
canonical_options = Shape.vec canonical_option

-- whether it is asynchronous
abbrev pub asynchronous : Shape
asynchronous = one_of (0x00 ∷ 0x01 ∷ [])

-- the type of a resource, a stream or a future
abbrev pub of_type : Shape
of_type = Shape.ix space.ComponentType

-- a type, which is visited behind the options
abbrev pub type_and_options : Shape
type_and_options = Shape.swap of_type canonical_options

abbrev pub type_and_asynchronous : Shape
type_and_asynchronous = Shape.seq of_type asynchronous

-- a type of a value, and a number of a slot
abbrev pub context_slot : Shape
context_slot = Shape.seq (Shape.ref Named.value) Shape.u32

-- What stands behind the byte of a canonical function: nothing, a lifted function or a lowered one, a type, with options or with
-- whether it is asynchronous, that alone, results with options, a slot, options, a core type, and one with a table.
abbrev pub operands : CanonicalForm → Shape
operands form.Nothing = Shape.empty
operands form.Lift = lead 0x00 (Shape.seq (Shape.ix space.Function) (Shape.swap canonical_options of_type))
operands form.Lower = lead 0x00 (Shape.seq (Shape.ix space.ComponentFunc) canonical_options)
operands form.Type_ = of_type
operands form.TypeAndOptions = type_and_options
operands form.TypeAndAsync = type_and_asynchronous
operands form.Async = asynchronous
operands form.ResultAndOptions = Shape.swap function_result canonical_options
operands form.Slot = context_slot
operands form.Options = canonical_options
operands form.CoreType = Shape.ix space.Type_
operands form.CoreTypeAndTable = Shape.seq (Shape.ix space.Type_) (Shape.ix space.Table)

-- Canonical functions by their bytes: a lifted one and a lowered one, and those of resources, tasks, the context, streams,
-- futures, error contexts, waitables and threads.
abbrev pub canonical_rows : List (ℕ × CanonicalForm)
canonical_rows =
    (0x00, form.Lift) ∷ (0x01, form.Lower) ∷ (0x02, form.Type_) ∷ (0x03, form.Type_) ∷ (0x04, form.Type_) ∷
    (0x05, form.Nothing) ∷ (0x06, form.Async) ∷ (0x09, form.ResultAndOptions) ∷ (0x0d, form.Nothing) ∷ (0x24, form.Nothing) ∷ (0x25, form.Nothing) ∷
    (0x0a, form.Slot) ∷ (0x0b, form.Slot) ∷
    (0x0e, form.Type_) ∷ (0x0f, form.TypeAndOptions) ∷ (0x10, form.TypeAndOptions) ∷ (0x11, form.TypeAndAsync) ∷ (0x12, form.TypeAndAsync) ∷
    (0x13, form.Type_) ∷ (0x14, form.Type_) ∷
    (0x15, form.Type_) ∷ (0x16, form.TypeAndOptions) ∷ (0x17, form.TypeAndOptions) ∷ (0x18, form.TypeAndAsync) ∷ (0x19, form.TypeAndAsync) ∷
    (0x1a, form.Type_) ∷ (0x1b, form.Type_) ∷
    (0x1c, form.Options) ∷ (0x1d, form.Options) ∷ (0x1e, form.Nothing) ∷
    (0x1f, form.Nothing) ∷ (0x22, form.Nothing) ∷ (0x23, form.Nothing) ∷
    (0x40, form.CoreType) ∷ (0x41, form.CoreTypeAndTable) ∷ (0x42, form.Nothing) ∷ []

abbrev pub canonical_row : ℕ × CanonicalForm → Shape
canonical_row r = lead r.0 (operands r.1)

abbrev pub canonical_function : Shape
canonical_function = choice (map canonical_row canonical_rows)

-- a row of a byte in a table, one further behind
abbrev pub row_behind : Option (ℕ × CanonicalForm) → Option (ℕ × CanonicalForm)
row_behind None = None
row_behind (Some r) = Some (suc r.0, r.1)

-- the number of the row of a byte, and what stands behind the byte
abbrev pub canonical_in : List (ℕ × CanonicalForm) → ℕ → Option (ℕ × CanonicalForm)
canonical_in [] b = None
canonical_in (r ∷ rows) b = if nat_eq r.0 b then Some (0, r.1) else row_behind (canonical_in rows b)

abbrev pub canonical_at : ℕ → Option (ℕ × CanonicalForm)
canonical_at b = canonical_in canonical_rows b

abbrev pub number_of : Option (ℕ × CanonicalForm) → ℕ
number_of None = 0
number_of (Some r) = r.0

abbrev pub form_of : Option (ℕ × CanonicalForm) → Option CanonicalForm
form_of None = None
form_of (Some r) = Some r.1

-- ---- rows of sections

-- what is handed to a core module under a name
abbrev pub instantiation_arg : Shape
instantiation_arg = Shape.seq Shape.name (lead 0x12 (Shape.ix space.Instance))

-- a core instance: of a module, or of what it exports
abbrev pub instance_row : Shape
instance_row = choice (lead 0x00 (Shape.seq (Shape.ix space.Module) (Shape.vec instantiation_arg)) ∷ lead 0x01 (Shape.vec export_row) ∷ [])

-- what is handed to a component under a name, and what an instance exports
abbrev pub component_arg : Shape
component_arg = Shape.seq Shape.name sorted_item

abbrev pub inline_export : Shape
inline_export = Shape.seq extern_name sorted_item

-- an instance: of a component, or of what it exports
abbrev pub component_instance_row : Shape
component_instance_row = choice (lead 0x00 (Shape.seq (Shape.ix space.Component) (Shape.vec component_arg)) ∷ lead 0x01 (Shape.vec inline_export) ∷ [])

-- the function that starts the component, its arguments, and how many results it has
abbrev pub component_start : Shape
component_start = Shape.seq (Shape.ix space.ComponentFunc) (Shape.seq (Shape.vec (Shape.ix space.ComponentValue)) Shape.u32)

-- what is exported under a name, and its type, which may be left out
abbrev pub component_export_row : Shape
component_export_row = Shape.seq extern_name (Shape.seq sorted_item (Shape.opt type_ref))

-- ---- names

-- names of what is of a sort, by their indices in its space
abbrev pub sort_names : Space → Shape
sort_names s = Shape.vec (naming_row s)

-- the sorts, each with the names of what is of it
abbrev pub sort_rows : Shape
sort_rows = choice (
    lead 0x00 (choice (
    lead 0x00 (sort_names space.Function) ∷ lead 0x01 (sort_names space.Table) ∷ lead 0x02 (sort_names space.Memory) ∷ lead 0x03 (sort_names space.Global) ∷
    lead 0x04 (sort_names space.Tag) ∷ lead 0x10 (sort_names space.Type_) ∷ lead 0x11 (sort_names space.Module) ∷ lead 0x12 (sort_names space.Instance) ∷ [])) ∷
    lead 0x01 (sort_names space.ComponentFunc) ∷ lead 0x02 (sort_names space.ComponentValue) ∷ lead 0x03 (sort_names space.ComponentType) ∷
    lead 0x04 (sort_names space.Component) ∷ lead 0x05 (sort_names space.ComponentInstance) ∷ [])

abbrev pub core_sort : ℕ → List ℕ
core_sort b = 0x00 ∷ b ∷ []

abbrev pub sorts : List (List ℕ)
sorts =
    core_sort 0x00 ∷ core_sort 0x01 ∷ core_sort 0x02 ∷ core_sort 0x03 ∷ core_sort 0x04 ∷ core_sort 0x10 ∷ core_sort 0x11 ∷ core_sort 0x12 ∷
    (0x01 ∷ []) ∷ (0x02 ∷ []) ∷ (0x03 ∷ []) ∷ (0x04 ∷ []) ∷ (0x05 ∷ []) ∷ []

-- The subsections of the names of a component: its own name, names by their sort, and any others by their bytes. One that
-- begins with no sort is read by its bytes too.
abbrev pub component_name_subsection : Shape
component_name_subsection = choice (
    subsection 0 Shape.name ∷ subsection 1 (Shape.begun sorts sort_rows) ∷ Shape.seq (Shape.within 2 255) (Shape.sized Shape.rest) ∷ [])

abbrev pub component_names : Shape
component_names = Shape.many component_name_subsection

-- the name of the sections whose contents these are
abbrev pub component_names_name : List ℕ
component_names_name = codes "component-name"

-- ---- sections

abbrev pub component_custom : Shape
component_custom = Shape.by_name component_names_name component_names Shape.rest

-- The sections of a component. A row's number is the id, but that the last row is that of all other ids. The sections of the
-- ids 1 and 4 are scopes: a core module, and a component.
abbrev pub component_section_rows : List Shape
component_section_rows =
    subsection 0 component_custom ∷
    subsection 1 (Shape.scope core_module) ∷
    subsection 2 (Shape.vec instance_row) ∷
    subsection 3 (Shape.vec core_type) ∷
    lead 4 (Shape.ref Named.nested) ∷
    subsection 5 (Shape.vec component_instance_row) ∷
    subsection 6 (Shape.vec alias) ∷
    subsection 7 (Shape.vec component_type) ∷
    subsection 8 (Shape.vec canonical_function) ∷
    subsection 9 component_start ∷
    subsection 10 (Shape.vec extern_row) ∷
    subsection 11 (Shape.vec component_export_row) ∷
    Shape.seq (Shape.within 12 127) (Shape.sized Shape.rest) ∷ []

abbrev pub component_section : Shape
component_section = choice component_section_rows

-- No hook is told of a component's sections.
abbrev pub component_sections : Shape
component_sections = Shape.many component_section

abbrev pub component : Shape
component = headed component_header component_sections

abbrev pub component_tree : Tree → Tree
component_tree t = headed_tree component_header t

-- a component in its frame
abbrev pub nested_rows : Shape
nested_rows = Shape.sized (Shape.scope component)

-- the row of a number, and none where there is no such row
abbrev pub row_at : List Shape → ℕ → Shape
row_at [] k = Shape.none
row_at (s ∷ ss) zero = s
row_at (s ∷ ss) (suc k) = row_at ss k

-- the rows with another one in place of that of a number
abbrev pub with_row : ℕ → Shape → List Shape → List Shape
with_row k row [] = []
with_row zero row (s ∷ ss) = row ∷ ss
with_row (suc k) row (s ∷ ss) = s ∷ with_row k row ss

-- The sections of a component where every import of a core module in it is a single one, and a component in it, with its frame,
-- is of this shape.
abbrev pub single_rows : Shape → List Shape
single_rows components = with_row 1 (subsection 1 (Shape.scope single_module)) (with_row 4 (lead 4 components) component_section_rows)

abbrev pub single_with : Shape → Shape
single_with components = headed component_header (Shape.many (choice (single_rows components)))

-- a component where every import of each core module in it is a single one, with so many components at most within each other
abbrev pub single_component : ℕ → Shape
single_component zero = single_with Shape.none
single_component (suc n) = single_with (Shape.sized (Shape.scope (single_component n)))

-- the bodies of the sections of an id below 12
abbrev pub component_bodies : List Shape
component_bodies =
    component_custom ∷ Shape.scope core_module ∷ Shape.vec instance_row ∷ Shape.vec core_type ∷ Shape.scope component ∷ Shape.vec component_instance_row ∷
    Shape.vec alias ∷ Shape.vec component_type ∷ Shape.vec canonical_function ∷ component_start ∷ Shape.vec extern_row ∷ Shape.vec component_export_row ∷ []

-- the body of the sections of an id below 12
abbrev pub component_body_of : ℕ → Shape
component_body_of id = row_at component_bodies id

-- a section of an id below 12 by its body, and one of another id by its bytes
abbrev pub component_section_tree : ℕ → Tree → Tree
component_section_tree id body = Tree.row id (Tree.pair (Tree.fixed id) (Tree.sized body))

abbrev pub unknown_component_tree : ℕ → List ℕ → Tree
unknown_component_tree id contents = Tree.row 12 (Tree.pair (Tree.byte id) (Tree.sized (Tree.raw contents)))
