-- What the rows of types stand for. A row with a reader of declarations stands for the trees of which that reader has the rows
-- left, of which there is none where its bytes hold no such rows.
use Rattle.std.specs.Prelude.{◌≡◌, ℕ, ◌+◌, List, ◌∷◌, ◌++◌}
use Rattle.wasm_shapes.specs.declared.Space.TheVariants as space
use Rattle.wasm_shapes.specs.Tree.{Tree}
use Rattle.wasm_shapes.specs.Shape.{Shape, Named, entity, lead}
use Rattle.wasm_shapes.specs.Rows.{RowsLeft}
use Rattle.wasm_shapes.specs.Types.{led}
use Rattle.wasm_shapes.specs.Component.{component_declaration, instance_declaration, module_declaration}
use Rattle.wasm_types.specs.ComponentTrees.{component_defined_type_tree, component_func_type_tree, core_group_tree, extern_name_tree, resource_tree, type_ref_tree, component_import_tree}
use Rattle.wasm_read.specs.Reading.{Standing, CountRead}
use Rattle.wasm_read.specs.Types.{entity_tree, group_tree, val_type_tree}
use Rattle.wasm_read_component.specs.Aliases.{alias_tree, NotExact}
use Rattle.wasm_read_component.specs.Scoped.{ScopedStanding}
use Rattle.wasm_read_component.specs.declared.declarations.ComponentType.{ComponentType}
use Rattle.wasm_read_component.specs.declared.declarations.ComponentType.TheVariants as component
use Rattle.wasm_read_component.specs.declared.declarations.CoreType.{CoreType}
use Rattle.wasm_read_component.specs.declared.declarations.CoreType.TheVariants as core
use Rattle.wasm_read_component.specs.declared.declarations.ModuleTypeDeclaration.{ModuleTypeDeclaration}
use Rattle.wasm_read_component.specs.declared.declarations.ModuleTypeDeclaration.TheVariants as in_module
use Rattle.wasm_read_component.specs.declared.declarations.InstanceTypeDeclaration.{InstanceTypeDeclaration}
use Rattle.wasm_read_component.specs.declared.declarations.InstanceTypeDeclaration.TheVariants as in_instance
use Rattle.wasm_read_component.specs.declared.declarations.ComponentTypeDeclaration.{ComponentTypeDeclaration}
use Rattle.wasm_read_component.specs.declared.declarations.ComponentTypeDeclaration.TheVariants as in_component
use Rattle.wasm_read_component.specs.declared.type_rows.Scope.{Scope}
use Rattle.wasm_read_component.specs.declared.type_rows.Scope.TheVariants as scope

-- ---- resources

-- a function that is called with a resource, which may be left out
abbrev pub destructor : Shape
destructor = Shape.opt (Shape.ix space.Function)

-- a resource behind its byte
abbrev pub resource : Shape
resource = Shape.seq (Shape.ref Named.value) destructor

-- ---- declarations that are not read yet

-- A scope of the rows that a reader has left, whichever it has given.
pub record Declares (shape : Shape) (reader : Standing) (t : Tree) : Type 0 where
  pub rows : Tree
  pub is : t ≡ Tree.scope (Tree.vec rows)
  pub left : RowsLeft shape reader.left reader.rest rows

-- the same, and one scope more is open round them
pub record DeclaresAt (shape : Shape) (depth : ℕ) (reader : ScopedStanding) (t : Tree) : Type 0 where
  pub declares : Declares shape reader.rows t
  pub deeper : reader.depth ≡ depth + 1

-- A reader has read the count at the front of some bytes, and no row yet.
pub record Fresh (reader : Standing) (bytes : List ℕ) : Type 0 where
  pub body : List ℕ
  pub left : List ℕ
  pub is : bytes ≡ body ++ left
  pub read : CountRead body reader

-- this tree alone
abbrev pub Exactly : Tree → Tree → Type 0
Exactly u t = t ≡ u

-- a row of a choice by its number, behind whose byte such a tree stands
pub record Behind (k b : ℕ) (of : Tree → Type 0) (t : Tree) : Type 0 where
  pub inner : Tree
  pub is : t ≡ Tree.row k (led b inner)
  pub stands : of inner

-- the bytes behind the first say so much
pub record BehindFirst (says : List ℕ → Type 0) (bytes : List ℕ) : Type 0 where
  pub first : ℕ
  pub rest : List ℕ
  pub is : bytes ≡ first ∷ rest
  pub says_so : says rest

-- ---- module types

-- a name and the type of what is imported or exported under it
abbrev pub named_entity : Shape
named_entity = Shape.seq Shape.name entity

-- this name and the type for which this tree stands
abbrev pub named_entity_tree : List ℕ → Tree → Tree
named_entity_tree name t = Tree.pair (Tree.name name) t

-- an alias of a type so many scopes further out
abbrev pub outer_type : Shape
outer_type = lead 0x10 (lead 0x01 (Shape.outer space.Type_))

-- an alias of this type so many scopes further out
abbrev pub outer_type_tree : ℕ → ℕ → Tree
outer_type_tree c i = led 0x10 (led 0x01 (Tree.outer space.Type_ c i))

-- a declaration of a module type, behind the byte of its kind
abbrev pub module_declaration_tree : ModuleTypeDeclaration → Tree
module_declaration_tree (in_module.Type_ group) = Tree.row 1 (led 0x01 (group_tree group))
module_declaration_tree (in_module.Export name ty) = Tree.row 3 (led 0x03 (named_entity_tree name.now (entity_tree ty)))
module_declaration_tree (in_module.OuterAlias kind c i) = Tree.row 2 (led 0x02 (outer_type_tree c i))
module_declaration_tree (in_module.Import row) = Tree.row 0 (led 0x00 (Tree.pair (Tree.name row.module.now) (named_entity_tree row.name.now (entity_tree row.ty))))

-- ---- rows, where so many scopes are open round them

-- the trees that a core type stands for: a group for one, a module type for that of the declarations left
abbrev pub CoreTypeStands : CoreType → Tree → Type 0
CoreTypeStands (core.Rec group) = Exactly (core_group_tree (group_tree group))
CoreTypeStands (core.Module reader) = Behind 0 0x50 (Declares module_declaration reader)

-- the trees that a type of a component stands for: one for which a component or an instance type stands is a scope of the
-- declarations that its reader has left, in which one scope more is open
abbrev pub TypeStands : ℕ → ComponentType → Tree → Type 0
TypeStands depth (component.Defined ty) = Exactly (Tree.row 0 (component_defined_type_tree ty))
TypeStands depth (component.Func ty) = Exactly (component_func_type_tree ty)
TypeStands depth (component.Component reader) = Behind 3 0x41 (DeclaresAt component_declaration depth reader)
TypeStands depth (component.Instance reader) = Behind 4 0x42 (DeclaresAt instance_declaration depth reader)
TypeStands depth (component.Resource rep dtor) = Exactly (resource_tree (val_type_tree rep) dtor)

-- the reader that a module type has stands at the first of its declarations
abbrev pub CoreTypeBeside : List ℕ → CoreType → Type 0
CoreTypeBeside bytes (core.Module reader) = BehindFirst (Fresh reader) bytes
CoreTypeBeside bytes _ = Unit {0}

-- the reader that the type of a component or an instance has stands at the first of its declarations
abbrev pub TypeBeside : List ℕ → ComponentType → Type 0
TypeBeside bytes (component.Component reader) = BehindFirst (Fresh reader.rows) bytes
TypeBeside bytes (component.Instance reader) = BehindFirst (Fresh reader.rows) bytes
TypeBeside bytes _ = Unit {0}

-- what a scope declares
abbrev pub declaration_of : Scope → Shape
declaration_of scope.Component = component_declaration
declaration_of scope.Instance = instance_declaration

-- a name and the type of what is imported or exported under it
abbrev pub extern_tree : List ℕ → Tree → Tree
extern_tree name t = Tree.pair (extern_name_tree name) t

-- the trees that a declaration of an instance type stands for, behind the byte of its kind
abbrev pub InstanceDeclarationStands : ℕ → InstanceTypeDeclaration → Tree → Type 0
InstanceDeclarationStands depth (in_instance.CoreType ty) = Behind 0 0x00 (CoreTypeStands ty)
InstanceDeclarationStands depth (in_instance.Type_ ty) = Behind 1 0x01 (TypeStands depth ty)
InstanceDeclarationStands depth (in_instance.Alias alias) = Exactly (Tree.row 2 (led 0x02 (alias_tree alias)))
InstanceDeclarationStands depth (in_instance.Export name ty) = Exactly (Tree.row 3 (led 0x04 (extern_tree name.now (type_ref_tree ty))))

-- what the bytes of a declaration of an instance type say beside its tree: of a reader that it stands at the first row, of an alias
-- that no function is read as one of exactly its type
abbrev pub InstanceDeclarationBeside : List ℕ → InstanceTypeDeclaration → Type 0
InstanceDeclarationBeside bytes (in_instance.CoreType ty) = BehindFirst (λ rest. CoreTypeBeside rest ty) bytes
InstanceDeclarationBeside bytes (in_instance.Type_ ty) = BehindFirst (λ rest. TypeBeside rest ty) bytes
InstanceDeclarationBeside bytes (in_instance.Alias alias) = NotExact alias
InstanceDeclarationBeside bytes (in_instance.Export name ty) = Unit {0}

-- the trees that a declaration of a component type stands for, behind the byte of its kind
abbrev pub ComponentDeclarationStands : ℕ → ComponentTypeDeclaration → Tree → Type 0
ComponentDeclarationStands depth (in_component.CoreType ty) = Behind 0 0x00 (CoreTypeStands ty)
ComponentDeclarationStands depth (in_component.Type_ ty) = Behind 1 0x01 (TypeStands depth ty)
ComponentDeclarationStands depth (in_component.Alias alias) = Exactly (Tree.row 2 (led 0x02 (alias_tree alias)))
ComponentDeclarationStands depth (in_component.Export name ty) = Exactly (Tree.row 4 (led 0x04 (extern_tree name.now (type_ref_tree ty))))
ComponentDeclarationStands depth (in_component.Import row) = Exactly (Tree.row 3 (led 0x03 (component_import_tree row)))

-- the same of a declaration of a component type
abbrev pub ComponentDeclarationBeside : List ℕ → ComponentTypeDeclaration → Type 0
ComponentDeclarationBeside bytes (in_component.CoreType ty) = BehindFirst (λ rest. CoreTypeBeside rest ty) bytes
ComponentDeclarationBeside bytes (in_component.Type_ ty) = BehindFirst (λ rest. TypeBeside rest ty) bytes
ComponentDeclarationBeside bytes (in_component.Alias alias) = NotExact alias
ComponentDeclarationBeside bytes (in_component.Export name ty) = Unit {0}
ComponentDeclarationBeside bytes (in_component.Import row) = Unit {0}
