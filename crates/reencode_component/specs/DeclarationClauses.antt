-- What a call that maps a type of a component, or what such a type declares, promises, whole: one record for each kind of call. `i` are
-- the meanings of the reencoder; `s` is its state and `old` what a scope declares before the call, `m` and `new` are the same after it.
use Rattle.std.specs.Prelude.{List, [], Result}
use Rattle.wasm_shapes.specs.Tree.{Tree}
use Rattle.wasm_shapes.specs.Types.{led}
use Rattle.wasm_shapes.specs.Shape.{Shape}
use Rattle.wasm_shapes.specs.Component.{component_declaration, instance_declaration}
use Rattle.wasm_types.specs.ComponentTrees.{component_defined_type_tree, component_func_type_tree, component_import_tree, resource_tree, type_ref_tree}
use Rattle.wasm_read.specs.Types.{val_type_tree}
use Rattle.wasm_read_component.specs.Aliases.{alias_tree}
use Rattle.wasm_read_component.specs.Scoped.{ScopedStanding}
use Rattle.wasm_read_component.specs.TypeRows.{extern_tree}
use Rattle.wasm_read_component.specs.declared.declarations.ComponentType.{ComponentType}
use Rattle.wasm_read_component.specs.declared.declarations.ComponentType.TheVariants as component
use Rattle.wasm_read_component.specs.declared.declarations.ComponentTypeDeclaration.{ComponentTypeDeclaration}
use Rattle.wasm_read_component.specs.declared.declarations.ComponentTypeDeclaration.TheVariants as in_component
use Rattle.wasm_read_component.specs.declared.declarations.InstanceTypeDeclaration.{InstanceTypeDeclaration}
use Rattle.wasm_read_component.specs.declared.declarations.InstanceTypeDeclaration.TheVariants as in_instance
use Rattle.wasm_write_component.specs.declared.declarations.ComponentTypeRow.{ComponentTypeRow}
use Rattle.wasm_write_component.specs.declared.declarations.ComponentTypeDeclaration as made_component
use Rattle.wasm_write_component.specs.declared.declarations.InstanceTypeDeclaration as made_instance
use Rattle.wasm_write_component.specs.TypeRows as write
use Rattle.reencode_hooks.specs.declared.error.Error.{Error}
use Rattle.reencode_hooks.specs.declared.indices.ReencodeIndices.{Ghosts}
use Rattle.reencode_items.specs.Clauses.{ListClauses}
use Rattle.reencode_core.specs.Clauses.{asks}
use Rattle.reencode_component.specs.Clauses.{AddsRow}
use Rattle.reencode_component.specs.ScopedRows.{ShallowFault, StopsShallow, shallow_rows_in}
use Rattle.reencode_component.specs.TypeClauses.{CoreTypeWithin, ScopeBy}

-- ---- a scope, of whose rows none opens a scope too many

-- A scope is opened, the rows that a reader still has are mapped, and it is closed.
abbrev pub ShallowScopeClauses : {S E A : Type 0} → Ghosts S E → Shape → ScopedStanding → (Tree → Tree) → (A → Tree) → S → S → Result A (Error E) → Type 0
ShallowScopeClauses i row reader within view s m result =
    ScopeBy i (shallow_rows_in row reader) (λ c n made at. ShallowFault (asks i) c row reader (n, []) (m, made) at)
    (λ c n made e. StopsShallow (asks i) c row reader (n, []) e (m, made)) within view s m result

-- ---- types of components

-- a type: one that holds no scope, or what a component type or an instance type declares; `within` says where it stands
abbrev pub TypeWithin : {S E A : Type 0} → Ghosts S E → (Tree → Tree) → (A → Tree) → ComponentType → S → S → Result A (Error E) → Type 0
TypeWithin i within view (component.Defined ty) s m result = ListClauses i (within (Tree.row 0 (component_defined_type_tree ty))) view s m result
TypeWithin i within view (component.Func ty) s m result = ListClauses i (within (component_func_type_tree ty)) view s m result
TypeWithin i within view (component.Component reader) s m result = ShallowScopeClauses i component_declaration reader (λ t. within (Tree.row 3 (led 0x41 t))) view s m result
TypeWithin i within view (component.Instance reader) s m result = ShallowScopeClauses i instance_declaration reader (λ t. within (Tree.row 4 (led 0x42 t))) view s m result
TypeWithin i within view (component.Resource rep dtor) s m result = ListClauses i (within (resource_tree (val_type_tree rep) dtor)) view s m result

abbrev pub ComponentTypeClauses : {S E : Type 0} → Ghosts S E → ComponentType → S → S → Result ComponentTypeRow (Error E) → Type 0
ComponentTypeClauses i ty s m result = TypeWithin i (λ t. t) write.component_type_tree ty s m result

-- ---- what a scope declares

-- what a component type declares is mapped
abbrev pub ComponentDeclarationClauses : {S E : Type 0} → Ghosts S E → ComponentTypeDeclaration → S → S → Result made_component.ComponentTypeDeclaration (Error E) → Type 0
ComponentDeclarationClauses i (in_component.CoreType ty) s m result = CoreTypeWithin i (λ t. Tree.row 0 (led 0x00 t)) write.component_declaration_tree ty s m result
ComponentDeclarationClauses i (in_component.Type_ ty) s m result = TypeWithin i (λ t. Tree.row 1 (led 0x01 t)) write.component_declaration_tree ty s m result
ComponentDeclarationClauses i (in_component.Alias alias) s m result = ListClauses i (Tree.row 2 (led 0x02 (alias_tree alias))) write.component_declaration_tree s m result
ComponentDeclarationClauses i (in_component.Export name ty) s m result =
    ListClauses i (Tree.row 4 (led 0x04 (extern_tree name.now (type_ref_tree ty)))) write.component_declaration_tree s m result
ComponentDeclarationClauses i (in_component.Import row) s m result = ListClauses i (Tree.row 3 (led 0x03 (component_import_tree row))) write.component_declaration_tree s m result

-- what an instance type declares is mapped
abbrev pub InstanceDeclarationClauses : {S E : Type 0} → Ghosts S E → InstanceTypeDeclaration → S → S → Result made_instance.InstanceTypeDeclaration (Error E) → Type 0
InstanceDeclarationClauses i (in_instance.CoreType ty) s m result = CoreTypeWithin i (λ t. Tree.row 0 (led 0x00 t)) write.instance_declaration_tree ty s m result
InstanceDeclarationClauses i (in_instance.Type_ ty) s m result = TypeWithin i (λ t. Tree.row 1 (led 0x01 t)) write.instance_declaration_tree ty s m result
InstanceDeclarationClauses i (in_instance.Alias alias) s m result = ListClauses i (Tree.row 2 (led 0x02 (alias_tree alias))) write.instance_declaration_tree s m result
InstanceDeclarationClauses i (in_instance.Export name ty) s m result =
    ListClauses i (Tree.row 3 (led 0x04 (extern_tree name.now (type_ref_tree ty)))) write.instance_declaration_tree s m result

-- ---- the same, added

-- An item is mapped, of which this holds, and then added.
pub record MapsAndAdds {E A : Type 0} (view : A → Tree) (maps : Result A (Error E) → Type 0) (old new : List Tree) (result : Result (Unit {0}) (Error E)) : Type 0 where
  pub mapped : Result A (Error E)
  pub maps_it : maps mapped
  pub adds : AddsRow view mapped old new result

abbrev pub ComponentRowClauses : {S E : Type 0} → Ghosts S E → ComponentTypeDeclaration → S → List Tree → S → List Tree → Result (Unit {0}) (Error E) → Type 0
ComponentRowClauses i decl s old m new result = MapsAndAdds write.component_declaration_tree (λ made. ComponentDeclarationClauses i decl s m made) old new result

abbrev pub InstanceRowClauses : {S E : Type 0} → Ghosts S E → InstanceTypeDeclaration → S → List Tree → S → List Tree → Result (Unit {0}) (Error E) → Type 0
InstanceRowClauses i decl s old m new result = MapsAndAdds write.instance_declaration_tree (λ made. InstanceDeclarationClauses i decl s m made) old new result

-- a type, as a row of a section
abbrev pub TypeRowClauses : {S E : Type 0} → Ghosts S E → ComponentType → S → List Tree → S → List Tree → Result (Unit {0}) (Error E) → Type 0
TypeRowClauses i ty s old m new result = MapsAndAdds write.component_type_tree (λ made. ComponentTypeClauses i ty s m made) old new result
