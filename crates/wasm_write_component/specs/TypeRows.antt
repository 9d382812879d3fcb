-- The trees that the types of a component stand for, and what they declare.
use Rattle.std.specs.Prelude.{List}
use Rattle.wasm_shapes.specs.declared.Space.TheVariants as space
use Rattle.wasm_shapes.specs.Tree.{Tree}
use Rattle.wasm_shapes.specs.Types.{led, vector_tree}
use Rattle.wasm_types.specs.ComponentTrees.{component_defined_type_tree, component_func_type_tree, component_import_tree, core_group_tree, extern_name_tree, resource_tree, type_ref_tree}
use Rattle.wasm_write.specs.Types.{entity_tree, group_tree, val_type_tree}
use Rattle.wasm_write.specs.Rows.{single_tree}
use Rattle.wasm_write_component.specs.Aliases.{alias_tree}
use Rattle.wasm_write_component.specs.declared.declarations.ComponentTypeRow.{ComponentTypeRow}
use Rattle.wasm_write_component.specs.declared.declarations.ComponentTypeRow.TheVariants as component
use Rattle.wasm_write_component.specs.declared.declarations.CoreType.{CoreType}
use Rattle.wasm_write_component.specs.declared.declarations.CoreType.TheVariants as core
use Rattle.wasm_write_component.specs.declared.declarations.ModuleTypeDeclaration.{ModuleTypeDeclaration}
use Rattle.wasm_write_component.specs.declared.declarations.ModuleTypeDeclaration.TheVariants as in_module
use Rattle.wasm_write_component.specs.declared.declarations.InstanceTypeDeclaration.{InstanceTypeDeclaration}
use Rattle.wasm_write_component.specs.declared.declarations.InstanceTypeDeclaration.TheVariants as in_instance
use Rattle.wasm_write_component.specs.declared.declarations.ComponentTypeDeclaration.{ComponentTypeDeclaration}
use Rattle.wasm_write_component.specs.declared.declarations.ComponentTypeDeclaration.TheVariants as in_component

-- ---- scopes

-- what a scope declares
abbrev pub scope_tree : List Tree → Tree
scope_tree declarations = Tree.scope (vector_tree declarations)

abbrev pub core_type_tree : CoreType → Tree
core_type_tree (core.Rec group) = core_group_tree (group_tree group)
core_type_tree (core.Module declarations) = Tree.row 0 (led 0x50 (scope_tree declarations))

abbrev pub component_type_tree : ComponentTypeRow → Tree
component_type_tree (component.Defined ty) = Tree.row 0 (component_defined_type_tree ty)
component_type_tree (component.Func ty) = component_func_type_tree ty
component_type_tree (component.Component declarations) = Tree.row 3 (led 0x41 (scope_tree declarations))
component_type_tree (component.Instance declarations) = Tree.row 4 (led 0x42 (scope_tree declarations))
component_type_tree (component.Resource rep dtor) = resource_tree (val_type_tree rep) dtor

-- ---- what scopes declare

abbrev pub module_declaration_tree : ModuleTypeDeclaration → Tree
module_declaration_tree (in_module.Import row) = Tree.row 0 (led 0x00 (single_tree row))
module_declaration_tree (in_module.Type_ group) = Tree.row 1 (led 0x01 (group_tree group))
module_declaration_tree (in_module.OuterAlias kind c i) = Tree.row 2 (led 0x02 (led 0x10 (led 0x01 (Tree.outer space.Type_ c i))))
module_declaration_tree (in_module.Export name ty) = Tree.row 3 (led 0x03 (Tree.pair (Tree.name name.now) (entity_tree ty)))

abbrev pub instance_declaration_tree : InstanceTypeDeclaration → Tree
instance_declaration_tree (in_instance.CoreType ty) = Tree.row 0 (led 0x00 (core_type_tree ty))
instance_declaration_tree (in_instance.Type_ ty) = Tree.row 1 (led 0x01 (component_type_tree ty))
instance_declaration_tree (in_instance.Alias alias) = Tree.row 2 (led 0x02 (alias_tree alias))
instance_declaration_tree (in_instance.Export name ty) = Tree.row 3 (led 0x04 (Tree.pair (extern_name_tree name.now) (type_ref_tree ty)))

abbrev pub component_declaration_tree : ComponentTypeDeclaration → Tree
component_declaration_tree (in_component.CoreType ty) = Tree.row 0 (led 0x00 (core_type_tree ty))
component_declaration_tree (in_component.Type_ ty) = Tree.row 1 (led 0x01 (component_type_tree ty))
component_declaration_tree (in_component.Alias alias) = Tree.row 2 (led 0x02 (alias_tree alias))
component_declaration_tree (in_component.Import row) = Tree.row 3 (led 0x03 (component_import_tree row))
component_declaration_tree (in_component.Export name ty) = Tree.row 4 (led 0x04 (Tree.pair (extern_name_tree name.now) (type_ref_tree ty)))
