-- The rows of a component's sections are items, of which the visits are drawn from their bytes.
use Rattle.std.proofs.Common.{refl}
use Rattle.wasm_shapes.specs.Component.{alias, canonical_function, component_export_row, component_instance_row, component_type, core_type, extern_row, instance_row}
use Rattle.wasm_shapes.specs.Drawn.{IsItem}

pub instances : IsItem instance_row
instances = IsItem.component_row 2 instance_row refl

pub core_types : IsItem core_type
core_types = IsItem.component_row 3 core_type refl

pub component_instances : IsItem component_instance_row
component_instances = IsItem.component_row 5 component_instance_row refl

pub aliases : IsItem alias
aliases = IsItem.component_row 6 alias refl

pub component_types : IsItem component_type
component_types = IsItem.component_row 7 component_type refl

pub canonical_functions : IsItem canonical_function
canonical_functions = IsItem.component_row 8 canonical_function refl

pub imports : IsItem extern_row
imports = IsItem.component_row 10 extern_row refl

pub exports : IsItem component_export_row
exports = IsItem.component_row 11 component_export_row refl
