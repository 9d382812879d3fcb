use Rattle.std.proofs.Common.{refl}
use Rattle.wasm_shapes.specs.Shape.{Named}
use Rattle.wasm_shapes.specs.Component.{component_type_rows}
use Rattle.wasm_write.proofs.Holding.{OnOk-map}
use Rattle.wasm_write_component.proofs.TypeSpelling.{choice_spelled, defined_spelled, func_spelled, named_spelled, resource_spelled}
use Rattle.wasm_write_component.proofs.type_rows.ComponentTypeRowRowOfOfComponent_kindsComponentTypes.write.Goals as goal

pub returns-in-Defined-clause-spells : goal.returns-in-Defined-clause-spells
returns-in-Defined-clause-spells c = rw c.in-Defined.is (OnOk-map c.write_defined_type.result c.write_defined_type.ensures.in_range (defined_spelled c.in-Defined.ty))

pub returns-in-Func-clause-spells : goal.returns-in-Func-clause-spells
returns-in-Func-clause-spells c = rw c.in-Func.is (OnOk-map c.write_component_func_type.result c.write_component_func_type.ensures.in_range (func_spelled c.in-Func.ty))

pub returns-in-Ok-clause-spells : goal.returns-in-Ok-clause-spells
returns-in-Ok-clause-spells c = rw c.in-Component.is (named_spelled Named.component_type (choice_spelled component_type_rows 3 0x41 refl c.in-Ok.ensures.spells))

pub returns-in-Ok-write_scope-clause-spells : goal.returns-in-Ok-write_scope-clause-spells
returns-in-Ok-write_scope-clause-spells c = rw c.in-Instance.is (named_spelled Named.component_type (choice_spelled component_type_rows 4 0x42 refl c.in-Ok-write_scope.ensures.spells))

pub returns-in-Ok-write_resource-clause-spells : goal.returns-in-Ok-write_resource-clause-spells
returns-in-Ok-write_resource-clause-spells c = rw c.in-Resource.is (resource_spelled c.in-Resource.rep c.in-Resource.dtor c.in-Ok-write_resource.ensures.in_range)
