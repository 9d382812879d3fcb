use Rattle.std.proofs.Common.{◌+◌}
use Rattle.wasm_shapes.specs.Component as shapes
use Rattle.reencode_component.proofs.rows_walked.EachShallowRow.{ShallowKept}
use Rattle.reencode_component.proofs.types_walked.TypeWeights.{component_weight, instance_weight, scope_weight, type_weight}
use Rattle.reencode_component.proofs.component_types.+types.Given as goal

-- the scopes that may still be opened, and between two the order of the calls

abbrev pub decreases-component_type : goal.decreases-component_type
decreases-component_type g l = scope_weight l.ty

abbrev pub decreases-component_instance_type : goal.decreases-component_instance_type
decreases-component_instance_type g l = scope_weight l.ty

abbrev pub decreases-parse_component_type : goal.decreases-parse_component_type
decreases-parse_component_type g l = type_weight l.ty + 1

abbrev pub decreases-component_declaration : goal.decreases-component_declaration
decreases-component_declaration g l = component_weight l.decl + 2

abbrev pub decreases-instance_declaration : goal.decreases-instance_declaration
decreases-instance_declaration g l = instance_weight l.decl + 2

abbrev pub decreases-parse_component_type_declaration : goal.decreases-parse_component_type_declaration
decreases-parse_component_type_declaration g l = component_weight l.decl + 3

abbrev pub decreases-parse_component_instance_type_declaration : goal.decreases-parse_component_instance_type_declaration
decreases-parse_component_instance_type_declaration g l = instance_weight l.decl + 3

-- the declarations so far are walked and added

abbrev pub invariant-component_type-rows : goal.invariant-component_type-rows
invariant-component_type-rows g l = ShallowKept g.T.ReencodeIndices shapes.component_declaration l.initial.rows l.initial.reencoder l.initial.made l.rows l.reencoder l.made

abbrev pub decreases-component_type-rows : goal.decreases-component_type-rows
decreases-component_type-rows g l = l.rows.rows.left

abbrev pub invariant-component_instance_type-rows : goal.invariant-component_instance_type-rows
invariant-component_instance_type-rows g l = ShallowKept g.T.ReencodeIndices shapes.instance_declaration l.initial.rows l.initial.reencoder l.initial.made l.rows l.reencoder l.made

abbrev pub decreases-component_instance_type-rows : goal.decreases-component_instance_type-rows
decreases-component_instance_type-rows g l = l.rows.rows.left
