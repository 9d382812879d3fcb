use Rattle.std.proofs.Common.{◌+◌, ◌-◌, ◌*◌, List}
use Rattle.wasm_shapes.specs.Tree.{Tree}
use Rattle.wasm_shapes.proofs.Depth.{SoFar}
use Rattle.wasm_read_component.specs.TypeRows.{declaration_of}
use Rattle.wasm_read_component.proofs.type_rows.+types.Given as goal

-- the scopes that may still be opened, and at one depth the order of the calls

abbrev pub decreases-behind_scope : goal.decreases-behind_scope
decreases-behind_scope l = 4 * (200 - l.depth)

abbrev pub decreases-front_component_type : goal.decreases-front_component_type
decreases-front_component_type l = 4 * (200 - l.depth) + 1

abbrev pub decreases-front_instance_declaration : goal.decreases-front_instance_declaration
decreases-front_instance_declaration l = 4 * (200 - l.depth) + 2

abbrev pub decreases-front_component_declaration : goal.decreases-front_component_declaration
decreases-front_component_declaration l = 4 * (200 - l.depth) + 2

abbrev pub decreases-behind_declaration : goal.decreases-behind_declaration
decreases-behind_declaration l = 4 * (200 - l.depth) + 3

-- the rows before the place are readings
abbrev pub invariant-behind_scope-rows : goal.invariant-behind_scope-rows
invariant-behind_scope-rows l =
    (rows : List Tree) × SoFar (declaration_of l.fn.scope) (l.fn.depth + 1) l.initial.left l.initial.rest rows l.left l.rest

abbrev pub decreases-behind_scope-rows : goal.decreases-behind_scope-rows
decreases-behind_scope-rows l = l.left
