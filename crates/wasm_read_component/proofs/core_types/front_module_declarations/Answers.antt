use Rattle.wasm_shapes.proofs.ComponentParts.{begins_scope}
use Rattle.wasm_read_component.proofs.NestedRows.{declared, fresh}
use Rattle.wasm_read_component.proofs.core_types.front_module_declarations.Goals as goal

pub returns-in-Ok-clause-some : goal.returns-in-Ok-clause-some
returns-in-Ok-clause-some c =
    let there = rw c.in-Ok-Some.field-0-is at c.in-Ok-Some.ensures.some in
    (_, declared _ c.bytes_before.ensures c.in-Ok.ensures.ok there.1, begins_scope there.1)

pub returns-in-Ok-clause-fresh : goal.returns-in-Ok-clause-fresh
returns-in-Ok-clause-fresh c =
    let there = rw c.in-Ok-Some.field-0-is at c.in-Ok-Some.ensures.some in
    fresh _ c.bytes_before.ensures c.in-Ok.ensures.ok there.1
