use Rattle.wasm_shapes.specs.Component.{module_declaration}
use Rattle.reencode_core.proofs.rows_walked.EachRow.{RowsKept}
use Rattle.reencode_component.proofs.component_rows.ReencodeComponentRows.component_module_type.Given as goal

-- the declarations so far are walked and added
abbrev pub invariant-rows : goal.invariant-rows
invariant-rows g l = RowsKept g.Self.ReencodeIndices module_declaration l.initial.rows l.initial.self l.initial.«module» l.rows l.self l.«module»

abbrev pub decreases-rows : goal.decreases-rows
decreases-rows g l = l.rows.left
