use Rattle.wasm_shapes.specs.Module.{element_row}
use Rattle.reencode_core.proofs.rows_walked.EachRow.{RowsKept}
use Rattle.reencode_core.proofs.utils.parse_element_section.Given as goal

-- the rows so far are walked and added
abbrev pub invariant-rows : goal.invariant-rows
invariant-rows g l = RowsKept g.T.ReencodeIndices element_row l.initial.rows l.initial.reencoder l.initial.elements l.rows l.reencoder l.elements

abbrev pub decreases-rows : goal.decreases-rows
decreases-rows g l = l.rows.left
