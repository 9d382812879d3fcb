use Rattle.wasm_shapes.specs.Module.{table_row}
use Rattle.reencode_core.proofs.rows_walked.EachRow.{RowsKept}
use Rattle.reencode_core.proofs.reencode.Reencode.parse_table_section.Given as goal

-- the rows so far are walked and added
abbrev pub invariant-rows : goal.invariant-rows
invariant-rows g l = RowsKept g.Self.ReencodeIndices table_row l.initial.rows l.initial.self l.initial.tables l.rows l.self l.tables

abbrev pub decreases-rows : goal.decreases-rows
decreases-rows g l = l.rows.left
