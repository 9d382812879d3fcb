use Rattle.wasm_shapes.specs.Shape.{Shape, Named}
use Rattle.reencode_core.proofs.rows_walked.EachRow.{RowsKept}
use Rattle.reencode_core.proofs.reencode.Reencode.parse_type_section.Given as goal

-- the rows so far are walked and added
abbrev pub invariant-rows : goal.invariant-rows
invariant-rows g l = RowsKept g.Self.ReencodeIndices (Shape.ref Named.group) l.initial.rows l.initial.self l.initial.types l.rows l.self l.types

abbrev pub decreases-rows : goal.decreases-rows
decreases-rows g l = l.rows.left
