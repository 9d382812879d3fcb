use Rattle.wasm_shapes.specs.declared.Space.{Space}
use Rattle.wasm_shapes.specs.Module.{import_row}
use Rattle.module_spaces.specs.Counts.{counted_of}
use Rattle.module_spaces.specs.Spaces.{import_adds}
use Rattle.module_spaces.proofs.RowSums.{RowsSummed}
use Rattle.module_spaces.proofs.imports.imports_in.Given as goal

-- the rows so far are added up
abbrev pub invariant-rows : goal.invariant-rows
invariant-rows l = (s : Space) → RowsSummed import_row (import_adds s) l.body l.rows (counted_of l.sum s)

abbrev pub decreases-rows : goal.decreases-rows
decreases-rows l = l.rows.left
