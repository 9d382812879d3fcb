use Rattle.std.proofs.Common.{length}
use Rattle.wasm_strip.proofs.SortedRows.{ReadSoFar}
use Rattle.wasm_strip.proofs.sorting.rows_of.Given as goal

abbrev pub invariant-rows : goal.invariant-rows
invariant-rows g l = ReadSoFar g.K.RowKind.shape l.bytes l.rest l.rows.items

abbrev pub decreases-rows : goal.decreases-rows
decreases-rows g l = length l.rest
