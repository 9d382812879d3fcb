use Rattle.wasm_strip.proofs.SortedRows.{WrittenSoFar}
use Rattle.wasm_strip.proofs.sorting.add_rows.Given as goal

abbrev pub invariant-rows : goal.invariant-rows
invariant-rows g l = WrittenSoFar g.K.SortedRow.written l.rows l.row-index l.initial.out.items l.out.items
