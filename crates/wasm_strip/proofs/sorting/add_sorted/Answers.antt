use Rattle.wasm_strip.proofs.SortedRows.{ordered_rows}
use Rattle.wasm_strip.proofs.sorting.add_sorted.Goals as goal

pub add_rows-requires : goal.add_rows-requires
add_rows-requires g c = rw c.as_slice.ensures.value (ordered_rows c.in_ok-rows.ensures)
