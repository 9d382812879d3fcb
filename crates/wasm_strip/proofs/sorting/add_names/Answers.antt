use Rattle.wasm_strip.proofs.SortedRows.{names_fill}
use Rattle.wasm_strip.proofs.sorting.add_names.Goals as goal

pub add_sorted-requires : goal.add_sorted-requires
add_sorted-requires c = names_fill c.requires
