use Rattle.wasm_strip.proofs.SortedRows.{names_behind}
use Rattle.wasm_strip.proofs.sorting.GroupsSortedRow.add.Goals as goal

pub add_map-requires : goal.add_map-requires
add_map-requires c = names_behind c.args.row c.requires c.in-Some.ensures.some
