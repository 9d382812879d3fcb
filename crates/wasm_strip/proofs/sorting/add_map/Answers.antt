use Rattle.wasm_shapes.proofs.Rows.{vec_is}
use Rattle.wasm_strip.proofs.sorting.add_map.Goals as goal

pub add_sorted-requires : goal.add_sorted-requires
add_sorted-requires g c = let rows = vec_is c.in-Some.ensures.some c.requires.0 c.requires.1 in record { count = _; rows = rows.0; left = rows.2 }
