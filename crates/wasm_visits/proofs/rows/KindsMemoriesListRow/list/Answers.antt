use Rattle.std.proofs.Common.{refl}
use Rattle.wasm_read.specs.Types.{memory_type_tree}
use Rattle.wasm_visits.proofs.Runs.{walked}
use Rattle.wasm_visits.proofs.rows.KindsMemoriesListRow.list.Goals as goal

pub returns-in-Ok : goal.returns-in-Ok
returns-in-Ok c = walked 0 _ _ (memory_type_tree c.args.row) _ (c.in-Ok.ensures.default refl 0)
