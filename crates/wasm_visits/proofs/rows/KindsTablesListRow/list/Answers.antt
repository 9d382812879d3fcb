use Rattle.std.proofs.Common.{refl}
use Rattle.wasm_read.specs.Types.{table_tree}
use Rattle.wasm_visits.proofs.Runs.{walked}
use Rattle.wasm_visits.proofs.rows.KindsTablesListRow.list.Goals as goal

pub returns-in-Ok : goal.returns-in-Ok
returns-in-Ok c = let made = c.in-Ok.ensures.default refl 0 in walked 0 _ _ (table_tree c.args.row) made.0 made.1
