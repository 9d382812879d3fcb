use Rattle.std.proofs.Common.{refl}
use Rattle.wasm_read.specs.Types.{import_tree}
use Rattle.wasm_visits.proofs.Runs.{walked}
use Rattle.wasm_visits.proofs.rows.KindsImportsListRow.list.Goals as goal

pub returns-in-Ok : goal.returns-in-Ok
returns-in-Ok c = let made = c.in-Ok.ensures.default refl 0 in walked 0 _ _ (import_tree c.args.row) made.0 made.1
