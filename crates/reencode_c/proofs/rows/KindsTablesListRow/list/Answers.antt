use Rattle.std.proofs.Common.{refl}
use Rattle.wasm_read.specs.Types.{table_tree}
use Rattle.reencode_c.proofs.Runs.{listed_walk}
use Rattle.reencode_c.proofs.rows.KindsTablesListRow.list.Goals as goal

pub returns-in-Ok : goal.returns-in-Ok
returns-in-Ok c = let made = c.in-Ok.ensures.default refl 0 in listed_walk 0 _ _ (table_tree c.args.row) made.0 made.1
