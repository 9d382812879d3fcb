use Rattle.std.proofs.Common.{refl}
use Rattle.wasm_read.specs.Types.{data_tree}
use Rattle.reencode_c.proofs.Runs.{listed_walk}
use Rattle.reencode_c.proofs.rows.KindsSegmentsListRow.list.Goals as goal

pub returns-in-Ok : goal.returns-in-Ok
returns-in-Ok c = let made = c.in-Ok.ensures.default refl 0 in listed_walk 0 _ _ (data_tree c.args.row) made.0 made.1
