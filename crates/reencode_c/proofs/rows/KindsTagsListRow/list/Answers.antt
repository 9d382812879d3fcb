use Rattle.std.proofs.Common.{refl}
use Rattle.wasm_read.specs.Types.{tag_type_tree}
use Rattle.reencode_c.proofs.Runs.{listed_walk}
use Rattle.reencode_c.proofs.rows.KindsTagsListRow.list.Goals as goal

pub returns-in-Ok : goal.returns-in-Ok
returns-in-Ok c = listed_walk 0 _ _ (tag_type_tree c.args.row) _ (c.in-Ok.ensures.default refl 0)
