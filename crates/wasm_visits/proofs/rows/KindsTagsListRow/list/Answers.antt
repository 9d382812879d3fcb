use Rattle.std.proofs.Common.{refl}
use Rattle.wasm_read.specs.Types.{tag_type_tree}
use Rattle.wasm_visits.proofs.Runs.{walked}
use Rattle.wasm_visits.proofs.rows.KindsTagsListRow.list.Goals as goal

pub returns-in-Ok : goal.returns-in-Ok
returns-in-Ok c = walked 0 _ _ (tag_type_tree c.args.row) _ (c.in-Ok.ensures.default refl 0)
