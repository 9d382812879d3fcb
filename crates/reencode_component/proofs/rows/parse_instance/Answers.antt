use Rattle.wasm_types.specs.ComponentTrees.{instance_tree}
use Rattle.wasm_read.specs.Types.{export_tree}
use Rattle.wasm_write_component.specs.ComponentRows as write
use Rattle.reencode_component.proofs.rows_walked.RowAdded.{list_added}
use Rattle.reencode_component.proofs.rows.parse_instance.Goals as goal

pub returns : goal.returns
returns g c = list_added g.T.ReencodeIndices (instance_tree export_tree c.args.instance) write.instance_tree _ _ _ _ _ c.instance-row.ensures _ c.add_row.ensures
