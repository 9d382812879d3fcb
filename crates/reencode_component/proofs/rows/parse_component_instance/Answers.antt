use Rattle.wasm_types.specs.ComponentTrees.{component_instance_tree}
use Rattle.reencode_component.proofs.rows_walked.RowAdded.{list_added}
use Rattle.reencode_component.proofs.rows.parse_component_instance.Goals as goal

pub returns : goal.returns
returns g c = list_added g.T.ReencodeIndices (component_instance_tree c.args.instance) component_instance_tree _ _ _ _ _ c.component_instance-row.ensures _ c.add_row.ensures
