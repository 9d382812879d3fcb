use Rattle.wasm_types.specs.ComponentTrees.{component_export_tree}
use Rattle.reencode_component.proofs.rows_walked.RowAdded.{item_added}
use Rattle.reencode_component.proofs.rows.parse_component_export.Goals as goal

pub returns : goal.returns
returns g c = item_added g.T.ReencodeIndices (component_export_tree c.args.export) component_export_tree _ _ _ _ _ c.component_export-row.ensures _ c.add_row.ensures
