use Rattle.wasm_types.specs.ComponentTrees.{component_import_tree}
use Rattle.reencode_component.proofs.rows_walked.RowAdded.{item_added}
use Rattle.reencode_component.proofs.row_sections.ROfKindsComponentImportsMapRowWOfKindsComponentImportsRComponentImport.map_row.Goals as goal

pub returns : goal.returns
returns g c = item_added g.T.ReencodeIndices (component_import_tree c.args.row) component_import_tree _ _ _ _ _ c.component_import-row.ensures _ c.add_row.ensures
