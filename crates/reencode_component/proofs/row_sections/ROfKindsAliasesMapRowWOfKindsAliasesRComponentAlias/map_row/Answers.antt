use Rattle.wasm_read_component.specs.Aliases as read
use Rattle.wasm_write_component.specs.Aliases as write
use Rattle.reencode_component.proofs.rows_walked.RowAdded.{item_added}
use Rattle.reencode_component.proofs.row_sections.ROfKindsAliasesMapRowWOfKindsAliasesRComponentAlias.map_row.Goals as goal

pub returns : goal.returns
returns g c = item_added g.T.ReencodeIndices (read.alias_tree c.args.row) write.alias_tree _ _ _ _ _ c.component_alias-row.ensures _ c.add_row.ensures
