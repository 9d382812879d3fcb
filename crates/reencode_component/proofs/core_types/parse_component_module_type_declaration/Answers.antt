use Rattle.wasm_read_component.specs.TypeRows as read
use Rattle.wasm_write_component.specs.TypeRows as write
use Rattle.reencode_component.proofs.rows_walked.RowAdded.{list_added}
use Rattle.reencode_component.proofs.core_types.parse_component_module_type_declaration.Goals as goal

pub returns : goal.returns
returns g c = list_added g.T.ReencodeIndices (read.module_declaration_tree c.args.decl) write.module_declaration_tree _ _ _ _ _ c.module_declaration-row.ensures _ c.add_row.ensures
