use Rattle.wasm_read_component.specs.ComponentRows as read
use Rattle.wasm_write_component.specs.ComponentRows as write
use Rattle.reencode_component.proofs.rows_walked.RowAdded.{list_added}
use Rattle.reencode_component.proofs.rows.parse_component_canonical.Goals as goal

pub returns : goal.returns
returns g c = list_added g.T.ReencodeIndices (read.canonical_tree c.args.func) write.canonical_tree _ _ _ _ _ c.canonical_function-row.ensures _ c.add_row.ensures
