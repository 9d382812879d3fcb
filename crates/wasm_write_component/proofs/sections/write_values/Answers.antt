use Rattle.wasm_write.proofs.Items.{numbered_written}
use Rattle.wasm_write_component.specs.ComponentRows.{value_index_tree}
use Rattle.wasm_write_component.proofs.sections.write_values.Goals as goal

pub returns-in-Ok-write_rows-clause-ok : goal.returns-in-Ok-write_rows-clause-ok
returns-in-Ok-write_rows-clause-ok c = numbered_written value_index_tree c.args.values.now _ c.in-Ok.ensures.ok c.in-Ok-write_rows.ensures.ok
