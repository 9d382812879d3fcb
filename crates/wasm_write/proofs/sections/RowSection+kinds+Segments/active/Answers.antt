use Rattle.wasm_write.proofs.DataRows.{active_refused}
use Rattle.wasm_write.proofs.sections.RowSection+kinds+Segments.active.Goals as goal

pub returns-clause-large : goal.returns-clause-large
returns-clause-large c = active_refused c.add.result c.args.memory c.args.offset.now c.args.bytes.now _ c.len.ensures.spells c.add.ensures.large
