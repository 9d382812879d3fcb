use Rattle.wasm_write.proofs.InitRows.{table_with_init_large}
use Rattle.wasm_write.proofs.sections.RowSection+kinds+Tables.table_with_init.Goals as goal

pub returns-clause-large : goal.returns-clause-large
returns-clause-large c = table_with_init_large c.add.result c.args.ty c.args.init.now _ c.len.ensures.spells c.add.ensures.large
