use Rattle.wasm_write.proofs.InitRows.{global_large}
use Rattle.wasm_write.proofs.sections.RowSection+kinds+Globals.global.Goals as goal

pub returns-clause-large : goal.returns-clause-large
returns-clause-large c = global_large c.add.result c.args.ty c.args.init.now _ c.len.ensures.spells c.add.ensures.large
