use Rattle.wasm_write.proofs.ElementRows.{active_fits, active_large}
use Rattle.wasm_write.proofs.sections.RowSection+kinds+Elements.active.Goals as goal

pub returns-clause-fits : goal.returns-clause-fits
returns-clause-fits c = active_fits c.add.result c.args.table c.args.offset.now c.args.elements.now _ c.add.ensures.in_range c.add.ensures.fits

pub returns-clause-large : goal.returns-clause-large
returns-clause-large c =
    active_large c.add.result c.args.table c.args.offset.now c.args.elements.now _ c.len.ensures.spells c.have_spellings.ensures c.add.ensures.large
