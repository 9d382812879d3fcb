use Rattle.std.proofs.Common.{true}
use Rattle.wasm_write.proofs.ElementRows.{unplaced_fits, unplaced_large}
use Rattle.wasm_write.proofs.sections.RowSection+kinds+Elements.declared.Goals as goal

pub returns-clause-fits : goal.returns-clause-fits
returns-clause-fits c = unplaced_fits c.add.result true c.args.elements.now _ c.add.ensures.in_range c.add.ensures.fits

pub returns-clause-large : goal.returns-clause-large
returns-clause-large c = unplaced_large c.add.result true c.args.elements.now _ c.have_spellings.ensures c.add.ensures.large
