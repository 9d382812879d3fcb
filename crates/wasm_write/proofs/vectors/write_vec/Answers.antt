use Rattle.wasm_write.proofs.Items.{numbered_written, numbered_in_range, number_too_large, numbered_too_large}
use Rattle.wasm_write.proofs.vectors.write_vec.Goals as goal

pub returns-in-Err-clause-large : goal.returns-in-Err-clause-large
returns-in-Err-clause-large g c = number_too_large g.T.ItemOf.tree c.args.items.now c.in-Err.fault c.in-Err.ensures.large

pub returns-in-Ok-write_rows-clause-ok : goal.returns-in-Ok-write_rows-clause-ok
returns-in-Ok-write_rows-clause-ok g c = numbered_written g.T.ItemOf.tree c.args.items.now _ c.in-Ok.ensures.ok c.in-Ok-write_rows.ensures.ok

pub returns-in-Ok-write_rows-clause-in_range : goal.returns-in-Ok-write_rows-clause-in_range
returns-in-Ok-write_rows-clause-in_range g c = numbered_in_range g.T.ItemOf.tree c.args.items.now c.in-Ok.ensures.fits c.in-Ok-write_rows.ensures.in_range

pub returns-in-Err-write_rows-clause-large : goal.returns-in-Err-write_rows-clause-large
returns-in-Err-write_rows-clause-large g c = numbered_too_large g.T.ItemOf.tree c.args.items.now _ c.in-Err-write_rows.ensures.large
