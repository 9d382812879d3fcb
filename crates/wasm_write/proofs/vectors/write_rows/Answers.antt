use Rattle.wasm_write.proofs.Items.{items_written, items_in_range, item_too_large}
use Rattle.wasm_write.proofs.vectors.write_rows.Goals as goal

pub returns-clause-ok : goal.returns-clause-ok
returns-clause-ok g c = items_written g.T.ItemOf.tree c.args.items.now c.loop-item-test.false c.loop-item.invariant.so_far

pub returns-clause-in_range : goal.returns-clause-in_range
returns-clause-in_range g c = items_in_range g.T.ItemOf.tree c.args.items.now c.loop-item-test.false c.loop-item.invariant.so_far

pub returns-in-Err-clause-large : goal.returns-in-Err-clause-large
returns-in-Err-clause-large g c =
    item_too_large g.T.ItemOf.tree c.args.items.now c.loop-item.item-index c.item-item.result _ c.loop-item-test.true c.item-item.is c.in-Err.ensures.large
