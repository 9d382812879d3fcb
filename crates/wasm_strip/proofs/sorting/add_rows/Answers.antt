use Rattle.std.proofs.lemmas.List.{drop_all}
use Rattle.wasm_strip.proofs.SortedRows.{written_all, written_more}
use Rattle.wasm_strip.proofs.sorting.add_rows.Goals as goal

pub rows-preserved : goal.rows-preserved
rows-preserved g c = let w = c.in_ok-add.ensures in written_more _ w.0 c.rows-test.true c.rows.invariant w.1 w.2

pub returns : goal.returns
returns g c = written_all c.rows.invariant (drop_all _ _ c.rows-test.false)
