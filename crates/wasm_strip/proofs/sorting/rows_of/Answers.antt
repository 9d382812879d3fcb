use Rattle.std.proofs.Common.{sym}
use Rattle.wasm_strip.proofs.OneSection.{none_left, some_left}
use Rattle.wasm_strip.proofs.SortedRows.{read_all, read_more, row_shrinks}
use Rattle.wasm_strip.proofs.sorting.rows_of.Goals as goal

pub rows-smaller : goal.rows-smaller
rows-smaller g c = let row = rw c.in-Ok-Some.field-0-is at c.in-Ok-Some.ensures.some in row_shrinks g.K.RowKind.rows_sound row.1

pub rows-preserved : goal.rows-preserved
rows-preserved g c =
    let row = rw c.in-Ok-Some.field-0-is at c.in-Ok-Some.ensures.some in
    rw c.in-Ok.ensures.items (read_more _ _ g.K.RowKind.is_sound g.K.RowKind.is_closed (some_left (sym c.rows-test.ensures)) c.rows.invariant row.1 row.2 c.split_at.ensures.front)

pub returns : goal.returns
returns g c = read_all _ c.rows.invariant (none_left (sym c.rows-test.ensures))
