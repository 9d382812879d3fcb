use Rattle.reencode_core.proofs.rows_walked.EachRow.{rows_begun, rows_ended, rows_stuck, rows_added, rows_refused_at}
use Rattle.reencode_core.proofs.rows_walked.RowLoop.{none_if}
use Rattle.reencode_component.proofs.row_sections.map_rows.Goals as goal

pub rows-init : goal.rows-init
rows-init g c = let kind = g.K.RowKind in rows_begun g.T.ReencodeIndices c.requires.item kind.is_sound kind.is_closed

pub rows-preserved : goal.rows-preserved
rows-preserved g c =
    let row = rw c.in-Some.is at c.in_ok-row.ensures.row in
    rows_added g.T.ReencodeIndices c.rows.invariant row (rw c.requires.same at c.in_ok-map_row.ensures)

pub returns-in_err-row : goal.returns-in_err-row
returns-in_err-row g c = rows_stuck g.T.ReencodeIndices c.rows.invariant _ (none_if g.K.ReadRow.takes_memory _ _ _ c.in_err-row.ensures.err) _ c.from_residual.ensures.1

pub returns-in_err-map_row : goal.returns-in_err-map_row
returns-in_err-map_row g c =
    let row = rw c.in-Some.is at c.in_ok-row.ensures.row in
    rows_refused_at g.T.ReencodeIndices c.rows.invariant row _ (rw c.requires.same at c.in_err-map_row.ensures) _ c.from_residual-in_err-map_row.ensures.1

pub returns : goal.returns
returns g c = rows_ended g.T.ReencodeIndices c.rows.invariant (rw c.in_default.is at c.in_ok-row.ensures.ended)
