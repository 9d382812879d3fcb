use Rattle.reencode_core.proofs.rows_walked.RowLoop.{none_if}
use Rattle.reencode_component.proofs.rows_walked.EachShallowRow.{shallow_added, shallow_begun, shallow_ended, shallow_refused, shallow_stuck}
use Rattle.reencode_component.proofs.scoped_sections.map_scoped_rows.Goals as goal

pub rows-init : goal.rows-init
rows-init g c = let kind = g.K.RowKind in shallow_begun g.T.ReencodeIndices c.requires.item kind.is_sound kind.is_closed

pub rows-preserved : goal.rows-preserved
rows-preserved g c =
    let row = rw c.in-Some.is at c.in_ok-row.ensures.row in
    let reads = row.reads in
    shallow_added g.T.ReencodeIndices c.rows.invariant row (c.in_ok-map_row.ensures _ reads.tree (c.requires.same _ _ _ reads.is) reads.begins.shallow)

pub returns-in_err-row : goal.returns-in_err-row
returns-in_err-row g c = shallow_stuck g.T.ReencodeIndices c.rows.invariant _ (none_if g.K.ReadRowAt.takes_memory _ _ _ c.in_err-row.ensures.err) _ c.from_residual.ensures.1

pub returns-in_err-map_row : goal.returns-in_err-map_row
returns-in_err-map_row g c =
    let row = rw c.in-Some.is at c.in_ok-row.ensures.row in
    let reads = row.reads in
    shallow_refused g.T.ReencodeIndices c.rows.invariant row _ (c.in_err-map_row.ensures _ reads.tree (c.requires.same _ _ _ reads.is) reads.begins.shallow) _ c.from_residual-in_err-map_row.ensures.1

pub returns : goal.returns
returns g c =
    let ended = rw c.in_default.is at c.in_ok-row.ensures.ended in
    shallow_ended g.T.ReencodeIndices c.rows.invariant ended.0
