use Rattle.std.proofs.Common.{Err, refl}
use Rattle.reencode_core.proofs.rows_walked.EachRow.{rows_begun, rows_ended, rows_stuck, rows_added, rows_refused_at}
use Rattle.reencode_core.proofs.rows_walked.OneRow.{row_mapped, row_unmapped, row_not_added, sure_left}
use Rattle.reencode_core.proofs.rows_walked.RowLoop.{none_if}
use Rattle.reencode_core.proofs.row_sections.map_section.Goals as goal

pub rows-init : goal.rows-init
rows-init g c = let kind = g.K.RowKind in rows_begun g.T.ReencodeIndices c.requires kind.is_sound kind.is_closed

pub rows-preserved : goal.rows-preserved
rows-preserved g c =
    let i = g.T.ReencodeIndices in
    let row = rw c.in-Some.is at c.in_ok-row.ensures.row in
    rows_added i c.rows.invariant row (row_mapped i (g.K.ReadRow.tree c.in-Some.row) g.B.RowOf.tree _ _ c.in_ok-made.made c.in_ok-made.ensures.default c.in_ok-add.ensures.ok)

pub returns-in_err-row : goal.returns-in_err-row
returns-in_err-row g c = rows_stuck g.T.ReencodeIndices c.rows.invariant _ (none_if g.K.ReadRow.takes_memory _ _ _ c.in_err-row.ensures.err) _ c.from_residual.ensures.1

pub returns-in_err-made : goal.returns-in_err-made
returns-in_err-made g c =
    let i = g.T.ReencodeIndices in
    let t = g.K.ReadRow.tree c.in-Some.row in
    let row = rw c.in-Some.is at c.in_ok-row.ensures.row in
    let maps = c.in_err-made.ensures.default in
    rows_refused_at i c.rows.invariant row _ (row_unmapped i t g.B.RowOf.tree _ _ _ maps (sure_left i t g.B.RowOf.tree _ _ _ maps c.in_err-made.ensures.sure) refl (Err _) refl) _ c.from_residual-in_err-made.ensures.1

pub returns-in_err-add : goal.returns-in_err-add
returns-in_err-add g c =
    let i = g.T.ReencodeIndices in
    let row = rw c.in-Some.is at c.in_ok-row.ensures.row in
    let gone = c.in_err-add.ensures in
    rows_refused_at i c.rows.invariant row _ (row_not_added i (g.K.ReadRow.tree c.in-Some.row) g.B.RowOf.tree _ _ c.in_ok-made.made _ c.in_ok-made.ensures.default gone.err gone.large (Err _) refl) _ c.from_residual-in_err-add.ensures.1

pub returns : goal.returns
returns g c = rows_ended g.T.ReencodeIndices c.rows.invariant (rw c.in_default.is at c.in_ok-row.ensures.ended)
