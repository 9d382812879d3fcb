use Rattle.std.proofs.Common.{refl}
use Rattle.wasm_shapes.specs.declared.SectionId.TheVariants as id
use Rattle.wasm_shapes.specs.Drawn.{IsItem}
use Rattle.reencode_core.proofs.rows_walked.EachRow.{rows_begun, rows_ended, rows_stuck, rows_added, rows_refused_at}
use Rattle.reencode_core.proofs.rows_walked.RowLoop.{none_or_wants}
use Rattle.reencode_core.proofs.utils.parse_data_section.Goals as goal

pub rows-init : goal.rows-init
rows-init g c = rows_begun g.T.ReencodeIndices (IsItem.row id.Data) refl refl

pub rows-preserved : goal.rows-preserved
rows-preserved g c =
    let row = rw c.in-Some.is at c.in_ok-row.ensures.row in
    rows_added g.T.ReencodeIndices c.rows.invariant row c.in_ok-parse_data.ensures

pub returns-in_err-row : goal.returns-in_err-row
returns-in_err-row g c = rows_stuck g.T.ReencodeIndices c.rows.invariant _ (none_or_wants _ _ _ c.in_err-row.ensures.err) _ c.from_residual.ensures.1

pub returns-in_err-parse_data : goal.returns-in_err-parse_data
returns-in_err-parse_data g c =
    let row = rw c.in-Some.is at c.in_ok-row.ensures.row in
    rows_refused_at g.T.ReencodeIndices c.rows.invariant row _ c.in_err-parse_data.ensures _ c.from_residual-in_err-parse_data.ensures.1

pub returns : goal.returns
returns g c = rows_ended g.T.ReencodeIndices c.rows.invariant (rw c.in_default.is at c.in_ok-row.ensures.ended)
