use Rattle.reencode_core.proofs.bodies.EachBody.{code_begun, code_more, code_section_ended, code_section_refused, code_section_stuck}
use Rattle.reencode_core.proofs.utils.parse_code_section.Goals as goal

pub rows-init : goal.rows-init
rows-init g c = code_begun g.T.ReencodeIndices

pub rows-preserved : goal.rows-preserved
rows-preserved g c = code_more g.T.ReencodeIndices c.rows.invariant (rw c.in-Some.is at c.in_ok-func.ensures.row) c.in-Ok.ensures

pub returns-in_err-func : goal.returns-in_err-func
returns-in_err-func g c = code_section_stuck g.T.ReencodeIndices c.rows.invariant _ c.in_err-func.ensures.err _ c.from_residual.ensures.1

pub returns-in-Err : goal.returns-in-Err
returns-in-Err g c =
    let row = rw c.in-Some.is at c.in_ok-func.ensures.row in
    code_section_refused g.T.ReencodeIndices c.rows.invariant row c.in-Err.e c.place-at.result c.in-Err.ensures c.place-at.ensures _ c.placed.ensures

pub returns-in-None : goal.returns-in-None
returns-in-None g c = code_section_ended g.T.ReencodeIndices c.rows.invariant (rw c.in-None.is at c.in_ok-func.ensures.ended)
