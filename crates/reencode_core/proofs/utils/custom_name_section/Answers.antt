use Rattle.reencode_core.proofs.names_mapped.FormatLaws.{core_laws}
use Rattle.reencode_core.proofs.names_mapped.SubsectionLoop.{names_begun, names_ended, names_on, names_refused, names_stuck}
use Rattle.reencode_core.proofs.utils.custom_name_section.Goals as goal

pub rows-init : goal.rows-init
rows-init g c = names_begun core_laws g.T.ReencodeIndices c.new-names.ensures

pub rows-preserved : goal.rows-preserved
rows-preserved g c = names_on core_laws g.T.ReencodeIndices c.rows.invariant (rw c.in-Some.is at c.in_ok-name.ensures.row) c.in-Ok.ensures

pub returns-in_err-name : goal.returns-in_err-name
returns-in_err-name g c = names_stuck core_laws g.T.ReencodeIndices c.rows.invariant _ c.in_err-name.ensures.err _ c.from_residual.ensures.1

pub returns-in-Err : goal.returns-in-Err
returns-in-Err g c =
    let row = rw c.in-Some.is at c.in_ok-name.ensures.row in
    names_refused core_laws g.T.ReencodeIndices c.rows.invariant row c.in-Err.e c.place-at.result c.in-Err.ensures c.place-at.ensures _ c.placed.ensures

pub returns-in-None : goal.returns-in-None
returns-in-None g c = names_ended core_laws g.T.ReencodeIndices c.rows.invariant (rw c.in-None.is at c.in_ok-name.ensures.ended).0
