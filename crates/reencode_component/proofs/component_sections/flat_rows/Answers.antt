use Rattle.reencode_component.proofs.sections_walked.RowsMapped.{section_rows}
use Rattle.reencode_component.proofs.sections_walked.EachSection.{section_mapped, section_unread}
use Rattle.reencode_component.proofs.rows_walked.FlatRows.{flat_clauses}
use Rattle.reencode_component.proofs.component_sections.flat_rows.Goals as goal

pub returns-in-Ok : goal.returns-in-Ok
returns-in-Ok g c =
    let i = g.T.ReencodeIndices in
    let deep = c.requires.deep in
    let kind = section_rows g.met.K.ComponentSectionKind.is_body g.K.RowKind.is_sound g.K.RowKind.is_closed in
    section_mapped i c.args.depth deep kind c.args.body.now c.args.at _ _ c.new-section.ensures c.in-Ok.ensures.ok (flat_clauses c.requires.flat deep i _ (rw c.requires.same at c.map-mapped.ensures)) c.add_rows.ensures

pub returns-in-Err : goal.returns-in-Err
returns-in-Err g c =
    let kind = section_rows g.met.K.ComponentSectionKind.is_body g.K.RowKind.is_sound g.K.RowKind.is_closed in
    section_unread g.T.ReencodeIndices c.args.depth c.requires.deep kind c.args.body.now c.args.at _ c.in-Err.ensures.err
