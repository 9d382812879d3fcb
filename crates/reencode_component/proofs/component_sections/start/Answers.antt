use Rattle.reencode_component.proofs.sections_walked.EachSection.{frame_wanted, start_added, start_unread}
use Rattle.reencode_component.proofs.component_sections.start.Goals as goal

pub returns-in-Ok : goal.returns-in-Ok
returns-in-Ok g c = start_added g.T.ReencodeIndices c.args.depth c.requires c.args.body.now c.args.at c.in-Ok.func c.in-Ok.ensures.ok _ c.parse_component_start_section.ensures

pub returns-in-Err-Read : goal.returns-in-Err-Read
returns-in-Err-Read g c = start_unread g.T.ReencodeIndices c.args.depth c.requires c.args.body.now c.args.at (rw c.in-Err-Read.field-0-is at c.in-Err-Read.ensures.err).none

pub returns-in-Err : goal.returns-in-Err
returns-in-Err g c = frame_wanted g.T.ReencodeIndices c.args.depth _ c.args.at _ _
