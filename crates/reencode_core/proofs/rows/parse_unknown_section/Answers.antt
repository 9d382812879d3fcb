use Rattle.reencode_core.proofs.sections_walked.CustomSection.{unknown_added}
use Rattle.reencode_core.proofs.rows.parse_unknown_section.Goals as goal

pub returns : goal.returns
returns g c = unknown_added g.T.ReencodeIndices _ _ _ _ _ _ c.add_section.ensures
