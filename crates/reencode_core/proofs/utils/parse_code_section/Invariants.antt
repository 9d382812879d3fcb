use Rattle.reencode_core.proofs.bodies.EachBody.{CodeKept}
use Rattle.reencode_core.proofs.utils.parse_code_section.Given as goal

-- the rows so far are walked and added
abbrev pub invariant-rows : goal.invariant-rows
invariant-rows g l = CodeKept g.T.ReencodeIndices l.initial.rows l.initial.reencoder l.initial.code l.rows l.reencoder l.code

abbrev pub decreases-rows : goal.decreases-rows
decreases-rows g l = l.rows.left
