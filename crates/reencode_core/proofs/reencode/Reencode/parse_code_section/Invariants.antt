use Rattle.reencode_core.proofs.bodies.EachBody.{CodeKept}
use Rattle.reencode_core.proofs.reencode.Reencode.parse_code_section.Given as goal

-- the rows so far are walked and added
abbrev pub invariant-rows : goal.invariant-rows
invariant-rows g l = CodeKept g.Self.ReencodeIndices l.initial.rows l.initial.self l.initial.code l.rows l.self l.code

abbrev pub decreases-rows : goal.decreases-rows
decreases-rows g l = l.rows.left
