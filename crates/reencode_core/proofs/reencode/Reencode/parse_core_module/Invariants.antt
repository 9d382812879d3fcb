use Rattle.std.proofs.Common.{length}
use Rattle.reencode_core.proofs.sections_walked.EachSection.{SectionsKept}
use Rattle.reencode_core.proofs.reencode.Reencode.parse_core_module.Given as goal

-- the sections so far are walked and added
abbrev pub invariant-sections : goal.invariant-sections
invariant-sections g l = SectionsKept g.Self.ReencodeIndices l.initial.payloads l.initial.self l.initial.module l.payloads l.last l.self l.module

abbrev pub decreases-sections : goal.decreases-sections
decreases-sections g l = length l.payloads.rest
