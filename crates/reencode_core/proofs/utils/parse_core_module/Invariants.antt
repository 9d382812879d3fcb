use Rattle.std.proofs.Common.{length}
use Rattle.reencode_core.proofs.sections_walked.EachSection.{SectionsKept}
use Rattle.reencode_core.proofs.utils.parse_core_module.Given as goal

-- the sections so far are walked and added
abbrev pub invariant-sections : goal.invariant-sections
invariant-sections g l = SectionsKept g.T.ReencodeIndices l.initial.payloads l.initial.reencoder l.initial.module l.payloads l.last l.reencoder l.module

abbrev pub decreases-sections : goal.decreases-sections
decreases-sections g l = length l.payloads.rest
