use Rattle.std.proofs.Common.{length}
use Rattle.reencode_c.proofs.ModulesPlaced.{SectionsSoFar}
use Rattle.reencode_c.proofs.modules.list_module.Given as goal

abbrev pub invariant-sections : goal.invariant-sections
invariant-sections l = SectionsSoFar l.bytes l.payloads.rest l.fn.lister l.lister

abbrev pub decreases-sections : goal.decreases-sections
decreases-sections l = length l.payloads.rest
