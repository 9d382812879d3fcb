use Rattle.std.proofs.Common.{length}
use Rattle.wasm_visits.proofs.ModulesListed.{SectionsSoFar}
use Rattle.wasm_visits.proofs.modules.list_module.Given as goal

abbrev pub invariant-sections : goal.invariant-sections
invariant-sections l = SectionsSoFar l.bytes l.fn.lister.visits l.lister.visits l.payloads

abbrev pub decreases-sections : goal.decreases-sections
decreases-sections l = length l.payloads.rest
