use Rattle.std.proofs.Common.{length}
use Rattle.wasm_visits.proofs.NamesListed.{SubsectionsSoFar}
use Rattle.wasm_visits.proofs.names.list_names.Given as goal

abbrev pub invariant-subsections : goal.invariant-subsections
invariant-subsections l = SubsectionsSoFar l.end l.contents l.rest l.fn.lister.visits l.lister.visits

abbrev pub decreases-subsections : goal.decreases-subsections
decreases-subsections l = length l.rest
