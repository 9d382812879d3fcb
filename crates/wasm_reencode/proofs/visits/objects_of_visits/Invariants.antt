use Rattle.std.proofs.Common.{drop}
use Rattle.wasm_reencode.proofs.VisitsTold.{ObjectsSoFar}
use Rattle.wasm_reencode.proofs.visits.objects_of_visits.Given as goal

abbrev pub invariant-visits : goal.invariant-visits
invariant-visits l = ObjectsSoFar l.visits (drop l.visit-index l.visits) l.objects.items
