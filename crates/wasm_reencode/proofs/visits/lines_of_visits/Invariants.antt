use Rattle.std.proofs.Common.{drop}
use Rattle.wasm_reencode.proofs.VisitsTold.{LinesSoFar}
use Rattle.wasm_reencode.proofs.visits.lines_of_visits.Given as goal

abbrev pub invariant-visits : goal.invariant-visits
invariant-visits l = LinesSoFar l.visits (drop l.visit-index l.visits) l.text.items
