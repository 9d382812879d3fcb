use Rattle.wasm_reencode.proofs.VisitsTold.{lines_all, lines_more}
use Rattle.wasm_reencode.proofs.visits.lines_of_visits.Goals as goal

pub visits-preserved : goal.visits-preserved
visits-preserved c = lines_more c.args.visits.now c.visits.visit-index _ c.visits.text.items c.visits-test.true c.visits.invariant c.in_ok-add_visit.ensures

pub returns : goal.returns
returns c = lines_all c.args.visits.now c.visits.visit-index c.visits.text.items c.visits-test.false c.visits.invariant
