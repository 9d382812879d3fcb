use Rattle.wasm_reencode.proofs.VisitsTold.{objects_all, objects_more}
use Rattle.wasm_reencode.proofs.visits.objects_of_visits.Goals as goal

pub visits-preserved : goal.visits-preserved
visits-preserved c =
    objects_more c.args.visits.now c.visits.visit-index _ c.visits.objects.items c.in_ok-object_of_visit.field-0 c.visits-test.true c.visits.invariant c.in_ok-object_of_visit.ensures c.in_ok-push.ensures.items

pub returns : goal.returns
returns c = objects_all c.args.visits.now c.visits.visit-index c.visits.objects.items c.visits-test.false c.visits.invariant
