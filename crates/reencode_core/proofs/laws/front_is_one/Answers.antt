use Rattle.reencode_core.proofs.faults.OneFront as fronts
use Rattle.reencode_core.proofs.laws.front_is_one.Goals as goal

pub returns-clause-some : goal.returns-clause-some
returns-clause-some c = fronts.has_front

pub returns-clause-either : goal.returns-clause-either
returns-clause-either c = fronts.reads_or_fails

pub returns-clause-one : goal.returns-clause-one
returns-clause-one c = fronts.one_front
