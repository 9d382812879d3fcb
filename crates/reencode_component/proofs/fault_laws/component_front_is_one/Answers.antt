use Rattle.reencode_component.proofs.sections_walked.FrontLaws as fronts
use Rattle.reencode_component.proofs.faults.OneFault as laws
use Rattle.reencode_component.proofs.fault_laws.component_front_is_one.Goals as goal

pub returns-clause-some : goal.returns-clause-some
returns-clause-some c = fronts.has_front

pub returns-clause-either : goal.returns-clause-either
returns-clause-either c = fronts.reads_or_fails

pub returns-clause-none : goal.returns-clause-none
returns-clause-none c = laws.at_fault

pub returns-clause-one : goal.returns-clause-one
returns-clause-one c = fronts.one_front
