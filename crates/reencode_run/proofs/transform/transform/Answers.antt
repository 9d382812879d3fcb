use Rattle.std.proofs.Common.{Some}
use Rattle.reencode_run.specs.Requests.{job_of}
use Rattle.reencode_run.proofs.Decided.{decided_of}
use Rattle.reencode_run.proofs.transform.transform.Goals as goal

pub returns-in-Ok-clause-decided : goal.returns-in-Ok-clause-decided
returns-in-Ok-clause-decided g c = decided_of _ _ (Some (job_of c.args.request)) _ _ (Unit {0}) c.in-Ok.ensures.ends

pub returns-in-Err-clause-decided : goal.returns-in-Err-clause-decided
returns-in-Err-clause-decided g c = rw c.status.ensures (decided_of _ _ (Some (job_of c.args.request)) _ _ (Unit {0}) c.in-Err.ensures.ends)
