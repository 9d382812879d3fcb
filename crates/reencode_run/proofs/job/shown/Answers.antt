use Rattle.std.proofs.Common.{refl}
use Rattle.reencode_run.proofs.job.shown.Goals as goal

pub returns-in-Reencode-clause-stops : goal.returns-in-Reencode-clause-stops
returns-in-Reencode-clause-stops c = rw (c.in-Reencode.is, c.alone.ensures) (refl, c.in-Err.ensures.stops)
