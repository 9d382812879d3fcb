use Rattle.std.proofs.Common.{refl}
use Rattle.reencode_run.specs.Words.{of_module}
use Rattle.reencode_run.proofs.job.module_of_file.Goals as goal

pub returns-in-Err-clause-stops : goal.returns-in-Err-clause-stops
returns-in-Err-clause-stops g c = c.in-Err.ensures.stops (of_module c.args.most) refl
