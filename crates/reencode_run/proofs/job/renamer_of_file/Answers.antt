use Rattle.std.proofs.Common.{refl}
use Rattle.reencode_run.specs.Words.{of_renaming}
use Rattle.reencode_run.proofs.job.renamer_of_file.Goals as goal

pub returns-in-Err-clause-stops : goal.returns-in-Err-clause-stops
returns-in-Err-clause-stops g c = c.in-Err.ensures.stops of_renaming refl
