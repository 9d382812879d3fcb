use Rattle.reencode_run.proofs.OutsideLemmas.{TookFront-behind_err, TookFront-longer}
use Rattle.reencode_run.proofs.write.write_both.Goals as goal

pub returns-in-Ok-clause-front : goal.returns-in-Ok-clause-front
returns-in-Ok-clause-front g c =
    TookFront-behind_err _ _ _ _ c.args.first.now c.args.second.now c.in-Ok.ensures.ok c.write_all-in-Ok.ensures.front

pub returns-in-Err-clause-front : goal.returns-in-Err-clause-front
returns-in-Err-clause-front g c = TookFront-longer _ _ c.args.first.now c.args.second.now c.in-Err.ensures.front
