use Rattle.std.proofs.Common.{codes, decimal, ◌++◌}
use Rattle.reencode_run.proofs.OutsideLemmas.{TookFront-behind_err, TookFront-longer, WhereTold-steps_ok}
use Rattle.reencode_run.proofs.answer.write_line.Goals as goal

pub returns-in-Ok-clause-ok : goal.returns-in-Ok-clause-ok
returns-in-Ok-clause-ok g c =
    WhereTold-steps_ok _ _ _ _ (c.args.text.now ++ decimal c.args.n) (codes "\n") c.in-Ok.ensures.ok c.write_all.ensures.ok

pub returns-in-Ok-clause-front : goal.returns-in-Ok-clause-front
returns-in-Ok-clause-front g c =
    TookFront-behind_err _ _ _ _ (c.args.text.now ++ decimal c.args.n) (codes "\n") c.in-Ok.ensures.ok c.write_all.ensures.front

pub returns-in-Err-clause-front : goal.returns-in-Err-clause-front
returns-in-Err-clause-front g c = TookFront-longer _ _ (c.args.text.now ++ decimal c.args.n) (codes "\n") c.in-Err.ensures.front
