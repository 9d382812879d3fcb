use Rattle.std.proofs.Common.{◌++◌, decimal}
use Rattle.reencode_run.proofs.OutsideLemmas.{TookFront-longer, TookFront-two, WhereTold-two}
use Rattle.reencode_run.proofs.answer.write_pair.Goals as goal

pub returns-in-Ok-clause-ok : goal.returns-in-Ok-clause-ok
returns-in-Ok-clause-ok g c =
    WhereTold-two _ _ _ _ (c.args.text.now ++ decimal c.args.n) c.args.between.now (decimal c.args.m) c.in-Ok.ensures.ok c.write_number-in-Ok.ensures.ok

pub returns-in-Ok-clause-front : goal.returns-in-Ok-clause-front
returns-in-Ok-clause-front g c =
    TookFront-two _ _ _ _ (c.args.text.now ++ decimal c.args.n) c.args.between.now (decimal c.args.m) c.in-Ok.ensures.ok c.write_number-in-Ok.ensures.front

pub returns-in-Err-clause-front : goal.returns-in-Err-clause-front
returns-in-Err-clause-front g c =
    TookFront-longer _ _ ((c.args.text.now ++ decimal c.args.n) ++ c.args.between.now) (decimal c.args.m)
    (TookFront-longer _ _ (c.args.text.now ++ decimal c.args.n) c.args.between.now c.in-Err.ensures.front)
