use Rattle.std.proofs.Common.{◌++◌, codes}
use Rattle.reencode_run.specs.Answer.{text_of}
use Rattle.reencode_run.proofs.OutsideLemmas.{TookFront-longer, TookFront-two, WhereTold-two}
use Rattle.reencode_run.proofs.transform.say_of.Goals as goal

pub returns-in-Ok-clause-ok : goal.returns-in-Ok-clause-ok
returns-in-Ok-clause-ok g c = WhereTold-two _ _ _ _ (c.args.name.now ++ codes ": ") (text_of c.args.answer.now) (codes "\n") c.in-Ok.ensures.ok c.say.ensures.ok

pub returns-in-Ok-clause-front : goal.returns-in-Ok-clause-front
returns-in-Ok-clause-front g c = TookFront-two _ _ _ _ (c.args.name.now ++ codes ": ") (text_of c.args.answer.now) (codes "\n") c.in-Ok.ensures.ok c.say.ensures.front

pub returns-in-Err-clause-front : goal.returns-in-Err-clause-front
returns-in-Err-clause-front g c =
    TookFront-longer _ _ (c.args.name.now ++ codes ": " ++ text_of c.args.answer.now) (codes "\n")
    (TookFront-longer _ _ (c.args.name.now ++ codes ": ") (text_of c.args.answer.now) c.in-Err.ensures.front)
