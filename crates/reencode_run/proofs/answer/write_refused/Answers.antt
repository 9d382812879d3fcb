use Rattle.reencode_hooks.specs.Renamings.{unmapped_text}
use Rattle.reencode_run.proofs.OutsideLemmas.{TookFront-behind_err, TookFront-longer}
use Rattle.reencode_run.proofs.answer.write_refused.Goals as goal

pub returns-in-Ok-clause-front : goal.returns-in-Ok-clause-front
returns-in-Ok-clause-front g c =
    TookFront-behind_err _ _ _ _ (unmapped_text c.args.unmapped) c.args.end.now c.in-Ok.ensures.ok c.write_all.ensures.front

pub returns-in-Err-clause-front : goal.returns-in-Err-clause-front
returns-in-Err-clause-front g c = TookFront-longer _ _ (unmapped_text c.args.unmapped) c.args.end.now c.in-Err.ensures.front
