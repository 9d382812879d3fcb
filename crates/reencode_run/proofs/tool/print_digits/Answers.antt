use Rattle.std.proofs.Common.{◌++◌, codes}
use Rattle.hex.specs.Hex.{encode_lower}
use Rattle.reencode_run.proofs.OutsideLemmas.{TookFront-longer, TookFront-two, WhereTold-two}
use Rattle.reencode_run.proofs.tool.print_digits.Goals as goal

pub returns-in-Ok-clause-ok : goal.returns-in-Ok-clause-ok
returns-in-Ok-clause-ok g c = WhereTold-two _ _ _ _ (encode_lower c.args.output.now) (codes "\n") c.args.lines.now c.in-Ok.ensures.ok c.write_both.ensures.ok

pub returns-in-Ok-clause-front : goal.returns-in-Ok-clause-front
returns-in-Ok-clause-front g c = TookFront-two _ _ _ _ (encode_lower c.args.output.now) (codes "\n") c.args.lines.now c.in-Ok.ensures.ok c.write_both.ensures.front

pub returns-in-Err-clause-front : goal.returns-in-Err-clause-front
returns-in-Err-clause-front g c =
    TookFront-longer _ _ (encode_lower c.args.output.now ++ codes "\n") c.args.lines.now (TookFront-longer _ _ (encode_lower c.args.output.now) (codes "\n") c.in-Err.ensures.front)
