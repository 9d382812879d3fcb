use Rattle.std.proofs.Common.{arith}
use Rattle.std.proofs.lemmas.List.{take_all}
use Rattle.reencode_run.proofs.WithoutBlanks.{none_more}
use Rattle.reencode_run.proofs.hexadecimal.has_blank.Goals as goal

pub bytes-preserved : goal.bytes-preserved
bytes-preserved c = none_more c.args.text.now c.bytes.i c.bytes.low _ c.bytes-test.true (λ e. grind (arith, e)) c.bytes.invariant

pub returns : goal.returns
returns c = λ h. rw (take_all c.bytes.i c.args.text.now (omega arith)) at (c.bytes.invariant h)
