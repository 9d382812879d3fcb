use Rattle.std.proofs.Common.{subst}
use Rattle.reencode_c.specs.Ends.{Ends, IsErrorOf, hooks_by}
use Rattle.reencode_c.specs.Outputs.{IsAnswered, IsMiscounted}
use Rattle.reencode_c.specs.Visits.{Answering, answers_next, answers_reply}
use Rattle.reencode_c.proofs.calls.answer.Goals as goal

pub returns-clause-ends : goal.returns-clause-ends
returns-clause-ends c =
    subst (λ (a : Answering). Ends (IsAnswered a.left c.args.ceiling c.args.bytes.now) ⊥ (IsMiscounted a.left c.args.ceiling c.args.bytes.now c.answer_by.new.outcome.length)
    (IsErrorOf (hooks_by answers_reply answers_next) a c.args.ceiling c.args.bytes.now) c.answer_by.new.outcome c.answer_by.new.room c.answer_by.new.outcome.status) c.new.ensures c.answer_by.ensures.ends
