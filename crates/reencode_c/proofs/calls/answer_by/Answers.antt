use Rattle.std.proofs.Common.{refl, sym, ◌∙◌}
use Rattle.reencode_c.specs.Ends.{IsErrorOf, hooks_by}
use Rattle.reencode_c.specs.Outputs.{IsAnswered, IsMiscounted}
use Rattle.reencode_c.specs.Visits.{answers_next, answers_reply}
use Rattle.reencode_c.proofs.Endings.{enough_ends, has_status, stopped, taken, told, wrong_ends}
use Rattle.reencode_c.proofs.calls.answer_by.Goals as goal

pub fail-requires : goal.fail-requires
fail-requires c = has_status (stopped answers_reply answers_next c.args.ceiling c.args.bytes.now c.args.reencoder c.output_within.new.r c.in-Err.e c.in-Err.ensures)

pub returns-clause-ends : goal.returns-clause-ends
returns-clause-ends c =
    told (IsAnswered c.args.reencoder.left c.args.ceiling c.args.bytes.now) ⊥ (IsMiscounted c.args.reencoder.left c.args.ceiling c.args.bytes.now c.fail.new.self.length)
    (IsErrorOf (hooks_by answers_reply answers_next) c.args.reencoder c.args.ceiling c.args.bytes.now) c.fail.new.self c.args.room.now c.in-Err.e
    (stopped answers_reply answers_next c.args.ceiling c.args.bytes.now c.args.reencoder c.output_within.new.r c.in-Err.e c.in-Err.ensures) c.fail.ensures

pub returns-then-count-answers-clause-ends : goal.returns-then-count-answers-clause-ends
returns-then-count-answers-clause-ends c =
    let h = taken answers_reply answers_next c.args.ceiling c.args.bytes.now c.args.reencoder c.output_within.new.r c.in-Ok.output c.in-Ok.ensures in
    enough_ends c.args.reencoder c.requires h ⊥ (IsErrorOf (hooks_by answers_reply answers_next) c.args.reencoder c.args.ceiling c.args.bytes.now) c.put_output.new.outcome c.put_output.new.room
    c.in-Ok.output refl (sym c.count.ensures ∙ c.if-count-answers.true ∙ c.left-answers.ensures) c.put_output.ensures.done c.put_output.ensures.small c.put_output.ensures.other

pub returns-in-Ok-clause-ends : goal.returns-in-Ok-clause-ends
returns-in-Ok-clause-ends c =
    let h = taken answers_reply answers_next c.args.ceiling c.args.bytes.now c.args.reencoder c.output_within.new.r c.in-Ok.output c.in-Ok.ensures in
    wrong_ends c.args.reencoder c.requires h ⊥ (IsErrorOf (hooks_by answers_reply answers_next) c.args.reencoder c.args.ceiling c.args.bytes.now) c.miscounted.new.self c.args.room.now
    c.count-else-count-answers.result c.count-else-count-answers.ensures (λ e. c.if-count-answers.false (c.count.ensures ∙ e ∙ sym c.left-answers.ensures)) c.miscounted.ensures
