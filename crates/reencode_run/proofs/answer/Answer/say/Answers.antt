use Rattle.std.proofs.Common.{◌++◌, ℕ, Option, codes, subst}
use Rattle.std.specs.Prelude.{OnErr, OnOk}
use Rattle.reencode_run.specs.Answer.{by_text, fault_text, said_by}
use Rattle.reencode_run.specs.Outside.{WhereTold, followed, TookFront}
use Rattle.reencode_run.proofs.OutsideLemmas.{TookFront-longer, TookFront-two, WhereTold-two}
use Rattle.reencode_run.proofs.answer.Answer.say.Goals as goal

pub returns-in-Ok-clause-ok : goal.returns-in-Ok-clause-ok
returns-in-Ok-clause-ok g c =
    let e = c.in-Reencoding.e in
    let h = subst (λ (b : Option ℕ). OnOk c.end_line.result (WhereTold (g.D.Sink.held c.end_line.new.err) (followed (g.D.Sink.held c.say.new.err) (by_text b ++ codes "\n")))) c.said_by.ensures c.end_line.ensures.ok in
    rw c.in-Reencoding.is (WhereTold-two _ _ _ _ (fault_text e.fault) (by_text (said_by e.fault e.by)) (codes "\n") c.in-Ok.ensures.ok h)

pub returns-in-Ok-clause-front : goal.returns-in-Ok-clause-front
returns-in-Ok-clause-front g c =
    let e = c.in-Reencoding.e in
    let h = subst (λ (b : Option ℕ). OnErr c.end_line.result (TookFront (g.D.Sink.held c.say.new.err) (g.D.Sink.held c.end_line.new.err) (by_text b ++ codes "\n"))) c.said_by.ensures c.end_line.ensures.front in
    rw c.in-Reencoding.is (TookFront-two _ _ _ _ (fault_text e.fault) (by_text (said_by e.fault e.by)) (codes "\n") c.in-Ok.ensures.ok h)

pub returns-in-Err-clause-front : goal.returns-in-Err-clause-front
returns-in-Err-clause-front g c =
    let e = c.in-Reencoding.e in
    rw c.in-Reencoding.is
    (TookFront-longer _ _ (fault_text e.fault ++ by_text (said_by e.fault e.by)) (codes "\n")
    (TookFront-longer _ _ (fault_text e.fault) (by_text (said_by e.fault e.by)) c.in-Err.ensures.front))
