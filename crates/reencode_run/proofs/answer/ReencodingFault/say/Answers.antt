use Rattle.std.proofs.Common.{◌++◌, List, ℕ, codes, subst}
use Rattle.std.specs.Prelude.{OnErr, OnOk}
use Rattle.reencode_run.specs.Outside.{WhereTold, followed, TookFront}
use Rattle.reencode_run.proofs.answer.ReencodingFault.say.Goals as goal

pub returns-in-TooLarge-clause-ok : goal.returns-in-TooLarge-clause-ok
returns-in-TooLarge-clause-ok g c = rw c.in-TooLarge.is c.write_pair.ensures.ok

pub returns-in-Repeated-clause-ok : goal.returns-in-Repeated-clause-ok
returns-in-Repeated-clause-ok g c = rw c.in-Repeated.is c.write_number-in-Repeated.ensures.ok

pub returns-in-NotAnOrder-clause-ok : goal.returns-in-NotAnOrder-clause-ok
returns-in-NotAnOrder-clause-ok g c = rw c.in-NotAnOrder.is c.write_number-in-NotAnOrder.ensures.ok

pub returns-in-NotAnOrder-clause-front : goal.returns-in-NotAnOrder-clause-front
returns-in-NotAnOrder-clause-front g c = rw c.in-NotAnOrder.is c.write_number-in-NotAnOrder.ensures.front

pub returns-in-Clash-clause-ok : goal.returns-in-Clash-clause-ok
returns-in-Clash-clause-ok g c =
    rw c.in-Clash.is
    (subst (λ (t : List ℕ). OnOk c.write_both.result (WhereTold (g.D.Sink.held c.write_both.new.out) (followed (g.D.Sink.held c.args.err.now) (codes "export clash " ++ t)))) c.as_slice.ensures
    c.write_both.ensures.ok)

pub returns-in-Clash-clause-front : goal.returns-in-Clash-clause-front
returns-in-Clash-clause-front g c =
    rw c.in-Clash.is
    (subst (λ (t : List ℕ). OnErr c.write_both.result (TookFront (g.D.Sink.held c.args.err.now) (g.D.Sink.held c.write_both.new.out) (codes "export clash " ++ t))) c.as_slice.ensures
    c.write_both.ensures.front)
