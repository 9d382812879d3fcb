use Rattle.std.proofs.Common.{[], ◌∷◌, Some, ap, subst, ◌∙◌}
use Rattle.reencode_run.specs.Answer.{Ends}
use Rattle.reencode_run.specs.Outside.{WhereTold, followed, TookFront}
use Rattle.reencode_run.specs.Report.{Shown, printed_as}
use Rattle.reencode_run.proofs.AnswerLemmas.{never_printed}
use Rattle.reencode_run.proofs.tool.perform.Goals as goal

pub returns-in-Ok-print_ready-clause-ends : goal.returns-in-Ok-print_ready-clause-ends
returns-in-Ok-print_ready-clause-ends g c =
    let made = c.in-Ok.ensures.made in
    Ends.printed made.0
    (subst (λ (s : Shown). WhereTold (g.K.Sink.held c.print_ready.new.out) (followed (g.K.Sink.held c.args.out.now) (printed_as c.args.job.notation s))) made.1 c.in-Ok-print_ready.ensures.ok)

pub returns-in-Ok-print_ready-clause-made : goal.returns-in-Ok-print_ready-clause-made
returns-in-Ok-print_ready-clause-made g c =
    let made = c.in-Ok.ensures.made in
    let told = subst (λ (s : Shown). WhereTold (g.K.Sink.held c.print_ready.new.out) (followed (g.K.Sink.held c.args.out.now) (printed_as c.args.job.notation s))) made.1 c.in-Ok-print_ready.ensures.ok in
    (made.0, told, c.in-Ok-print_ready.ensures.lines ∙ ap (λ (s : Shown). s.lines) made.1)

pub returns-in-Err-print_ready-clause-ends : goal.returns-in-Err-print_ready-clause-ends
returns-in-Err-print_ready-clause-ends g c =
    let made = c.in-Ok.ensures.made in
    Ends.write_fault made.0
    (subst (λ (s : Shown). TookFront (g.K.Sink.held c.args.out.now) (g.K.Sink.held c.print_ready.new.out) (printed_as c.args.job.notation s)) made.1 c.in-Err-print_ready.ensures.front)
    c.in-Err-print_ready.ensures.failed

pub returns-in-Err-clause-stopped : goal.returns-in-Err-clause-stopped
returns-in-Err-clause-stopped g c = never_printed (c.in-Err.ensures.stops (Some (0 ∷ [])) (Some []) 0 0)
