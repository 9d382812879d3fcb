use Rattle.std.proofs.Common.{sym, ◌∙◌}
use Rattle.examples.proofs.Counting.{imports_not_added}
use Rattle.examples.proofs.counter.CounterReencodeIndices.intersperse_section_hook.Goals as goal

pub returns-in_err-section-clause-answer : goal.returns-in_err-section-clause-answer
returns-in_err-section-clause-answer c =
    imports_not_added (λ k. k.imports.now) c.args.self.now c.args.module.now c.args.after c.args.before (sym c.is_due.ensures ∙ c.if-is_due.true) c.in_err-section.field-0.0
    c.in_err-section.ensures.err c.in_err-section.ensures.large c.from_residual.result c.from_residual.ensures.1
