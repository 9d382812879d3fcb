use Rattle.reencode_core.proofs.weave.AddingHooks.{inner_error, rule, rule_error}
use Rattle.reencode_core.proofs.adding.AddingReencodeIndices.close_section_hook.Goals as goal

pub returns-in_err-close_section_hook-clause-answer :
    goal.returns-in_err-close_section_hook-clause-answer
returns-in_err-close_section_hook-clause-answer g c =
    inner_error g.R.ReencodeIndices.reply g.R.ReencodeIndices.next g.R.ReencodeIndices.adds (rule g.S.SectionRule.sections g.S.SectionRule.behind) _ _ _ _ _ _
    c.in_err-close_section_hook.field-0.0 c.in_err-close_section_hook.ensures.answer c.from_residual.result c.from_residual.ensures.1

pub returns-in_err-add_behind-clause-answer : goal.returns-in_err-add_behind-clause-answer
returns-in_err-add_behind-clause-answer g c =
    rule_error g.R.ReencodeIndices.reply g.R.ReencodeIndices.next g.R.ReencodeIndices.adds (rule g.S.SectionRule.sections g.S.SectionRule.behind) _ _ _ _ _ _ _
    c.in_err-add_behind.field-0.0 c.in_ok-close_section_hook.ensures.answer.1 c.in_err-add_behind.ensures.err c.in_err-add_behind.ensures.large
    c.from_residual-in_err-add_behind.result c.from_residual-in_err-add_behind.ensures.1
