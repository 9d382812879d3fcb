use Rattle.reencode_core.proofs.weave.AddingHooks.{inner_error, rule, rule_error}
use Rattle.reencode_core.proofs.adding.AddingReencodeIndices.intersperse_section_hook.Goals as goal

pub returns-in_err-intersperse_section_hook-clause-answer :
    goal.returns-in_err-intersperse_section_hook-clause-answer
returns-in_err-intersperse_section_hook-clause-answer g c =
    inner_error g.R.ReencodeIndices.reply g.R.ReencodeIndices.next g.R.ReencodeIndices.adds (rule g.S.SectionRule.sections g.S.SectionRule.behind) _ _ _ _ _ _
    c.in_err-intersperse_section_hook.field-0.0 c.in_err-intersperse_section_hook.ensures.answer c.from_residual.result c.from_residual.ensures.1

pub returns-in_err-add_sections-clause-answer : goal.returns-in_err-add_sections-clause-answer
returns-in_err-add_sections-clause-answer g c =
    rule_error g.R.ReencodeIndices.reply g.R.ReencodeIndices.next g.R.ReencodeIndices.adds (rule g.S.SectionRule.sections g.S.SectionRule.behind) _ _ _ _ _ _ _
    c.in_err-add_sections.field-0.0 c.in_ok-intersperse_section_hook.ensures.answer.1 c.in_err-add_sections.ensures.err c.in_err-add_sections.ensures.large
    c.from_residual-in_err-add_sections.result c.from_residual-in_err-add_sections.ensures.1
