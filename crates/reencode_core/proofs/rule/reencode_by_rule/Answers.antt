use Rattle.std.proofs.Common.{refl}
use Rattle.reencode_core.proofs.rules.RuleRuns.{rule_made, rule_ok, rule_refused}
use Rattle.reencode_core.proofs.rule.reencode_by_rule.Goals as goal

pub returns-clause-ok : goal.returns-clause-ok
returns-clause-ok g c = rule_ok (λ rule. g.R.IndexRule.renamed rule.rule) c.reencode_core.result (c.reencode_core.ensures.default refl refl)

pub returns-clause-refused : goal.returns-clause-refused
returns-clause-refused g c = rule_refused (λ rule. g.R.IndexRule.renamed rule.rule) c.reencode_core.result (c.reencode_core.ensures.default refl refl)

pub returns-clause-made : goal.returns-clause-made
returns-clause-made g c = rule_made (λ rule. g.R.IndexRule.renamed rule.rule) c.reencode_core.result (c.reencode_core.ensures.default refl refl)

pub returns-clause-gives : goal.returns-clause-gives
returns-clause-gives g c = (c.reencode_core.new.r, c.reencode_core.ensures.default refl refl)
