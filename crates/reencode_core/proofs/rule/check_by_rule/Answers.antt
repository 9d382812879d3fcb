use Rattle.std.proofs.Common.{refl}
use Rattle.reencode_core.proofs.rules.CheckRuns.{check_accepts, check_refuses, check_unread, check_user}
use Rattle.reencode_core.proofs.rule.check_by_rule.Goals as goal

pub returns-in-Some-clause-refused : goal.returns-in-Some-clause-refused
returns-in-Some-clause-refused g c = check_refuses (λ rule. g.R.IndexRule.renamed rule) (c.in-Ok.ensures.default refl refl) c.in-Some.is

pub returns-in-Ok-clause-accepted : goal.returns-in-Ok-clause-accepted
returns-in-Ok-clause-accepted g c = check_accepts (λ rule. g.R.IndexRule.renamed rule) (c.in-Ok.ensures.default refl refl) c.in-None.is

pub returns-clause-refused : goal.returns-clause-refused
returns-clause-refused g c = check_user (λ rule. g.R.IndexRule.renamed rule) _ c.in-Err.e (c.in-Err.ensures.after_error refl)

pub returns-clause-unread : goal.returns-clause-unread
returns-clause-unread g c = check_unread (λ rule. g.R.IndexRule.renamed rule) c.in-Err.e (c.in-Err.ensures.default refl refl)
