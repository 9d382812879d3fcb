use Rattle.std.proofs.Common.{refl}
use Rattle.reencode_core.proofs.weave.Interspersing.{made_between, only_added}
use Rattle.examples.proofs.marks.add_marks.Goals as goal

pub returns-clause-ok : goal.returns-clause-ok
returns-clause-ok c = only_added (λ _ _. refl) c.reencode_core.result (c.reencode_core.ensures.woven refl)

pub returns-clause-made : goal.returns-clause-made
returns-clause-made c = made_between (λ _ _. refl) c.reencode_core.result (c.reencode_core.ensures.woven refl)
