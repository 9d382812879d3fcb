use Rattle.reencode_core.proofs.weave.AdditionsFit.{gains_fit}
use Rattle.reencode_core.proofs.sections.call_hook.Goals as goal

pub returns-in-Ok-clause-fits : goal.returns-in-Ok-clause-fits
returns-in-Ok-clause-fits g c = gains_fit _ _ _ c.in-Ok.ensures.answer.1 c.sections_fit.ensures
