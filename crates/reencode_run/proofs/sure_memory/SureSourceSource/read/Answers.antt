use Rattle.std.proofs.Common.{ap, sym, ◌∙◌}
use Rattle.reencode_run.specs.Memory.{Reading}
use Rattle.reencode_run.proofs.OutsideLemmas.{drop-front}
use Rattle.reencode_run.proofs.sure_memory.SureSourceSource.read.Goals as goal

pub returns-clause-gives : goal.returns-clause-gives
returns-clause-gives c =
    sym (ap (λ (s : Reading). s.left) c.self.view_is)
    ∙ drop-front c.self.inside.bytes _ _ c.self.inside.at c.give-n.result c.as_slice.ensures c.give-n.ensures.given
