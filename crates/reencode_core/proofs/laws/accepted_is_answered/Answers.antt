use Rattle.reencode_hooks.specs.Run.{ask}
use Rattle.reencode_core.proofs.weave.Completeness as completeness
use Rattle.reencode_core.proofs.laws.accepted_is_answered.Goals as goal

pub returns : goal.returns
returns g c = λ view. let t = g.T.ReencodeIndices in completeness.accepted_is_answered (ask t.reply t.next) t.adds view
