use Rattle.reencode_hooks.specs.Run.{ask}
use Rattle.reencode_core.proofs.faults.RefusalLaws as refusals
use Rattle.reencode_core.proofs.laws.fault_is_answered.Goals as goal

pub returns : goal.returns
returns g c = λ view. let t = g.T.ReencodeIndices in refusals.fault_is_answered (ask t.reply t.next) t.adds view
