use Rattle.reencode_hooks.specs.Run.{ask}
use Rattle.reencode_core.proofs.faults.FaultPlace as faults
use Rattle.reencode_core.proofs.laws.fault_tells.Goals as goal

pub returns : goal.returns
returns g c = let t = g.T.ReencodeIndices in faults.fault_tells (ask t.reply t.next)
