use Rattle.reencode_core.proofs.faults.FaultPlace as faults
use Rattle.reencode_core.proofs.laws.fault_gains.Goals as goal

pub returns : goal.returns
returns g k = let t = g.T.ReencodeIndices in λ c bytes before after e gains tells read rest f. faults.fault_gains t.reply t.next t.adds gains tells read rest f
