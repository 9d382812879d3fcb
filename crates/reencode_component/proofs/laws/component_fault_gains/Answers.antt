use Rattle.reencode_component.proofs.whole_binaries.ComponentLaws as laws
use Rattle.reencode_component.proofs.laws.component_fault_gains.Goals as goal

pub returns : goal.returns
returns g c = laws.fault_gains g.T.ReencodeIndices g.met.T.ReencodeIndices.adds_ok
