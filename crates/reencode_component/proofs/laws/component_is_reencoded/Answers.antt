use Rattle.reencode_component.proofs.whole_binaries.ComponentLaws as laws
use Rattle.reencode_component.proofs.laws.component_is_reencoded.Goals as goal

pub returns : goal.returns
returns g c = laws.ok_is_reencoded g.T.ReencodeIndices g.met.T.ReencodeIndices.adds_ok
