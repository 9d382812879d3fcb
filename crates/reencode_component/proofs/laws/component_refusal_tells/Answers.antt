use Rattle.reencode_component.proofs.whole_binaries.ComponentLaws as laws
use Rattle.reencode_component.proofs.laws.component_refusal_tells.Goals as goal

pub returns : goal.returns
returns g c = laws.refusal_tells g.T.ReencodeIndices g.met.T.ReencodeIndices.adds_ok
