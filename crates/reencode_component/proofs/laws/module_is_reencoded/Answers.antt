use Rattle.reencode_component.proofs.whole_binaries.WithinLaws as laws
use Rattle.reencode_component.proofs.laws.module_is_reencoded.Goals as goal

pub returns : goal.returns
returns g c = λ view. laws.module_output g.T.ReencodeIndices g.met.T.ReencodeIndices.adds_ok view
