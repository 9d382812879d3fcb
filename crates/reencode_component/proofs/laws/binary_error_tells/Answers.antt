use Rattle.reencode_component.proofs.whole_binaries.WithinLaws as laws
use Rattle.reencode_component.proofs.laws.binary_error_tells.Goals as goal

pub returns-clause-fault : goal.returns-clause-fault
returns-clause-fault g c = λ view. laws.binary_error_tells g.T.ReencodeIndices g.met.T.ReencodeIndices.adds_ok view

pub returns-clause-kind : goal.returns-clause-kind
returns-clause-kind g c = λ view. laws.kind_tells g.T.ReencodeIndices g.met.T.ReencodeIndices.adds_ok view
