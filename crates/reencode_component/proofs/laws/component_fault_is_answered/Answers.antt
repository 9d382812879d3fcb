use Rattle.reencode_component.proofs.whole_binaries.ComponentLaws as laws
use Rattle.reencode_component.proofs.laws.component_fault_is_answered.Goals as goal

pub returns : goal.returns
returns g c = laws.unread_is_answered g.T.ReencodeIndices
