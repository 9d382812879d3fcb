use Rattle.reencode_component.proofs.weave.Completeness.{woven_is_answered}
use Rattle.reencode_component.proofs.laws.woven_component_is_answered.Goals as goal

pub returns : goal.returns
returns g c = woven_is_answered g.T.ReencodeIndices
