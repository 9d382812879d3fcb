use Rattle.reencode_component.proofs.weave.WovenInLaws as woven
use Rattle.reencode_component.proofs.laws.component_is_woven.Goals as goal

pub returns : goal.returns
returns g c = woven.ok_is_woven g.T.ReencodeIndices
