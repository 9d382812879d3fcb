use Rattle.reencode_hooks.specs.Run.{ask}
use Rattle.reencode_core.proofs.weave.Weaves as weaves
use Rattle.reencode_core.proofs.laws.weave_of_nothing.Goals as goal

pub returns : goal.returns
returns g c = let t = g.T.ReencodeIndices in weaves.weave_of_nothing (ask t.reply t.next)
