use Rattle.reencode_hooks.specs.Run.{ask}
use Rattle.reencode_core.proofs.weave.Weaves as weaves
use Rattle.reencode_core.proofs.laws.weave_ends.Goals as goal

pub returns : goal.returns
returns g c = let t = g.T.ReencodeIndices in weaves.weave_ends (ask t.reply t.next)
