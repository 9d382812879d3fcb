use Rattle.reencode_hooks.specs.Run.{ask}
use Rattle.reencode_hooks.proofs.Walks as walks
use Rattle.reencode_hooks.proofs.laws.walk_refuses.Goals as goal

pub returns : goal.returns
returns g c = let t = g.T.ReencodeIndices in walks.walk_refuses (ask t.reply t.next)
