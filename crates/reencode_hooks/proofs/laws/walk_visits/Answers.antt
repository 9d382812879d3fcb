use Rattle.reencode_hooks.specs.Run.{ask}
use Rattle.reencode_hooks.proofs.Walks as walks
use Rattle.reencode_hooks.proofs.laws.walk_visits.Goals as goal

pub returns : goal.returns
returns g c = let t = g.T.ReencodeIndices in walks.walk_visits (ask t.reply t.next)
