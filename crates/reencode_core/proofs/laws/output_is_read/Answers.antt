use Rattle.reencode_core.proofs.weave.WovenReading as woven_read
use Rattle.reencode_core.proofs.laws.output_is_read.Goals as goal

pub returns : goal.returns
returns g c = let t = g.T.ReencodeIndices in woven_read.output_is_read t.reply t.next t.adds g.met.T.ReencodeIndices.answers_ok
