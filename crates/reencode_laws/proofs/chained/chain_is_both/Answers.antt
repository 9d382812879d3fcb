use Rattle.reencode_laws.proofs.Runs as runs
use Rattle.reencode_laws.proofs.chained.chain_is_both.Goals as goal

pub returns : goal.returns
returns g c =
    let a = g.A.ReencodeIndices in
    let b = g.B.ReencodeIndices in
    runs.chain_is_both a.reply a.next b.reply b.next
