use Rattle.reencode_laws.proofs.Walked as walked
use Rattle.reencode_laws.proofs.chained.chained_walks.Goals as goal

pub returns : goal.returns
returns g c =
    let a = g.A.ReencodeIndices in
    let b = g.B.ReencodeIndices in
    walked.chained_walks a.reply a.next b.reply b.next g.met.A.ReencodeIndices.answers_ok
