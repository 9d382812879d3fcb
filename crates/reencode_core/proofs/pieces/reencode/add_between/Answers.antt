use Rattle.reencode_core.proofs.kept_pieces.SectionLoop.{hook_left}
use Rattle.reencode_core.proofs.pieces.reencode.add_between.Goals as goal

pub returns-in-Err-clause-leaves : goal.returns-in-Err-clause-leaves
returns-in-Err-clause-leaves g c =
    hook_left g.R.ReencodeIndices g.met.R.ReencodeIndices.adds_ok c.in-Err.e (record { answer = c.in-Err.ensures.answer; sure = c.in-Err.ensures.sure; fits = tt })
