use Rattle.std.proofs.Common.{refl}
use Rattle.reencode_hooks.proofs.Chained.{first_error, second_error}
use Rattle.reencode_hooks.proofs.chain.ChainReencodeIndices.close_section_hook.Goals as goal

pub returns-in-Err-clause-answer : goal.returns-in-Err-clause-answer
returns-in-Err-clause-answer g c =
    let a = g.A.ReencodeIndices in
    let b = g.B.ReencodeIndices in
    rw c.first.ensures (first_error a.reply a.next a.adds b.reply b.next b.adds _ _ _ _ _ _ c.in-Err.e c.in-Err.ensures.answer)

pub returns-in-Err-close_section_hook-clause-answer :
    goal.returns-in-Err-close_section_hook-clause-answer
returns-in-Err-close_section_hook-clause-answer g c =
    let a = g.A.ReencodeIndices in
    let b = g.B.ReencodeIndices in
    rw c.second.ensures
    (second_error a.reply a.next a.adds b.reply b.next b.adds _ _ _ _ _ _ _ _ c.in-Err-close_section_hook.e refl c.in-Ok.ensures.answer c.in-Err-close_section_hook.ensures.answer)
