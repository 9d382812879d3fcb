use Rattle.reencode_items.proofs.Passing.{keeps_one, makes_one, mem_kept, mem_made, mem_refused, mem_row, normally, refuses_one}
use Rattle.reencode_items.proofs.direct.passing.pass_access.Goals as goal

pub returns-then-short-clause-kept : goal.returns-then-short-clause-kept
returns-then-short-clause-kept g c =
    let i = g.R.ReencodeIndices in
    keeps_one _ _ _ c.requires.head (mem_row c.requires.one) (normally c.in-Some.ensures.begins (c.in-Some.ensures.short c.if-short.true))
    (mem_kept i.reply i.next _ _ _ _ _ c.in-Ok.ensures.answer c.if-memory-eq0.true)

pub returns-else-memory-eq0-clause-next : goal.returns-else-memory-eq0-clause-next
returns-else-memory-eq0-clause-next g c =
    let i = g.R.ReencodeIndices in
    makes_one _ _ _ c.requires.head (mem_row c.requires.one) c.in-Some.ensures.begins _ c.fresh_access.ensures.kind c.fresh_access.ensures.tree
    (mem_made i.reply i.next _ _ _ _ _ c.in-Ok.ensures.answer)

pub returns-in-Err-clause-err : goal.returns-in-Err-clause-err
returns-in-Err-clause-err g c =
    let i = g.R.ReencodeIndices in
    refuses_one _ _ _ c.requires.head (mem_row c.requires.one) c.in-Some.ensures.begins _ (mem_refused i.reply i.next _ _ _ _ _ c.in-Err.ensures.answer)
