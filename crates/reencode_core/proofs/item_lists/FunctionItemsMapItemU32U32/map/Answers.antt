use Rattle.reencode_core.proofs.rows_walked.EachItem.{hook_leaves}
use Rattle.reencode_core.proofs.item_lists.FunctionItemsMapItemU32U32.map.Goals as goal

pub returns-clause-after_error : goal.returns-clause-after_error
returns-clause-after_error g c =
    let i = g.T.ReencodeIndices in
    λ k sure. hook_leaves i.reply i.next _ _ _ c.function_index.result c.function_index.ensures.answer c.function_index.ensures.sure sure
