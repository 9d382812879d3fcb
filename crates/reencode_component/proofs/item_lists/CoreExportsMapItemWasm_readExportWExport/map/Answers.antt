use Rattle.wasm_read.specs.Types as read
use Rattle.reencode_hooks.proofs.Leaving.{sure_visited, visited_left}
use Rattle.reencode_core.proofs.after_error.StateLeft.{item_leaves}
use Rattle.reencode_component.proofs.item_lists.CoreExportsMapItemWasm_readExportWExport.map.Goals as goal

pub returns-in_err-index-clause-after_error : goal.returns-in_err-index-clause-after_error
returns-in_err-index-clause-after_error g c =
    let i = g.T.ReencodeIndices in
    let row = c.args.item in
    let kind = c.in_ok-kind.kind in
    let gone = c.in_err-index.ensures in
    λ k sure. visited_left _ (item_leaves row _ _ _ kind row.index (c.in_ok-kind.ensures.default k row.index)
    (sure_visited i.reply i.next (read.item_tree row.kind row.index) (read.item_tree row.kind) _ (gone.default k) (gone.sure k) sure))
