use Rattle.std.proofs.Common.{◌≡◌, suc, ◌-◌, arith}
use Rattle.reencode_items.proofs.Streaming.{items_all, items_begun, items_more, items_none, items_stop}
use Rattle.reencode_items.proofs.direct.types.stream_items.Goals as goal

pub items-init : goal.items-init
items-init g c = items_begun g.R.ReencodeIndices _ _ _ _

pub items-preserved : goal.items-preserved
items-preserved g c =
    let more : c.items.left ≡ suc (c.items.left - 1) = omega arith in
    items_more g.R.ReencodeIndices c.items.invariant more (rw c.in-Ok-Some.field-0-is at c.in-Ok-Some.ensures)

pub returns-in-Ok-None : goal.returns-in-Ok-None
returns-in-Ok-None g c =
    let more : c.items.left ≡ suc (c.items.left - 1) = omega arith in
    items_none g.R.ReencodeIndices c.items.invariant more (rw c.in-Ok-None.field-0-is at c.in-Ok-None.ensures)

pub returns-in-Err : goal.returns-in-Err
returns-in-Err g c =
    let more : c.items.left ≡ suc (c.items.left - 1) = omega arith in
    items_stop g.R.ReencodeIndices c.items.invariant _ more c.in-Err.ensures

pub returns : goal.returns
returns g c = let ended : c.items.left ≡ 0 = omega arith in items_all g.R.ReencodeIndices _ c.items.invariant ended
