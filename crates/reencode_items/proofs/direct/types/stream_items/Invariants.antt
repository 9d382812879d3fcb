use Rattle.reencode_items.proofs.Streaming.{ItemsSo}
use Rattle.reencode_items.proofs.direct.types.stream_items.Given as goal

-- so many items are due, and those in front of them were mapped and appended
abbrev pub invariant-items : goal.invariant-items
invariant-items g l = ItemsSo g.R.ReencodeIndices g.T.Entry.shape l.initial.left l.initial.rest l.initial.reencoder l.initial.out.items l.left l.rest l.reencoder l.out.items

abbrev pub decreases-items : goal.decreases-items
decreases-items g l = l.left
