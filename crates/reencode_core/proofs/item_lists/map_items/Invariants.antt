use Rattle.std.proofs.Common.{◌≡◌, ◌++◌, IsTrue}
use Rattle.reencode_hooks.specs.Run.{ask}
use Rattle.reencode_core.proofs.rows_walked.TypeGroup.{ItemsDone}
use Rattle.reencode_core.proofs.item_lists.map_items.Given as goal

-- the items so far are mapped
abbrev pub invariant-loop-item : goal.invariant-loop-item
invariant-loop-item g l =
    record {
      left : l.yielded ++ l.item-iterator.rest.items ≡ l.fn.items;
      default : IsTrue g.T.ReencodeIndices.keeps_defaults
          → ItemsDone (ask g.T.ReencodeIndices.reply g.T.ReencodeIndices.next) g.M.MapItem.read g.M.MapItem.made
          l.initial.reencoder l.yielded l.reencoder l.mapped;
    }
