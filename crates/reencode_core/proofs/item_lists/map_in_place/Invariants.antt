use Rattle.std.proofs.Common.{◌≡◌, ◌≤◌, ◌-◌, IsTrue, drop, length, take}
use Rattle.reencode_hooks.specs.Run.{ask}
use Rattle.reencode_core.proofs.rows_walked.TypeGroup.{ItemsDone}
use Rattle.reencode_core.proofs.item_lists.map_in_place.Given as goal

-- the items in front of the place are mapped, and those from it on are as they were
abbrev pub invariant-items : goal.invariant-items
invariant-items g l =
    record {
      same : length l.items.items ≡ length l.initial.items.items;
      within : l.at ≤ length l.items.items;
      left : drop l.at l.items.items ≡ drop l.at l.fn.indices;
      default : IsTrue g.T.ReencodeIndices.keeps_defaults
          → ItemsDone (ask g.T.ReencodeIndices.reply g.T.ReencodeIndices.next) g.M.MapItem.read g.M.MapItem.made
          l.initial.reencoder (take l.at l.fn.indices) l.reencoder (take l.at l.items.items);
    }

abbrev pub decreases-items : goal.decreases-items
decreases-items g l = length l.initial.items.items - l.at
