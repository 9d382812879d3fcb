use Rattle.std.proofs.Common.{◌≡◌, drop, map, take, vec_len}
use Rattle.wasm_write.proofs.Items.{ItemsSoFar}
use Rattle.wasm_write.proofs.vectors.write_rows.Given as goal

-- what is written and the items that are left are all, and what stood before stands there still
abbrev pub invariant-loop-item : goal.invariant-loop-item
invariant-loop-item g l = record {
  so_far : ItemsSoFar (map g.T.ItemOf.tree (drop l.item-index l.items)) (map g.T.ItemOf.tree l.items) l.initial.out.items l.out.items;
  kept : take (vec_len l.fn.out) l.out.items ≡ l.fn.out.items;
}
