use Rattle.std.proofs.Common.{◌-◌, ◌<◌, ◌≤◌, length, ℕ}
use Rattle.reencode_hooks.specs.Tables.{key_at}
use Rattle.reencode_hooks.proofs.table.place_of.Given as goal

-- the keys below the range are smaller, and those above it are not
abbrev pub invariant-loop-from : goal.invariant-loop-from
invariant-loop-from l = record {
  within : l.from ≤ l.to;
  in_range : l.to ≤ length l.pairs;
  smaller : (j : ℕ) → j < l.from → key_at l.pairs j < l.key;
  not_smaller : (j : ℕ) → l.to ≤ j → j < length l.pairs → l.key ≤ key_at l.pairs j;
}

abbrev pub decreases-loop-from : goal.decreases-loop-from
decreases-loop-from l = l.to - l.from
