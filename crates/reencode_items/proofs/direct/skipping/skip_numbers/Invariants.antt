use Rattle.std.proofs.Common.{◌-◌, ◌≤◌}
use Rattle.wasm_shapes.specs.Shape.{Shape}
use Rattle.reencode_items.proofs.SkippedLocals.{RowsPassed}
use Rattle.reencode_items.proofs.direct.skipping.skip_numbers.Given as goal

-- so many numbers are passed by
abbrev pub invariant-numbers : goal.invariant-numbers
invariant-numbers l = record { most : l.left ≤ l.initial.left; passed : RowsPassed Shape.u32 l.initial.rest l.rest (l.initial.left - l.left) }

abbrev pub decreases-numbers : goal.decreases-numbers
decreases-numbers l = l.left
