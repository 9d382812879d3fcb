use Rattle.std.proofs.Common.{◌-◌, ◌≤◌}
use Rattle.wasm_shapes.specs.Module.{local_row}
use Rattle.reencode_items.proofs.SkippedLocals.{RowsPassed}
use Rattle.reencode_items.proofs.direct.skipping.skip_locals.Given as goal

-- so many locals are passed by
abbrev pub invariant-locals : goal.invariant-locals
invariant-locals l = record { most : l.left ≤ l.initial.left; passed : RowsPassed local_row l.initial.rest l.rest (l.initial.left - l.left) }

abbrev pub decreases-locals : goal.decreases-locals
decreases-locals l = l.left
