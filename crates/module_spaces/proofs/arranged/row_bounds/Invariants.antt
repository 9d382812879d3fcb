use Rattle.wasm_shapes.specs.Module.{row_of}
use Rattle.module_spaces.specs.Texts.{pieces}
use Rattle.module_spaces.proofs.Pieces.{CutSoFar}
use Rattle.module_spaces.proofs.Texts.{TextsSoFar}
use Rattle.module_spaces.proofs.arranged.row_bounds.Given as goal

-- the texts so far are cut, and the others are left
abbrev pub invariant-rows : goal.invariant-rows
invariant-rows l = CutSoFar l.start l.rest l.bounds.items × TextsSoFar (row_of l.kind) l.body (pieces l.start l.bounds.items) l.left l.rest

abbrev pub decreases-rows : goal.decreases-rows
decreases-rows l = l.left
