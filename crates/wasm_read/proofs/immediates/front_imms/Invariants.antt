use Rattle.std.proofs.Common.{length}
use Rattle.wasm_read.specs.Operations.{AreCore}
use Rattle.wasm_read.proofs.OfKinds.{ImmsSoFar}
use Rattle.wasm_read.proofs.immediates.front_imms.Given as goal

abbrev pub invariant-kinds : goal.invariant-kinds
invariant-kinds l = ImmsSoFar l.initial.due l.initial.rest l.imms l.due l.rest × AreCore l.due

abbrev pub decreases-kinds : goal.decreases-kinds
decreases-kinds l = length l.due
