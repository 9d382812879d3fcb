use Rattle.std.proofs.Common.{length}
use Rattle.wasm_read.proofs.immediates.+behind_imms.Given as goal

abbrev pub decreases-behind_imms : goal.decreases-behind_imms
decreases-behind_imms l = length l.kinds.now
