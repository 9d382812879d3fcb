use Rattle.std.proofs.Common.{◌≡◌, ◌++◌}
use Rattle.wasm_leb.specs.Leb.{leb}
use Rattle.reencode_run.specs.Generated.{bodies}
use Rattle.reencode_run.proofs.generate.code.Given as goal

abbrev pub invariant-bodies : goal.invariant-bodies
invariant-bodies l = l.bytes.items ≡ leb l.n ++ bodies l.n l.i
