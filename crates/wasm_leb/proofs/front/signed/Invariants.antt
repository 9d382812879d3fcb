use Rattle.wasm_leb.proofs.Signed.{SignedSo}
use Rattle.wasm_leb.proofs.front.signed.Given as goal
use Rattle.std.proofs.Common.{◌-◌}

-- the bytes read so far, and what is left
abbrev pub invariant-loop-first : goal.invariant-loop-first
invariant-loop-first l = SignedSo l.bits l.bytes l.shift l.sum l.rest

abbrev pub decreases-loop-first : goal.decreases-loop-first
decreases-loop-first l = l.bits - l.shift
