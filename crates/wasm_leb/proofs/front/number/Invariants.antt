use Rattle.std.proofs.Common.{◌-◌}
use Rattle.wasm_leb.proofs.Numbers.{NumberSo}
use Rattle.wasm_leb.proofs.front.number.Given as goal

-- the bytes read so far, and what is left
abbrev pub invariant-loop-first : goal.invariant-loop-first
invariant-loop-first l = NumberSo l.limit l.bits l.bytes l.shift l.sum l.rest

abbrev pub decreases-loop-first : goal.decreases-loop-first
decreases-loop-first l = l.bits - l.shift
