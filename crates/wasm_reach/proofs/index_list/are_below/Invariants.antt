use Rattle.std.proofs.Common.{ℕ, ◌<◌, get_or}
use Rattle.wasm_reach.proofs.index_list.are_below.Given as goal

-- those so far are
abbrev pub invariant-loop-number : goal.invariant-loop-number
invariant-loop-number l = (k : ℕ) → k < l.number-index → get_or l.numbers k 0 < l.bound
