use Rattle.std.proofs.Common.{length}
use Rattle.wasm_reach.proofs.Packing.{AddedSoFar}
use Rattle.wasm_reach.proofs.index_list.add_numbers.Given as goal

-- the numbers so far
abbrev pub invariant-numbers : goal.invariant-numbers
invariant-numbers l = AddedSoFar l.bound l.bytes l.rest l.initial.list.items l.list.items

abbrev pub decreases-numbers : goal.decreases-numbers
decreases-numbers l = length l.rest
