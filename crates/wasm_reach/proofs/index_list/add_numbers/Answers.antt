use Rattle.std.proofs.Common.{sym}
use Rattle.module_spaces.proofs.Editing.{length_zero}
use Rattle.wasm_reach.proofs.Packing.{added_begins, added_done, added_more, below_done, fewer}
use Rattle.wasm_reach.proofs.index_list.add_numbers.Goals as goal

pub numbers-init : goal.numbers-init
numbers-init c = added_begins c.args.bound c.args.bytes.now c.args.list.now.items

pub numbers-smaller : goal.numbers-smaller
numbers-smaller c = fewer c.in-Some.ensures.some

pub numbers-preserved : goal.numbers-preserved
numbers-preserved c = added_more c.numbers.invariant c.in-Some.ensures.some c.if-number-bound.false c.in-Ok.ensures.items

pub returns-clause-below : goal.returns-clause-below
returns-clause-below c = below_done c.numbers.invariant (length_zero (sym c.numbers-test.ensures))

pub returns-clause-added : goal.returns-clause-added
returns-clause-added c = added_done c.numbers.invariant (length_zero (sym c.numbers-test.ensures))
