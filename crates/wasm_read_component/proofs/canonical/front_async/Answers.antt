use Rattle.std.proofs.Common.{◌≡◌, refl, false, arith}
use Rattle.std.proofs.lemmas.Bool.Decides.{nat_tests}
use Rattle.wasm_shapes.specs.Component.{asynchronous}
use Rattle.wasm_shapes.specs.Sound.{contains, first_bytes}
use Rattle.wasm_shapes.proofs.Begins.{at_byte, begins_byte, begins_row, none_at_end, none_by_front, none_here}
use Rattle.wasm_read_component.proofs.canonical.front_async.Goals as goal

pub returns-in_default-clause-none : goal.returns-in_default-clause-none
returns-in_default-clause-none c = none_here c.in_default.ensures.none (none_at_end refl)

pub returns-in-0-clause-some : goal.returns-in-0-clause-some
returns-in-0-clause-some c = begins_row {k = 0} (begins_byte (at_byte c.in-Some.ensures.some c.in-0.is))

pub returns-in-1-clause-some : goal.returns-in-1-clause-some
returns-in-1-clause-some c = begins_row {k = 1} (begins_byte (at_byte c.in-Some.ensures.some c.in-1.is))

pub returns-in_default-first-clause-none : goal.returns-in_default-first-clause-none
returns-in_default-first-clause-none c =
    let other : contains (first_bytes asynchronous) c.in-Some.first ≡ false = grind (arith, nat_tests) in
    none_here c.in-Some.ensures.some (none_by_front refl other)
