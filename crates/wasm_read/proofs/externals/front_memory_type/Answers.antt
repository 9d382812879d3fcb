use Rattle.std.proofs.Common.{arith, refl, inr}
use Rattle.std.specs.Option.{is_some}
use Rattle.wasm_shapes.specs.Shape.{memory_type}
use Rattle.wasm_shapes.specs.Sound.{first_bytes}
use Rattle.wasm_shapes.proofs.Fronts.{outside}
use Rattle.wasm_shapes.proofs.Begins.{at_byte, none_here, none_at_end, none_by_front}
use Rattle.wasm_read.proofs.Limits.{memory_begins, memory_none}
use Rattle.wasm_read.proofs.externals.front_memory_type.Goals as goal

pub returns-in_default-clause-none : goal.returns-in_default-clause-none
returns-in_default-clause-none c = none_here c.in_default.ensures.none (none_at_end refl)

pub returns-then-flags-ge16-clause-none : goal.returns-then-flags-ge16-clause-none
returns-then-flags-ge16-clause-none c =
    none_here c.in-Some.ensures.some (none_by_front refl (outside 0 15 c.in-Some.flags (first_bytes memory_type) refl (inr (omega arith))))

pub returns-in-Some-front_limits-clause-some : goal.returns-in-Some-front_limits-clause-some
returns-in-Some-front_limits-clause-some c =
    let limits = c.in-Some-front_limits.limits in
    memory_begins (is_some limits.maximum) limits.shared limits.wide (is_some limits.page)
    (at_byte c.in-Some.ensures.some c.in-Some-front_limits.ensures.flags) c.in-Some-front_limits.ensures.some

pub returns-in-None-clause-none : goal.returns-in-None-clause-none
returns-in-None-clause-none c =
    let n = c.in-None.ensures.none in
    memory_none n.0 n.1 n.2 n.3 (at_byte c.in-Some.ensures.some n.4) n.5
