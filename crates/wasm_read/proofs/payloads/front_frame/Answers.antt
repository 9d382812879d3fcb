use Rattle.std.proofs.Common.{◌≡◌, arith, refl, false}
use Rattle.std.proofs.lemmas.Bool.Decides.{nat_tests}
use Rattle.wasm_shapes.specs.Sound.{contains, first_bytes}
use Rattle.wasm_shapes.specs.Module.{frame}
use Rattle.wasm_shapes.proofs.Begins.{begins_seq, begins_byte, begins_row, begins_within, at_byte, none_here, none_at_end, none_by_front, none_or, none_row}
use Rattle.wasm_read.proofs.Framed.{begins_filled, none_sized_any, none_filled, none_behind_fixed, none_behind_within, name_and_rest, no_name_and_rest}
use Rattle.wasm_read.proofs.payloads.front_frame.Goals as goal

pub returns-in_default-clause-none : goal.returns-in_default-clause-none
returns-in_default-clause-none c = none_here c.in_default.ensures.none (none_at_end refl)

pub returns-then-id-ge128-clause-none : goal.returns-then-id-ge128-clause-none
returns-then-id-ge128-clause-none c =
    let other : contains (first_bytes frame) c.in-Some.id ≡ false = grind (arith, nat_tests) in
    none_here c.in-Some.ensures.some (none_by_front refl other)

pub returns-in_default-front_sized-clause-none : goal.returns-in_default-front_sized-clause-none
returns-in_default-front_sized-clause-none c =
    let none = c.in_default-front_sized.ensures.none in
    none_here c.in-Some.ensures.some (none_or (none_behind_fixed (none_sized_any none)) (none_or (none_behind_within none) none_row))

pub returns-then-id-gt0-clause-some : goal.returns-then-id-gt0-clause-some
returns-then-id-gt0-clause-some c =
    rw c.numbered.ensures.tree
    (begins_row {k = 1} (begins_seq (begins_within (omega arith) (omega arith) (omega arith) c.in-Some.ensures.some) c.in-Some-front_sized.ensures.some))

pub returns-in-Some-front_name-clause-some : goal.returns-in-Some-front_name-clause-some
returns-in-Some-front_name-clause-some c =
    let zero : c.in-Some.id ≡ 0 = omega arith in
    begins_row {k = 0}
    (begins_seq (begins_byte (at_byte c.in-Some.ensures.some zero)) (begins_filled c.in-Some-front_sized.ensures.some (name_and_rest c.in-Some-front_name.ensures.some)))

pub returns-in-None-clause-none : goal.returns-in-None-clause-none
returns-in-None-clause-none c =
    let zero : c.in-Some.id ≡ 0 = omega arith in
    none_here (at_byte c.in-Some.ensures.some zero)
    (none_or (none_behind_fixed (none_filled c.in-Some-front_sized.ensures.some (no_name_and_rest c.in-None.ensures.none)))
    (none_or (none_by_front refl refl) none_row))
