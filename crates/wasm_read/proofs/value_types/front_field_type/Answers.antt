use Rattle.std.proofs.Common.{◌≡◌, arith, refl, false, [], ◌∷◌}
use Rattle.std.proofs.lemmas.Bool.Decides.{nat_tests}
use Rattle.wasm_shapes.specs.Shape.{one_of}
use Rattle.wasm_shapes.specs.Sound.{contains, first_bytes}
use Rattle.wasm_shapes.proofs.Begins.{begins_row, begins_seq, begins_byte, at_byte, none_here, none_at_end, none_by_front, none_seq_second}
use Rattle.wasm_read.proofs.value_types.front_field_type.Goals as goal

pub returns-in_default-front_byte-clause-none : goal.returns-in_default-front_byte-clause-none
returns-in_default-front_byte-clause-none c =
    none_seq_second refl refl c.in-Some.ensures.some (none_here c.in_default-front_byte.ensures.none (none_at_end refl))

pub returns-in-0-clause-some : goal.returns-in-0-clause-some
returns-in-0-clause-some c =
    begins_seq c.in-Some.ensures.some (begins_row {k = 0} (begins_byte (at_byte c.in-Some-front_byte.ensures.some c.in-0.is)))

pub returns-in-1-clause-some : goal.returns-in-1-clause-some
returns-in-1-clause-some c =
    begins_seq c.in-Some.ensures.some (begins_row {k = 1} (begins_byte (at_byte c.in-Some-front_byte.ensures.some c.in-1.is)))

pub returns-in_default-mutable-clause-none : goal.returns-in_default-mutable-clause-none
returns-in_default-mutable-clause-none c =
    let other : contains (first_bytes (one_of (0x00 ∷ 0x01 ∷ []))) c.in-Some-front_byte.mutable ≡ false = grind (arith, nat_tests) in
    none_seq_second refl refl c.in-Some.ensures.some (none_here c.in-Some-front_byte.ensures.some (none_by_front refl other))
