use Rattle.std.proofs.Common.{◌≡◌, arith, refl, false, List, [], ◌∷◌}
use Rattle.std.proofs.lemmas.Bool.Decides.{nat_tests}
use Rattle.wasm_shapes.specs.Shape.{Shape, choice, reference}
use Rattle.wasm_shapes.specs.Sound.{contains, first_bytes}
use Rattle.wasm_shapes.proofs.Begins.{begins_ref, begins_row, begins_byte, at_byte, none_here, none_at_end, none_ref, none_by_front, none_or, none_row}
use Rattle.wasm_shapes.proofs.Parts.{none_among}
use Rattle.wasm_read.proofs.value_types.front_val_type.Goals as goal

abbrev numbers : List Shape
numbers = Shape.fixed 0x7f ∷ Shape.fixed 0x7e ∷ Shape.fixed 0x7d ∷ Shape.fixed 0x7c ∷ Shape.fixed 0x7b ∷ []

pub returns-in_default-clause-none : goal.returns-in_default-clause-none
returns-in_default-clause-none c = none_here c.in_default.ensures.none (none_at_end refl)

pub returns-in-127-clause-some : goal.returns-in-127-clause-some
returns-in-127-clause-some c = begins_ref (begins_row {k = 0} (begins_byte (at_byte c.in-Some.ensures.some c.in-127.is)))

pub returns-in-126-clause-some : goal.returns-in-126-clause-some
returns-in-126-clause-some c = begins_ref (begins_row {k = 1} (begins_byte (at_byte c.in-Some.ensures.some c.in-126.is)))

pub returns-in-125-clause-some : goal.returns-in-125-clause-some
returns-in-125-clause-some c = begins_ref (begins_row {k = 2} (begins_byte (at_byte c.in-Some.ensures.some c.in-125.is)))

pub returns-in-124-clause-some : goal.returns-in-124-clause-some
returns-in-124-clause-some c = begins_ref (begins_row {k = 3} (begins_byte (at_byte c.in-Some.ensures.some c.in-124.is)))

pub returns-in-123-clause-some : goal.returns-in-123-clause-some
returns-in-123-clause-some c = begins_ref (begins_row {k = 4} (begins_byte (at_byte c.in-Some.ensures.some c.in-123.is)))

pub returns-in-Some-front_ref_type-clause-some : goal.returns-in-Some-front_ref_type-clause-some
returns-in-Some-front_ref_type-clause-some c = begins_ref (begins_row {k = 5} c.in-Some-front_ref_type.ensures.some)

pub returns-in-None-clause-none : goal.returns-in-None-clause-none
returns-in-None-clause-none c =
    let other : contains (first_bytes (choice numbers)) c.in-Some.first ≡ false = grind (arith, nat_tests) in
    none_ref (none_among numbers (reference ∷ []) (none_here c.in-Some.ensures.some (none_by_front refl other)) (none_or c.in-None.ensures.none none_row))
