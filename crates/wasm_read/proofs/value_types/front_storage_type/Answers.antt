use Rattle.std.proofs.Common.{◌≡◌, arith, refl, false, List, [], ◌∷◌}
use Rattle.std.proofs.lemmas.Bool.Decides.{nat_tests}
use Rattle.wasm_shapes.specs.Shape.{Shape, Named, choice}
use Rattle.wasm_shapes.specs.Sound.{contains, first_bytes}
use Rattle.wasm_shapes.proofs.Begins.{begins_row, begins_byte, at_byte, none_here, none_at_end, none_by_front, none_or, none_row}
use Rattle.wasm_shapes.proofs.Parts.{none_among}
use Rattle.wasm_read.proofs.value_types.front_storage_type.Goals as goal

abbrev packed : List Shape
packed = Shape.fixed 0x78 ∷ Shape.fixed 0x77 ∷ []

pub returns-in_default-clause-none : goal.returns-in_default-clause-none
returns-in_default-clause-none c = none_here c.in_default.ensures.none (none_at_end refl)

pub returns-in-120-clause-some : goal.returns-in-120-clause-some
returns-in-120-clause-some c = begins_row {k = 0} (begins_byte (at_byte c.in-Some.ensures.some c.in-120.is))

pub returns-in-119-clause-some : goal.returns-in-119-clause-some
returns-in-119-clause-some c = begins_row {k = 1} (begins_byte (at_byte c.in-Some.ensures.some c.in-119.is))

pub returns-in-Some-front_val_type-clause-some : goal.returns-in-Some-front_val_type-clause-some
returns-in-Some-front_val_type-clause-some c = begins_row {k = 2} c.in-Some-front_val_type.ensures.some

pub returns-in-None-clause-none : goal.returns-in-None-clause-none
returns-in-None-clause-none c =
    let other : contains (first_bytes (choice packed)) c.in-Some.first ≡ false = grind (arith, nat_tests) in
    none_among packed (Shape.ref Named.value ∷ []) (none_here c.in-Some.ensures.some (none_by_front refl other)) (none_or c.in-None.ensures.none none_row)
