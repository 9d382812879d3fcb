use Rattle.std.proofs.Common.{refl}
use Rattle.wasm_shapes.proofs.Begins.{begins_row, begins_byte, begins_sx, at_byte, none_here, none_at_end, none_byte, none_sx, none_or, none_row}
use Rattle.wasm_read.proofs.immediates.front_block_type.Goals as goal

pub returns-in_default-clause-none : goal.returns-in_default-clause-none
returns-in_default-clause-none c = none_here c.in_default.ensures.none (none_at_end refl)

pub returns-then-first-eq64-clause-some : goal.returns-then-first-eq64-clause-some
returns-then-first-eq64-clause-some c = begins_row {k = 0} (begins_byte (at_byte c.in-Some.ensures.some c.if-first-eq64.true))

pub returns-in-Some-front_val_type-clause-some : goal.returns-in-Some-front_val_type-clause-some
returns-in-Some-front_val_type-clause-some c = begins_row {k = 1} c.in-Some-front_val_type.ensures.some

pub returns-in-Some-front_index-clause-some : goal.returns-in-Some-front_index-clause-some
returns-in-Some-front_index-clause-some c = begins_row {k = 2} (begins_sx c.in-Some-front_index.ensures.some)

pub returns-in-None-front_index-clause-none : goal.returns-in-None-front_index-clause-none
returns-in-None-front_index-clause-none c =
    none_or (none_here c.in-Some.ensures.some (none_byte c.if-first-eq64.false)) (none_or c.in-None.ensures.none (none_or (none_sx c.in-None-front_index.ensures.none) none_row))
