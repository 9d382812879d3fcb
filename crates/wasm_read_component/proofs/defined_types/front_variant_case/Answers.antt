use Rattle.std.proofs.Common.{refl}
use Rattle.wasm_shapes.proofs.Begins.{at_byte, begins_byte, begins_seq, none_at_end, none_byte, none_here, none_seq_first, none_seq_second}
use Rattle.wasm_read_component.proofs.defined_types.front_variant_case.Goals as goal

pub returns-in_default-front_optional-clause-none : goal.returns-in_default-front_optional-clause-none
returns-in_default-front_optional-clause-none c = none_seq_second refl refl c.in-Some.ensures.some (none_seq_first c.in_default-front_optional.ensures.none)

pub returns-in_default-front_byte-clause-none : goal.returns-in_default-front_byte-clause-none
returns-in_default-front_byte-clause-none c =
    none_seq_second refl refl c.in-Some.ensures.some
    (none_seq_second refl refl c.in-Some-front_optional.ensures.some (none_here c.in_default-front_byte.ensures.none (none_at_end refl)))

pub returns-then-last-ne0-clause-none : goal.returns-then-last-ne0-clause-none
returns-then-last-ne0-clause-none c =
    none_seq_second refl refl c.in-Some.ensures.some
    (none_seq_second refl refl c.in-Some-front_optional.ensures.some (none_here c.in-Some-front_byte.ensures.some (none_byte c.if-last-ne0.true)))

pub returns-clause-some : goal.returns-clause-some
returns-clause-some c =
    begins_seq c.in-Some.ensures.some
    (begins_seq c.in-Some-front_optional.ensures.some (begins_byte (at_byte c.in-Some-front_byte.ensures.some c.if-last-ne0.false)))
