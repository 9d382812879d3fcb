use Rattle.std.proofs.Common.{refl}
use Rattle.wasm_shapes.proofs.Begins.{begins_seq, none_seq_first, none_seq_second}
use Rattle.wasm_read_component.proofs.rows.front_component_export.Goals as goal

pub returns-in_default-front_sorted-clause-none : goal.returns-in_default-front_sorted-clause-none
returns-in_default-front_sorted-clause-none c = none_seq_second refl refl c.in-Some.ensures.some (none_seq_first c.in_default-front_sorted.ensures.none)

pub returns-in-Some-front_optional-clause-some : goal.returns-in-Some-front_optional-clause-some
returns-in-Some-front_optional-clause-some c =
    begins_seq c.in-Some.ensures.some (begins_seq c.in-Some-front_sorted.ensures.some c.in-Some-front_optional.ensures.some)

pub returns-in-None-clause-none : goal.returns-in-None-clause-none
returns-in-None-clause-none c =
    none_seq_second refl refl c.in-Some.ensures.some (none_seq_second refl refl c.in-Some-front_sorted.ensures.some c.in-None.ensures.none)
