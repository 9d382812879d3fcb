use Rattle.std.proofs.Common.{refl, arith}
use Rattle.wasm_shapes.proofs.Begins.{begins_seq, begins_u32, begins_within, none_here, none_at_end, none_seq_first, none_seq_second, none_u32}
use Rattle.wasm_read.proofs.immediates.front_cast.Goals as goal

pub returns-in_default-clause-none : goal.returns-in_default-clause-none
returns-in_default-clause-none c = none_here c.in_default.ensures.none (none_at_end refl)

pub returns-in_default-front_u32-clause-none : goal.returns-in_default-front_u32-clause-none
returns-in_default-front_u32-clause-none c =
    none_seq_second refl refl (begins_within (omega arith) (omega arith) c.in-Some.ensures.is_byte c.in-Some.ensures.some)
    (none_seq_first (none_u32 c.in_default-front_u32.ensures.none))

pub returns-in_default-front_heap_type-clause-none : goal.returns-in_default-front_heap_type-clause-none
returns-in_default-front_heap_type-clause-none c =
    none_seq_second refl refl (begins_within (omega arith) (omega arith) c.in-Some.ensures.is_byte c.in-Some.ensures.some)
    (none_seq_second refl refl (begins_u32 c.in-Some-front_u32.ensures.some) (none_seq_first c.in_default-front_heap_type.ensures.none))

pub returns-in-Some-front_heap_type-2-clause-some : goal.returns-in-Some-front_heap_type-2-clause-some
returns-in-Some-front_heap_type-2-clause-some c =
    rw c.cast_of.ensures.tree
    (begins_seq (begins_within (omega arith) (omega arith) c.in-Some.ensures.is_byte c.in-Some.ensures.some)
    (begins_seq (begins_u32 c.in-Some-front_u32.ensures.some) (begins_seq c.in-Some-front_heap_type.ensures.some c.in-Some-front_heap_type-2.ensures.some)))

pub returns-in-None-clause-none : goal.returns-in-None-clause-none
returns-in-None-clause-none c =
    none_seq_second refl refl (begins_within (omega arith) (omega arith) c.in-Some.ensures.is_byte c.in-Some.ensures.some)
    (none_seq_second refl refl (begins_u32 c.in-Some-front_u32.ensures.some)
    (none_seq_second refl refl c.in-Some-front_heap_type.ensures.some c.in-None.ensures.none))
