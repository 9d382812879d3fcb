use Rattle.std.proofs.Common.{◌≢◌, refl, arith}
use Rattle.wasm_shapes.specs.Shape.{reference}
use Rattle.wasm_shapes.proofs.Begins.{begins_row, begins_seq, begins_byte, at_byte, none_here, none_at_end, none_choice, none_lead}
use Rattle.wasm_shapes.proofs.Parts.{begins_spare_left}
use Rattle.wasm_read.proofs.HeapTypes.{null_begins, null_none, bare_none}
use Rattle.wasm_read.proofs.value_types.front_ref_type.Goals as goal

pub returns-in_default-clause-none : goal.returns-in_default-clause-none
returns-in_default-clause-none c = none_here c.in_default.ensures.none (none_at_end refl)

pub returns-in-Some-front_heap_type-clause-some : goal.returns-in-Some-front_heap_type-clause-some
returns-in-Some-front_heap_type-clause-some c =
    begins_row {k = 0} (begins_seq (begins_byte (at_byte c.in-Some.ensures.some c.in-100.is)) c.in-Some-front_heap_type.ensures.some)

pub returns-in-None-clause-none : goal.returns-in-None-clause-none
returns-in-None-clause-none c =
    none_here (at_byte c.in-Some.ensures.some c.in-100.is) (none_choice reference 0x64 _ refl (none_lead refl c.in-None.ensures.none, tt))

pub returns-in-Some-front_heap_type-2-clause-some : goal.returns-in-Some-front_heap_type-2-clause-some
returns-in-Some-front_heap_type-2-clause-some c =
    null_begins c.in-Some-front_heap_type-2.heap_type (at_byte c.in-Some.ensures.some c.in-99.is) c.in-Some-front_heap_type-2.ensures.some

pub returns-in-None-front_heap_type-clause-none : goal.returns-in-None-front_heap_type-clause-none
returns-in-None-front_heap_type-clause-none c =
    none_here (at_byte c.in-Some.ensures.some c.in-99.is) (null_none c.in-None-front_heap_type.ensures.none)

pub returns-in-Some-front_abstract-clause-some : goal.returns-in-Some-front_abstract-clause-some
returns-in-Some-front_abstract-clause-some c = begins_row {k = 1} (begins_spare_left c.in-Some-front_abstract.ensures.some)

pub returns-in-None-front_abstract-clause-none : goal.returns-in-None-front_abstract-clause-none
returns-in-None-front_abstract-clause-none c =
    let other : c.in-Some.first ≢ 0x64 = omega arith in
    let another : c.in-Some.first ≢ 0x63 = omega arith in
    bare_none c.in-Some.ensures.some other another c.in-None-front_abstract.ensures.none
