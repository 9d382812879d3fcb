use Rattle.wasm_read.proofs.HeapTypes.{heap_begins, concrete_begins, heap_none}
use Rattle.wasm_read.proofs.value_types.front_heap_type.Goals as goal

pub returns-in-Some-clause-some : goal.returns-in-Some-clause-some
returns-in-Some-clause-some c = heap_begins c.in-Some.ensures.some

pub returns-in-Some-front_concrete-clause-some : goal.returns-in-Some-front_concrete-clause-some
returns-in-Some-front_concrete-clause-some c = concrete_begins c.in-Some-front_concrete.ty c.in-Some-front_concrete.ensures.some

pub returns-in-None-front_concrete-clause-none : goal.returns-in-None-front_concrete-clause-none
returns-in-None-front_concrete-clause-none c = heap_none c.in-None.ensures.none c.in-None-front_concrete.ensures.none
