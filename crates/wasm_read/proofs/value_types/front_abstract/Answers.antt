use Rattle.std.proofs.Common.{refl}
use Rattle.wasm_shapes.specs.Shape.{abstract_rows}
use Rattle.wasm_shapes.proofs.Begins.{begins_row, begins_seq, begins_byte, at_byte, none_here, none_at_end, none_choice, none_lead, none_seq_first, none_byte, none_or, none_row}
use Rattle.wasm_read.proofs.HeapTypes.{abstract_begins, abstract_none}
use Rattle.wasm_read.proofs.value_types.front_abstract.Goals as goal

pub returns-in_default-clause-none : goal.returns-in_default-clause-none
returns-in_default-clause-none c = none_here c.in_default.ensures.none (none_at_end refl)

pub returns-in-Some-abstract_of-clause-some : goal.returns-in-Some-abstract_of-clause-some
returns-in-Some-abstract_of-clause-some c =
    begins_row {k = 0} (abstract_begins c.in-Some-abstract_of.ty (at_byte c.in-Some.ensures.some c.in-Some-abstract_of.ensures.some))

pub returns-in-None-clause-none : goal.returns-in-None-clause-none
returns-in-None-clause-none c =
    none_here c.in-Some.ensures.some (none_or (abstract_none c.in-None.ensures.none) (none_or (none_seq_first (none_byte c.if-first-ne101.true)) none_row))

pub returns-in_default-front_byte-clause-none : goal.returns-in_default-front_byte-clause-none
returns-in_default-front_byte-clause-none c =
    none_here (at_byte c.in-Some.ensures.some c.if-first-ne101.false)
    (none_choice abstract_rows 0x65 _ refl (none_lead refl (none_here c.in_default-front_byte.ensures.none (none_at_end refl)), tt))

pub returns-in-Some-abstract_of-2-clause-some : goal.returns-in-Some-abstract_of-2-clause-some
returns-in-Some-abstract_of-2-clause-some c =
    begins_row {k = 1}
    (begins_seq (begins_byte (at_byte c.in-Some.ensures.some c.if-first-ne101.false))
    (abstract_begins c.in-Some-abstract_of-2.ty (at_byte c.in-Some-front_byte.ensures.some c.in-Some-abstract_of-2.ensures.some)))

pub returns-in-None-abstract_of-clause-none : goal.returns-in-None-abstract_of-clause-none
returns-in-None-abstract_of-clause-none c =
    none_here (at_byte c.in-Some.ensures.some c.if-first-ne101.false)
    (none_choice abstract_rows 0x65 _ refl
    (none_lead refl (none_here c.in-Some-front_byte.ensures.some (abstract_none c.in-None-abstract_of.ensures.none)), tt))
