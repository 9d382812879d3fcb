use Rattle.std.proofs.Common.{◌≡◌, refl, false, arith}
use Rattle.std.proofs.lemmas.Bool.Decides.{nat_tests}
use Rattle.wasm_shapes.specs.Shape.{Shape}
use Rattle.wasm_shapes.specs.Component.{defined_type}
use Rattle.wasm_shapes.specs.Sound.{contains, first_bytes}
use Rattle.wasm_shapes.proofs.Begins.{at_byte, begins_byte, begins_ix, begins_row, begins_seq, begins_u32, none_at_end, none_by_front, none_choice, none_here, none_ix, none_lead, none_or, none_seq_first, none_seq_second, none_u32}
use Rattle.wasm_read_component.proofs.ComponentValues.{primitive_begins, primitive_none}
use Rattle.wasm_read_component.proofs.defined_types.front_defined_type.Goals as goal

-- the rows behind the first
abbrev behind_first : Shape → Shape
behind_first (Shape.or a b) = b
behind_first s = s

pub returns-in_default-clause-none : goal.returns-in_default-clause-none
returns-in_default-clause-none c = none_here c.in_default.ensures.none (none_at_end refl)

pub returns-in-Ok-Some-clause-some : goal.returns-in-Ok-Some-clause-some
returns-in-Ok-Some-clause-some c = begins_row {k = 1} (begins_seq (begins_byte (at_byte c.in-Some.ensures.some c.in-114.is)) (rw c.in-Ok-Some.field-0-is at c.in-Ok-Some.ensures.some))

pub returns-in-Ok-None-clause-none : goal.returns-in-Ok-None-clause-none
returns-in-Ok-None-clause-none c = none_here (at_byte c.in-Some.ensures.some c.in-114.is) (none_choice defined_type 114 _ refl (none_lead refl (rw c.in-Ok-None.field-0-is at c.in-Ok-None.ensures.none), tt))

pub returns-in-Ok-Some-front_rows-clause-some : goal.returns-in-Ok-Some-front_rows-clause-some
returns-in-Ok-Some-front_rows-clause-some c = begins_row {k = 2} (begins_seq (begins_byte (at_byte c.in-Some.ensures.some c.in-113.is)) (rw c.in-Ok-Some-front_rows.field-0-is at c.in-Ok-Some-front_rows.ensures.some))

pub returns-in-Ok-None-front_rows-clause-none : goal.returns-in-Ok-None-front_rows-clause-none
returns-in-Ok-None-front_rows-clause-none c = none_here (at_byte c.in-Some.ensures.some c.in-113.is) (none_choice defined_type 113 _ refl (none_lead refl (rw c.in-Ok-None-front_rows.field-0-is at c.in-Ok-None-front_rows.ensures.none), tt))

pub returns-in-Some-front_component_val_type-clause-some : goal.returns-in-Some-front_component_val_type-clause-some
returns-in-Some-front_component_val_type-clause-some c = begins_row {k = 3} (begins_seq (begins_byte (at_byte c.in-Some.ensures.some c.in-112.is)) c.in-Some-front_component_val_type.ensures.some)

pub returns-in-None-clause-none : goal.returns-in-None-clause-none
returns-in-None-clause-none c = none_here (at_byte c.in-Some.ensures.some c.in-112.is) (none_choice defined_type 112 _ refl (none_lead refl c.in-None.ensures.none, tt))

pub returns-in-Ok-Some-front_rows-2-clause-some : goal.returns-in-Ok-Some-front_rows-2-clause-some
returns-in-Ok-Some-front_rows-2-clause-some c = begins_row {k = 4} (begins_seq (begins_byte (at_byte c.in-Some.ensures.some c.in-111.is)) (rw c.in-Ok-Some-front_rows-2.field-0-is at c.in-Ok-Some-front_rows-2.ensures.some))

pub returns-in-Ok-None-front_rows-2-clause-none : goal.returns-in-Ok-None-front_rows-2-clause-none
returns-in-Ok-None-front_rows-2-clause-none c = none_here (at_byte c.in-Some.ensures.some c.in-111.is) (none_choice defined_type 111 _ refl (none_lead refl (rw c.in-Ok-None-front_rows-2.field-0-is at c.in-Ok-None-front_rows-2.ensures.none), tt))

pub returns-in-Ok-Some-front_rows-3-clause-some : goal.returns-in-Ok-Some-front_rows-3-clause-some
returns-in-Ok-Some-front_rows-3-clause-some c = begins_row {k = 5} (begins_seq (begins_byte (at_byte c.in-Some.ensures.some c.in-110.is)) (rw c.in-Ok-Some-front_rows-3.field-0-is at c.in-Ok-Some-front_rows-3.ensures.some))

pub returns-in-Ok-None-front_rows-3-clause-none : goal.returns-in-Ok-None-front_rows-3-clause-none
returns-in-Ok-None-front_rows-3-clause-none c = none_here (at_byte c.in-Some.ensures.some c.in-110.is) (none_choice defined_type 110 _ refl (none_lead refl (rw c.in-Ok-None-front_rows-3.field-0-is at c.in-Ok-None-front_rows-3.ensures.none), tt))

pub returns-in-Ok-Some-front_rows-4-clause-some : goal.returns-in-Ok-Some-front_rows-4-clause-some
returns-in-Ok-Some-front_rows-4-clause-some c = begins_row {k = 6} (begins_seq (begins_byte (at_byte c.in-Some.ensures.some c.in-109.is)) (rw c.in-Ok-Some-front_rows-4.field-0-is at c.in-Ok-Some-front_rows-4.ensures.some))

pub returns-in-Ok-None-front_rows-4-clause-none : goal.returns-in-Ok-None-front_rows-4-clause-none
returns-in-Ok-None-front_rows-4-clause-none c = none_here (at_byte c.in-Some.ensures.some c.in-109.is) (none_choice defined_type 109 _ refl (none_lead refl (rw c.in-Ok-None-front_rows-4.field-0-is at c.in-Ok-None-front_rows-4.ensures.none), tt))

pub returns-in-Some-front_component_val_type-2-clause-some : goal.returns-in-Some-front_component_val_type-2-clause-some
returns-in-Some-front_component_val_type-2-clause-some c = begins_row {k = 7} (begins_seq (begins_byte (at_byte c.in-Some.ensures.some c.in-107.is)) c.in-Some-front_component_val_type-2.ensures.some)

pub returns-in-None-front_component_val_type-clause-none : goal.returns-in-None-front_component_val_type-clause-none
returns-in-None-front_component_val_type-clause-none c = none_here (at_byte c.in-Some.ensures.some c.in-107.is) (none_choice defined_type 107 _ refl (none_lead refl c.in-None-front_component_val_type.ensures.none, tt))

pub returns-in-Some-front_optional-2-clause-some : goal.returns-in-Some-front_optional-2-clause-some
returns-in-Some-front_optional-2-clause-some c = begins_row {k = 8} (begins_seq (begins_byte (at_byte c.in-Some.ensures.some c.in-106.is)) (begins_seq c.in-Some-front_optional.ensures.some c.in-Some-front_optional-2.ensures.some))

pub returns-in_default-front_optional-clause-none : goal.returns-in_default-front_optional-clause-none
returns-in_default-front_optional-clause-none c = none_here (at_byte c.in-Some.ensures.some c.in-106.is) (none_choice defined_type 106 _ refl (none_lead refl (none_seq_first c.in_default-front_optional.ensures.none), tt))

pub returns-in-None-front_optional-clause-none : goal.returns-in-None-front_optional-clause-none
returns-in-None-front_optional-clause-none c = none_here (at_byte c.in-Some.ensures.some c.in-106.is) (none_choice defined_type 106 _ refl (none_lead refl (none_seq_second refl refl c.in-Some-front_optional.ensures.some c.in-None-front_optional.ensures.none), tt))

pub returns-in-Some-front_u32-clause-some : goal.returns-in-Some-front_u32-clause-some
returns-in-Some-front_u32-clause-some c = begins_row {k = 9} (begins_seq (begins_byte (at_byte c.in-Some.ensures.some c.in-105.is)) (begins_ix c.in-Some-front_u32.ensures.some))

pub returns-in-None-front_u32-clause-none : goal.returns-in-None-front_u32-clause-none
returns-in-None-front_u32-clause-none c = none_here (at_byte c.in-Some.ensures.some c.in-105.is) (none_choice defined_type 105 _ refl (none_lead refl (none_ix c.in-None-front_u32.ensures.none), tt))

pub returns-in-Some-front_u32-2-clause-some : goal.returns-in-Some-front_u32-2-clause-some
returns-in-Some-front_u32-2-clause-some c = begins_row {k = 10} (begins_seq (begins_byte (at_byte c.in-Some.ensures.some c.in-104.is)) (begins_ix c.in-Some-front_u32-2.ensures.some))

pub returns-in-None-front_u32-2-clause-none : goal.returns-in-None-front_u32-2-clause-none
returns-in-None-front_u32-2-clause-none c = none_here (at_byte c.in-Some.ensures.some c.in-104.is) (none_choice defined_type 104 _ refl (none_lead refl (none_ix c.in-None-front_u32-2.ensures.none), tt))

pub returns-in-Some-front_u32-3-clause-some : goal.returns-in-Some-front_u32-3-clause-some
returns-in-Some-front_u32-3-clause-some c = begins_row {k = 11} (begins_seq (begins_byte (at_byte c.in-Some.ensures.some c.in-103.is)) (begins_seq c.in-Some-front_component_val_type-3.ensures.some (begins_u32 c.in-Some-front_u32-3.ensures.some)))

pub returns-in_default-front_component_val_type-clause-none : goal.returns-in_default-front_component_val_type-clause-none
returns-in_default-front_component_val_type-clause-none c = none_here (at_byte c.in-Some.ensures.some c.in-103.is) (none_choice defined_type 103 _ refl (none_lead refl (none_seq_first c.in_default-front_component_val_type.ensures.none), tt))

pub returns-in-None-front_u32-3-clause-none : goal.returns-in-None-front_u32-3-clause-none
returns-in-None-front_u32-3-clause-none c = none_here (at_byte c.in-Some.ensures.some c.in-103.is) (none_choice defined_type 103 _ refl (none_lead refl (none_seq_second refl refl c.in-Some-front_component_val_type-3.ensures.some (none_u32 c.in-None-front_u32-3.ensures.none)), tt))

pub returns-in-Some-front_optional-3-clause-some : goal.returns-in-Some-front_optional-3-clause-some
returns-in-Some-front_optional-3-clause-some c = begins_row {k = 12} (begins_seq (begins_byte (at_byte c.in-Some.ensures.some c.in-102.is)) c.in-Some-front_optional-3.ensures.some)

pub returns-in-None-front_optional-2-clause-none : goal.returns-in-None-front_optional-2-clause-none
returns-in-None-front_optional-2-clause-none c = none_here (at_byte c.in-Some.ensures.some c.in-102.is) (none_choice defined_type 102 _ refl (none_lead refl c.in-None-front_optional-2.ensures.none, tt))

pub returns-in-Some-front_optional-4-clause-some : goal.returns-in-Some-front_optional-4-clause-some
returns-in-Some-front_optional-4-clause-some c = begins_row {k = 13} (begins_seq (begins_byte (at_byte c.in-Some.ensures.some c.in-101.is)) c.in-Some-front_optional-4.ensures.some)

pub returns-in-None-front_optional-3-clause-none : goal.returns-in-None-front_optional-3-clause-none
returns-in-None-front_optional-3-clause-none c = none_here (at_byte c.in-Some.ensures.some c.in-101.is) (none_choice defined_type 101 _ refl (none_lead refl c.in-None-front_optional-3.ensures.none, tt))

pub returns-in-Some-front_component_val_type-5-clause-some : goal.returns-in-Some-front_component_val_type-5-clause-some
returns-in-Some-front_component_val_type-5-clause-some c = begins_row {k = 14} (begins_seq (begins_byte (at_byte c.in-Some.ensures.some c.in-99.is)) (begins_seq c.in-Some-front_component_val_type-4.ensures.some c.in-Some-front_component_val_type-5.ensures.some))

pub returns-in_default-front_component_val_type-2-clause-none : goal.returns-in_default-front_component_val_type-2-clause-none
returns-in_default-front_component_val_type-2-clause-none c = none_here (at_byte c.in-Some.ensures.some c.in-99.is) (none_choice defined_type 99 _ refl (none_lead refl (none_seq_first c.in_default-front_component_val_type-2.ensures.none), tt))

pub returns-in-None-front_component_val_type-2-clause-none : goal.returns-in-None-front_component_val_type-2-clause-none
returns-in-None-front_component_val_type-2-clause-none c = none_here (at_byte c.in-Some.ensures.some c.in-99.is) (none_choice defined_type 99 _ refl (none_lead refl (none_seq_second refl refl c.in-Some-front_component_val_type-4.ensures.some c.in-None-front_component_val_type-2.ensures.none), tt))

pub returns-in-Some-primitive_of-clause-some : goal.returns-in-Some-primitive_of-clause-some
returns-in-Some-primitive_of-clause-some c =
    begins_row {k = 0} (primitive_begins c.in-Some-primitive_of.ty (at_byte c.in-Some.ensures.some c.in-Some-primitive_of.ensures.some))

pub returns-in-None-primitive_of-clause-none : goal.returns-in-None-primitive_of-clause-none
returns-in-None-primitive_of-clause-none c =
    let other : contains (first_bytes (behind_first defined_type)) c.in-Some.first ≡ false = grind (arith, nat_tests) in
    none_or (none_here c.in-Some.ensures.some (primitive_none c.in-None-primitive_of.ensures.none)) (none_here c.in-Some.ensures.some (none_by_front refl other))
