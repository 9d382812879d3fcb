use Rattle.std.proofs.Common.{refl, true}
use Rattle.wasm_shapes.specs.Shape.{Shape}
use Rattle.wasm_shapes.specs.Operators.{code_of}
use Rattle.wasm_read.proofs.Codes.{begins_op, none_op_code, none_op_row, none_op_imms, fewer_left}
use Rattle.wasm_read.proofs.OfKinds.{kinds_core}
use Rattle.wasm_read.proofs.operators.front_operator.Goals as goal

pub front_imms-requires : goal.front_imms-requires
front_imms-requires c = kinds_core (code_of c.in-Some.opcode) c.in-Some-row_of.kinds.now c.in-Some-row_of.ensures.some

pub returns-in_default-clause-none : goal.returns-in_default-clause-none
returns-in_default-clause-none c = none_op_code c.in_default.ensures.none

pub returns-in_default-row_of-clause-none : goal.returns-in_default-row_of-clause-none
returns-in_default-row_of-clause-none c = none_op_row c.in_default-row_of.ensures.none c.in-Some.ensures.some

pub returns-in-Ok-Some-clause-some : goal.returns-in-Ok-Some-clause-some
returns-in-Ok-Some-clause-some c =
    let begins = rw c.in-Ok-Some.field-0-is at c.in-Ok-Some.ensures.some in
    begins_op c.in-Some-row_of.ensures.some c.in-Some.ensures.some begins

pub returns-in-Ok-Some-clause-shorter : goal.returns-in-Ok-Some-clause-shorter
returns-in-Ok-Some-clause-shorter c =
    let begins = rw c.in-Ok-Some.field-0-is at c.in-Ok-Some.ensures.some in
    fewer_left {s = Shape.op true} refl (begins_op c.in-Some-row_of.ensures.some c.in-Some.ensures.some begins)

pub returns-in-Ok-None-clause-none : goal.returns-in-Ok-None-clause-none
returns-in-Ok-None-clause-none c =
    let none = rw c.in-Ok-None.field-0-is at c.in-Ok-None.ensures.none in
    none_op_imms c.in-Some-row_of.ensures.some c.in-Some.ensures.some none
