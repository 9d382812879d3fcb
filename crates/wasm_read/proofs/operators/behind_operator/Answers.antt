use Rattle.std.proofs.Common.{refl, true}
use Rattle.wasm_shapes.specs.Shape.{Shape}
use Rattle.wasm_shapes.specs.Operators.{code_of}
use Rattle.wasm_read.proofs.Codes.{begins_op, none_op_code, none_op_row, none_op_imms, fewer_left}
use Rattle.wasm_read.proofs.OfKinds.{kinds_core, passed}
use Rattle.wasm_read.proofs.operators.behind_operator.Goals as goal

pub behind_imms-requires : goal.behind_imms-requires
behind_imms-requires c = kinds_core (code_of c.in-Some.opcode) c.in-Some-row_of.kinds.now c.in-Some-row_of.ensures.some

pub returns-in_default-clause-none : goal.returns-in_default-clause-none
returns-in_default-clause-none c = none_op_code c.in_default.ensures.none

pub returns-in_default-row_of-clause-none : goal.returns-in_default-row_of-clause-none
returns-in_default-row_of-clause-none c = none_op_row c.in_default-row_of.ensures.none c.in-Some.ensures.some

pub returns-in-Some-behind_imms-clause-some : goal.returns-in-Some-behind_imms-clause-some
returns-in-Some-behind_imms-clause-some c =
    passed (begins_op c.in-Some-row_of.ensures.some c.in-Some.ensures.some c.in-Some-behind_imms.ensures.some.1)

pub returns-in-Some-behind_imms-clause-shorter : goal.returns-in-Some-behind_imms-clause-shorter
returns-in-Some-behind_imms-clause-shorter c =
    fewer_left {s = Shape.op true} refl (begins_op c.in-Some-row_of.ensures.some c.in-Some.ensures.some c.in-Some-behind_imms.ensures.some.1)

pub returns-in-None-clause-none : goal.returns-in-None-clause-none
returns-in-None-clause-none c = none_op_imms c.in-Some-row_of.ensures.some c.in-Some.ensures.some c.in-None.ensures.none
