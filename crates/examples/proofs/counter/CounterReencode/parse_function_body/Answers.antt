use Rattle.std.proofs.Common.{refl}
use Rattle.wasm_read.specs.Operations.{rest_of}
use Rattle.wasm_write.specs.Instructions.{instruction_tree}
use Rattle.reencode_core.proofs.bodies.WholeBody.{none_left}
use Rattle.examples.proofs.Counting.{entering_begun, entering_ended, entering_more}
use Rattle.examples.proofs.counter.CounterReencode.parse_function_body.Goals as goal

pub operators-init : goal.operators-init
operators-init c =
    let found = c.in_ok-reader.ensures in
    entering_begun c.in_ok-function.ensures c.in_ok-index_operator.ensures.ok found.ok.1 found.bytes

pub operators-preserved : goal.operators-preserved
operators-preserved c =
    let given = c.in_ok-instruction.ensures in
    entering_more instruction_tree c.in_ok-instruction.instruction c.operators.invariant (given.default refl) given.taken c.in_ok-instruction-2.ensures.ok

pub returns-clause-entered : goal.returns-clause-entered
returns-clause-entered c =
    let none = none_left c.eof.result (rest_of c.operators.reader) c.eof.ensures c.operators-test.false in
    let added = c.in_ok-function-2.ensures in
    entering_ended c.operators.invariant none added.ok added.fits.0
