use Rattle.std.proofs.Common.{◌-◌, length}
use Rattle.examples.proofs.Counting.{Entering}
use Rattle.examples.proofs.counter.CounterReencode.parse_function_body.Given as goal

-- the locals and the operators so far are mapped, with the call between them
abbrev pub invariant-operators : goal.invariant-operators
invariant-operators l = Entering l.fn.func.bytes.now l.reader l.function l.moved

abbrev pub decreases-operators : goal.decreases-operators
decreases-operators l = length l.reader.bytes - l.reader.at
