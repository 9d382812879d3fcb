use Rattle.std.proofs.Common.{List, length, ◌≤◌}
use Rattle.wasm_shapes.specs.Tree.{Tree}
use Rattle.wasm_shapes.proofs.Expressions.{OperatorsSoFar}
use Rattle.wasm_read.proofs.expressions.front_expr.Given as goal

abbrev pub invariant-operators : goal.invariant-operators
invariant-operators l = ((operators : List Tree) × OperatorsSoFar l.initial.rest operators l.rest) × (length l.rest ≤ length l.initial.rest)

abbrev pub decreases-operators : goal.decreases-operators
decreases-operators l = length l.rest
