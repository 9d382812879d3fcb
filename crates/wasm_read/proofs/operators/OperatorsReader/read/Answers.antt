use Rattle.wasm_read.proofs.Placed.{placed}
use Rattle.wasm_read.proofs.operators.OperatorsReader.read.Goals as goal

pub returns-in-Ok-Some-clause-row : goal.returns-in-Ok-Some-clause-row
returns-in-Ok-Some-clause-row c =
    let begins = rw c.in-Ok-Some.field-0-is at c.in-Ok-Some.ensures.some in
    let here = rw (← c.self.view_is) at c.rest.ensures in
    rw (← c.self.view_is) (placed c.self.inside.bytes.now c.self.inside.at here begins)
