use Rattle.std.proofs.Common.{refl}
use Rattle.wasm_read.proofs.Placed.{placed, forward}
use Rattle.wasm_read.proofs.groups.read_group.Goals as goal

pub returns-in-Ok-Some-clause-ok : goal.returns-in-Ok-Some-clause-ok
returns-in-Ok-Some-clause-ok c =
    let some = rw c.in-Ok-Some.field-0-is at c.in-Ok-Some.ensures.some in
    placed c.args.bytes.now c.args.at c.from_place.ensures some

pub returns-in-Ok-Some-clause-forward : goal.returns-in-Ok-Some-clause-forward
returns-in-Ok-Some-clause-forward c =
    let some = rw c.in-Ok-Some.field-0-is at c.in-Ok-Some.ensures.some in
    forward c.args.bytes.now c.args.at refl c.from_place.ensures some
