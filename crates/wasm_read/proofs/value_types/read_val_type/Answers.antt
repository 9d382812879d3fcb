use Rattle.std.proofs.Common.{refl}
use Rattle.wasm_read.proofs.Placed.{placed, forward}
use Rattle.wasm_read.proofs.value_types.read_val_type.Goals as goal

pub returns-in-Some-clause-ok : goal.returns-in-Some-clause-ok
returns-in-Some-clause-ok c = placed c.args.bytes.now c.args.at c.from_place.ensures c.in-Some.ensures.some

pub returns-in-Some-clause-forward : goal.returns-in-Some-clause-forward
returns-in-Some-clause-forward c = forward c.args.bytes.now c.args.at refl c.from_place.ensures c.in-Some.ensures.some
