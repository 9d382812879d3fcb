use Rattle.wasm_read.proofs.Placed.{placed}
use Rattle.wasm_read.proofs.externals.read_type_ref.Goals as goal

pub returns-in-Some-clause-ok : goal.returns-in-Some-clause-ok
returns-in-Some-clause-ok c = placed c.args.bytes.now c.args.at c.from_place.ensures c.in-Some.ensures.some
