use Rattle.wasm_leb.proofs.Placed.{number_placed}
use Rattle.wasm_leb.proofs.read.read_u64.Goals as goal

pub returns-in-Some-clause-ok : goal.returns-in-Some-clause-ok
returns-in-Some-clause-ok c = number_placed 128 64 64 c.args.bytes.now _ _ c.args.at _ c.from_place.ensures c.in-Some.ensures.some
