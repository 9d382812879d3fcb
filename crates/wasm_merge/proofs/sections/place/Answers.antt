use Rattle.std.proofs.Common.{arith}
use Rattle.wasm_merge.proofs.KindNumbers.{at_most, tag_is}
use Rattle.wasm_merge.proofs.sections.place.Goals as goal

pub returns : goal.returns
returns c = let most = at_most c.args.kind in let is = tag_is c.args.kind in record { is = is; low = omega (arith, most, is) }
