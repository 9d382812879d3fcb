use Rattle.std.proofs.Common.{refl}
use Rattle.wasm_shapes.proofs.Begins.{begins_u32, none_seq_second}
use Rattle.wasm_read.proofs.NameMaps.{indirect_begins}
use Rattle.wasm_read.proofs.names.front_indirect.Goals as goal

pub returns-in-Some-behind_vec-clause-some : goal.returns-in-Some-behind_vec-clause-some
returns-in-Some-behind_vec-clause-some c =
    let there = c.in-Some-behind_vec.ensures.some in
    indirect_begins c.in-Some.ensures.some there.1 c.new-names.ensures

pub returns-in-None-clause-none : goal.returns-in-None-clause-none
returns-in-None-clause-none c = none_seq_second refl refl (begins_u32 c.in-Some.ensures.some) c.in-None.ensures.none
