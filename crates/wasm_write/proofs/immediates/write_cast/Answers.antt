use Rattle.std.proofs.Common.{◌∙◌, append_assoc}
use Rattle.wasm_write.proofs.Fronts.{front_stays_on}
use Rattle.wasm_write.proofs.immediates.write_cast.Goals as goal

pub returns-in-Ok-write_u32-clause-err : goal.returns-in-Ok-write_u32-clause-err
returns-in-Ok-write_u32-clause-err c =
    let e = rw c.in-Ok.ensures.ok at c.in-Ok-write_u32.ensures.ok in
    front_stays_on c.args.out.now.items _ _ c.args.out.now.ok.0 c.write_u32.new.out.ok.0 (e ∙ append_assoc c.args.out.now.items _ _) c.write_heap_types.result
    c.write_heap_types.ensures.err
