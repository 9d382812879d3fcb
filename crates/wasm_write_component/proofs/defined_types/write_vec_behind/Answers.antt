use Rattle.wasm_write.proofs.Fronts.{front_stays_on}
use Rattle.wasm_write_component.proofs.defined_types.write_vec_behind.Goals as goal

pub returns-in-Ok-clause-err : goal.returns-in-Ok-clause-err
returns-in-Ok-clause-err g c =
    front_stays_on c.args.out.now.items _ _ c.args.out.now.ok.0 c.write_byte.new.out.ok.0 c.in-Ok.ensures.ok c.write_vec.result c.write_vec.ensures.err
