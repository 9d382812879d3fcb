use Rattle.wasm_write.proofs.Fronts.{front_stays_on}
use Rattle.wasm_write.proofs.groups.write_composite.Goals as goal

pub returns-in-Ok-clause-err : goal.returns-in-Ok-clause-err
returns-in-Ok-clause-err c =
    front_stays_on c.args.out.now.items _ _ c.args.out.now.ok.0 c.write_byte.new.out.ok.0 c.in-Ok.ensures.ok c.write_describing.result c.write_describing.ensures.err
