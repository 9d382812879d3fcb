use Rattle.wasm_read.proofs.NameMaps.{missing_filled}
use Rattle.wasm_read.proofs.names.Entries.due.Goals as goal

pub returns-in-Some-eq0-default-clause-err : goal.returns-in-Some-eq0-default-clause-err
returns-in-Some-eq0-default-clause-err c =
    λ row. missing_filled c.args.self.now c.in-Some-eq0-default.field-0-0 c.in-Some-eq0-default.field-0-1.now c.in-Some-eq0-default.ensures.some c.in-Some-eq0-default.field-0-0-test c.in-Some-eq0-default.len_at_least
