use Rattle.wasm_shapes.specs.Module.{plain_naming}
use Rattle.wasm_read.proofs.NameMaps.{missing_entry}
use Rattle.wasm_read.proofs.names.NameMap.next.Goals as goal

pub returns-in-None-clause-err : goal.returns-in-None-clause-err
returns-in-None-clause-err c =
    let due = rw c.in-Ok-Some.field-0-is at c.in-Ok-Some.ensures.due in
    rw (← c.self.view_is) (missing_entry c.self.inside.entries c.in-Ok-Some.left c.in-Ok-Some.bytes.now due c.in-None.ensures.none)

pub returns-in-Err-clause-err : goal.returns-in-Err-clause-err
returns-in-Err-clause-err c = rw (← c.self.view_is) (c.in-Err.ensures.err plain_naming)
