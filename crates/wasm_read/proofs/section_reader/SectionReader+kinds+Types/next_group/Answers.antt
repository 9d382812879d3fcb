use Rattle.wasm_read.proofs.Missing.{reads_missing}
use Rattle.wasm_read.proofs.section_reader.SectionReader+kinds+Types.next_group.Goals as goal

pub returns-in-None-clause-err : goal.returns-in-None-clause-err
returns-in-None-clause-err c =
    let due = rw c.in-Ok-Some.field-0-is at c.in-Ok-Some.ensures.due in
    reads_missing _ _ _ c.self.view_is c.refusal.ensures due.0 due.1 c.in-None.ensures.none
