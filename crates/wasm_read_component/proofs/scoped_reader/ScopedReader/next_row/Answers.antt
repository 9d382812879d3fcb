use Rattle.wasm_read_component.proofs.ScopedRows.{refused_row, refused_behind}
use Rattle.wasm_read_component.proofs.scoped_reader.ScopedReader.next_row.Goals as goal

pub returns-in-Ok-None-front-clause-err : goal.returns-in-Ok-None-front-clause-err
returns-in-Ok-None-front-clause-err g c =
    let due = rw c.in-Ok-Some.field-0-is at c.in-Ok-Some.ensures.due in
    refused_row g.K.ReadRowAt.takes_memory g.K.RowKind.shape _ _ c.self.view_is c.refusal.ensures due.0 due.1 (rw c.in-Ok-None-front.field-0-is at c.in-Ok-None-front.ensures.none)

pub returns-in-Err-clause-err : goal.returns-in-Err-clause-err
returns-in-Err-clause-err g c = refused_behind g.K.ReadRowAt.takes_memory g.K.RowKind.shape c.in-Err.fault _ c.self.view_is c.in-Err.ensures.err
