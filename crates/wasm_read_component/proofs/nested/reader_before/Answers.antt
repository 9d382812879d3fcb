use Rattle.wasm_leb.specs.Place.{BeginsNoNumber}
use Rattle.wasm_read_component.proofs.NestedRows.{declared_at, fresh, no_count, reason}
use Rattle.wasm_read_component.proofs.nested.reader_before.Goals as goal

pub returns-in-Ok-clause-some : goal.returns-in-Ok-clause-some
returns-in-Ok-clause-some g c rows p =
    let made = c.in-Ok.ensures.ok in
    declared_at _ c.bytes_before.ensures made.0 made.1 p

pub returns-in-Err-clause-none : goal.returns-in-Err-clause-none
returns-in-Err-clause-none g c rows p = no_count c.bytes_before.ensures (reason 0 (BeginsNoNumber 128 32 32 c.bytes_before.result.now) c.in-Err.field-0 c.in-Err.ensures.err) p

pub returns-in-Ok-clause-fresh : goal.returns-in-Ok-clause-fresh
returns-in-Ok-clause-fresh g c rows p = fresh _ c.bytes_before.ensures c.in-Ok.ensures.ok.0 p
