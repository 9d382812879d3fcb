use Rattle.std.proofs.Common.{refl}
use Rattle.wasm_strip.proofs.NameRows.{entries_ended, entry_missing, entry_read, same}
use Rattle.wasm_strip.proofs.names.is_map.Goals as goal

pub entries-init : goal.entries-init
entries-init c = same

pub entries-preserved : goal.entries-preserved
entries-preserved c = entry_read refl refl c.entries.invariant (rw c.in-Ok-Some.field-0-is at c.in-Ok-Some.ensures.row)

pub returns-in-Ok-None : goal.returns-in-Ok-None
returns-in-Ok-None c = entries_ended c.entries.invariant (rw c.in-Ok-None.field-0-is at c.in-Ok-None.ensures.ended)

pub returns-in-Err : goal.returns-in-Err
returns-in-Err c = entry_missing c.entries.invariant c.in-Err.ensures.err
