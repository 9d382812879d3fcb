use Rattle.wasm_read_component.proofs.NestedRows.{taken}
use Rattle.wasm_read_component.proofs.nested.bytes_before.Goals as goal

pub returns : goal.returns
returns c text e = rw c.saturating_sub.ensures (taken c.args.bytes.now text c.args.behind.now e)
