use Rattle.std.proofs.Common.{sym}
use Rattle.wasm_write.proofs.HoldingSections.{sections_length}
use Rattle.wasm_write.proofs.module.Module.len.Goals as goal

pub returns : goal.returns
returns c = rw (← c.self.view_is) (sym (sections_length c.self.inside.held))
