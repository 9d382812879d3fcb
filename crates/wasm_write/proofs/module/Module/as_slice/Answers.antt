use Rattle.std.proofs.Common.{◌∙◌}
use Rattle.wasm_write.proofs.HoldingSections.{sections_are}
use Rattle.wasm_write.proofs.module.Module.as_slice.Goals as goal

pub returns : goal.returns
returns c = rw (← c.self.view_is) (c.as_slice.ensures ∙ sections_are c.self.inside.held)
