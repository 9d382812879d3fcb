use Rattle.std.proofs.Common.{sym}
use Rattle.wasm_write.proofs.Holding.{held_length}
use Rattle.wasm_write.proofs.row_section.RowSection.len.Goals as goal

pub returns : goal.returns
returns g c = rw (← c.self.view_is) (sym (held_length c.self.inside.held))
