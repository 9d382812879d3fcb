use Rattle.std.proofs.Common.{length-append, arith}
use Rattle.wasm_leb.specs.Leb.{leb}
use Rattle.wasm_write.proofs.Holding.{held_normal}
use Rattle.wasm_write.proofs.row_section.RowSection.body_len.Goals as goal

pub returns : goal.returns
returns g c =
    rw (← c.self.view_is, held_normal c.self.inside.held, ← c.deref.ensures.value, ← c.behind.ensures)
    (omega (arith, c.len_u32.ensures.value, length-append (leb c.self.inside.count) c.behind.result.now))
