use Rattle.std.proofs.Common.{◌<◌, ◌^◌, arith}
use Rattle.wasm_write.proofs.Holding.{held_normal, held_spells, OnOk-of}
use Rattle.wasm_write.proofs.row_section.RowSectionSection.encode_body.Goals as goal

pub returns-clause-ok : goal.returns-clause-ok
returns-clause-ok g c = rw (← c.self.view_is, held_normal c.self.inside.held, ← c.deref.ensures.value, ← c.behind.ensures) c.write_behind.ensures.ok

pub returns-clause-spells : goal.returns-clause-spells
returns-clause-spells g c =
    let small : c.self.inside.count < 2 ^ 32 = omega arith in
    OnOk-of c.write_behind.result (rw (← c.self.view_is) (held_spells c.self.inside.held small))
