use Rattle.std.proofs.Common.{refl}
use Rattle.wasm_write.proofs.Holding.{held_many, held_rows_normal}
use Rattle.wasm_write.proofs.row_section.RowSection.as_slice.Goals as goal

pub returns-clause-value : goal.returns-clause-value
returns-clause-value g c = rw (← c.self.view_is, held_rows_normal c.self.inside.held, ← c.deref.ensures.value, ← c.behind.ensures) refl

pub returns-clause-spells : goal.returns-clause-spells
returns-clause-spells g c = rw (← c.self.view_is) (held_many c.self.inside.held)
