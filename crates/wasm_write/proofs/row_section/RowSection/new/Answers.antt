use Rattle.std.proofs.Common.{arith}
use Rattle.wasm_write.proofs.Holding.{held_none, held_none_is}
use Rattle.wasm_write.proofs.row_section.RowSection.new.Goals as goal

pub invariant_of-result : goal.invariant_of-result
invariant_of-result g c = (omega arith, (held_none g.K.RowKind.shape c.new.ensures.items, tt))

pub returns : goal.returns
returns g c = held_none_is g.K.RowKind.shape g.K.RowKind.rows_sound _ c.new.ensures.items
