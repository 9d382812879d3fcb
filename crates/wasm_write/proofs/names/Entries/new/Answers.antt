use Rattle.std.proofs.Common.{arith}
use Rattle.wasm_shapes.specs.Shape.{Shape}
use Rattle.wasm_write.proofs.Holding.{held_none, held_none_is}
use Rattle.wasm_write.proofs.names.Entries.new.Goals as goal

pub invariant_of-result : goal.invariant_of-result
invariant_of-result g c = (omega arith, (held_none (Shape.seq Shape.u32 g.K.MapKind.named) c.new.ensures.items, tt))

pub returns : goal.returns
returns g c = held_none_is (Shape.seq Shape.u32 g.K.MapKind.named) g.K.MapKind.rows_sound _ c.new.ensures.items
