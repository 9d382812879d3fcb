use Rattle.std.proofs.Common.{refl}
use Rattle.wasm_shapes.proofs.Begins.{at_byte, none_here, none_at_end}
use Rattle.wasm_read.proofs.Items.{item_begins, item_none, no_kind}
use Rattle.wasm_read.proofs.fields.front_item.Goals as goal

pub returns-in_default-clause-none : goal.returns-in_default-clause-none
returns-in_default-clause-none c = none_here c.in_default.ensures.none (none_at_end refl)

pub returns-in_default-kind_of-clause-none : goal.returns-in_default-kind_of-clause-none
returns-in_default-kind_of-clause-none c = no_kind c.in-Some.ensures.some c.in_default-kind_of.ensures.none.0 c.in_default-kind_of.ensures.none.1

pub returns-in-Some-front_u32-clause-some : goal.returns-in-Some-front_u32-clause-some
returns-in-Some-front_u32-clause-some c =
    item_begins c.in-Some-kind_of.kind (at_byte c.in-Some.ensures.some c.in-Some-kind_of.ensures.some) c.in-Some-front_u32.ensures.some

pub returns-in-None-clause-none : goal.returns-in-None-clause-none
returns-in-None-clause-none c =
    item_none c.in-Some-kind_of.kind (at_byte c.in-Some.ensures.some c.in-Some-kind_of.ensures.some) c.in-None.ensures.none
