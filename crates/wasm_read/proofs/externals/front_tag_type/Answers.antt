use Rattle.std.proofs.Common.{refl}
use Rattle.wasm_shapes.proofs.Begins.{begins_seq, begins_byte, begins_ix, at_byte, none_here, none_lead, none_ix}
use Rattle.wasm_read.proofs.externals.front_tag_type.Goals as goal

pub returns-in-Some-front_u32-clause-some : goal.returns-in-Some-front_u32-clause-some
returns-in-Some-front_u32-clause-some c =
    begins_seq (begins_byte (at_byte c.in-Some.ensures.some c.if-first-ne0.false)) (begins_ix c.in-Some-front_u32.ensures.some)

pub returns-in-None-clause-none : goal.returns-in-None-clause-none
returns-in-None-clause-none c =
    none_here (at_byte c.in-Some.ensures.some c.if-first-ne0.false) (none_lead refl (none_ix c.in-None.ensures.none))
