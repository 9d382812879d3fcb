use Rattle.std.proofs.Common.{arith, refl, inr}
use Rattle.std.specs.Option.{is_some}
use Rattle.wasm_shapes.specs.Shape.{table_limits}
use Rattle.wasm_shapes.specs.Sound.{first_bytes}
use Rattle.wasm_shapes.proofs.Fronts.{outside}
use Rattle.wasm_shapes.proofs.Begins.{begins_seq, none_here, none_at_end, none_by_front, none_seq_second}
use Rattle.wasm_read.proofs.Limits.{table_begins, table_none}
use Rattle.wasm_read.proofs.externals.front_table_type.Goals as goal

pub returns-in_default-front_byte-clause-none : goal.returns-in_default-front_byte-clause-none
returns-in_default-front_byte-clause-none c =
    none_seq_second refl refl c.in-Some.ensures.some (none_here c.in_default-front_byte.ensures.none (none_at_end refl))

pub returns-then-flags-ge8-clause-none : goal.returns-then-flags-ge8-clause-none
returns-then-flags-ge8-clause-none c =
    none_seq_second refl refl c.in-Some.ensures.some
    (none_here c.in-Some-front_byte.ensures.some (none_by_front refl (outside 0 7 c.in-Some-front_byte.flags (first_bytes table_limits) refl (inr (omega arith)))))

pub returns-in-Some-front_limits-clause-some : goal.returns-in-Some-front_limits-clause-some
returns-in-Some-front_limits-clause-some c =
    let limits = c.in-Some-front_limits.limits in
    begins_seq c.in-Some.ensures.some
    (table_begins (is_some limits.maximum) limits.shared limits.wide limits.page c.in-Some-front_limits.ensures.flags (omega arith)
    c.in-Some-front_byte.ensures.some c.in-Some-front_limits.ensures.some)

pub returns-in-None-clause-none : goal.returns-in-None-clause-none
returns-in-None-clause-none c =
    let n = c.in-None.ensures.none in
    none_seq_second refl refl c.in-Some.ensures.some
    (table_none n.0 n.1 n.2 n.3 n.4 (omega arith) c.in-Some-front_byte.ensures.some n.5)
