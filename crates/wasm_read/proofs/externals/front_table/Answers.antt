use Rattle.std.proofs.Common.{◌≡◌, ℕ, List, ◌∷◌, refl}
use Rattle.wasm_shapes.specs.Module.{table_row}
use Rattle.wasm_shapes.specs.Place.{BeginsNone}
use Rattle.wasm_shapes.specs.Shape.{Shape, Named, lead, table_type}
use Rattle.wasm_shapes.proofs.Begins.{begins_row, begins_seq, begins_byte, at_byte, none_here, none_at_end, none_byte, none_choice, none_lead, none_or, none_row, none_seq_first, none_seq_second}
use Rattle.wasm_read.proofs.externals.front_table.Goals as goal

-- the first of the two bytes stands there, and no expression's table behind it
none_behind : {bytes rest : List ℕ} {c : ℕ} → bytes ≡ c ∷ rest → c ≡ 0x40 →
    BeginsNone (lead 0x00 (Shape.seq table_type (Shape.ref Named.expression))) rest → BeginsNone table_row bytes
none_behind here same none = none_here (at_byte here same) (none_choice table_row 0x40 _ refl (none_lead refl none, tt))

pub returns-in_default-clause-none : goal.returns-in_default-clause-none
returns-in_default-clause-none c = none_here c.in_default.ensures.none (none_at_end refl)

pub returns-in-Some-front_table_type-clause-some : goal.returns-in-Some-front_table_type-clause-some
returns-in-Some-front_table_type-clause-some c = begins_row {k = 0} c.in-Some-front_table_type.ensures.some

pub returns-in-None-clause-none : goal.returns-in-None-clause-none
returns-in-None-clause-none c =
    none_or c.in-None.ensures.none (none_or (none_here c.in-Some.ensures.some (none_seq_first (none_byte c.if-first-ne64.true))) none_row)

pub returns-in_default-front_byte-clause-none : goal.returns-in_default-front_byte-clause-none
returns-in_default-front_byte-clause-none c =
    none_behind c.in-Some.ensures.some c.if-first-ne64.false (none_here c.in_default-front_byte.ensures.none (none_at_end refl))

pub returns-then-second-ne0-clause-none : goal.returns-then-second-ne0-clause-none
returns-then-second-ne0-clause-none c =
    none_behind c.in-Some.ensures.some c.if-first-ne64.false
    (none_here c.in-Some-front_byte.ensures.some (none_seq_first (none_byte c.if-second-ne0.true)))

pub returns-in_default-front_table_type-clause-none : goal.returns-in_default-front_table_type-clause-none
returns-in_default-front_table_type-clause-none c =
    none_behind c.in-Some.ensures.some c.if-first-ne64.false
    (none_here (at_byte c.in-Some-front_byte.ensures.some c.if-second-ne0.false)
    (none_lead refl (none_seq_first c.in_default-front_table_type.ensures.none)))

pub returns-in-Some-front_expr-clause-some : goal.returns-in-Some-front_expr-clause-some
returns-in-Some-front_expr-clause-some c =
    begins_row {k = 1}
    (begins_seq (begins_byte (at_byte c.in-Some.ensures.some c.if-first-ne64.false))
    (begins_seq (begins_byte (at_byte c.in-Some-front_byte.ensures.some c.if-second-ne0.false))
    (begins_seq c.in-Some-front_table_type-2.ensures.some c.in-Some-front_expr.ensures.some)))

pub returns-in-None-front_expr-clause-none : goal.returns-in-None-front_expr-clause-none
returns-in-None-front_expr-clause-none c =
    none_behind c.in-Some.ensures.some c.if-first-ne64.false
    (none_here (at_byte c.in-Some-front_byte.ensures.some c.if-second-ne0.false)
    (none_lead refl (none_seq_second refl refl c.in-Some-front_table_type-2.ensures.some c.in-None-front_expr.ensures.none)))
