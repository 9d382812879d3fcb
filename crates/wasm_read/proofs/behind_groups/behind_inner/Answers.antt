use Rattle.std.proofs.Common.{◌≡◌, arith, refl, false}
use Rattle.std.proofs.lemmas.Bool.Decides.{nat_tests}
use Rattle.wasm_shapes.specs.Shape.{choice, inner_rows}
use Rattle.wasm_shapes.specs.Sound.{contains, first_bytes}
use Rattle.wasm_shapes.specs.Tree.{Tree}
use Rattle.wasm_shapes.proofs.Begins.{begins_row, begins_seq, begins_byte, begins_sx, at_byte, none_here, none_at_end, none_choice, none_lead, none_sx, none_by_front}
use Rattle.wasm_read.proofs.BehindTypes.{behind_more, behind_none}
use Rattle.wasm_read.proofs.behind_groups.behind_inner.Goals as goal

pub returns-in_default-clause-none : goal.returns-in_default-clause-none
returns-in_default-clause-none c = none_here c.in_default.ensures.none (none_at_end refl)

pub returns-in-96-clause-some : goal.returns-in-96-clause-some
returns-in-96-clause-some c =
    behind_more c.behind_func_type.result (λ t l p. (Tree.row 0 (Tree.pair (Tree.fixed 0x60) t), begins_row {k = 0} (begins_seq (begins_byte (at_byte c.in-Some.ensures.some c.in-96.is)) p)))
    c.behind_func_type.ensures.some

pub returns-in-96-clause-none : goal.returns-in-96-clause-none
returns-in-96-clause-none c =
    behind_none c.behind_func_type.result (λ none. none_here (at_byte c.in-Some.ensures.some c.in-96.is) (none_choice (choice inner_rows) 0x60 _ refl (none_lead refl none, tt)))
    c.behind_func_type.ensures.none

pub returns-in-Some-front_field_type-clause-some : goal.returns-in-Some-front_field_type-clause-some
returns-in-Some-front_field_type-clause-some c =
    (_, begins_row {k = 1} (begins_seq (begins_byte (at_byte c.in-Some.ensures.some c.in-94.is)) c.in-Some-front_field_type.ensures.some))

pub returns-in-None-clause-none : goal.returns-in-None-clause-none
returns-in-None-clause-none c =
    none_here (at_byte c.in-Some.ensures.some c.in-94.is) (none_choice (choice inner_rows) 0x5e _ refl (none_lead refl c.in-None.ensures.none, tt))

pub returns-in-95-clause-some : goal.returns-in-95-clause-some
returns-in-95-clause-some c =
    behind_more c.behind_vec.result (λ t l p. (Tree.row 2 (Tree.pair (Tree.fixed 0x5f) t), begins_row {k = 2} (begins_seq (begins_byte (at_byte c.in-Some.ensures.some c.in-95.is)) p)))
    c.behind_vec.ensures.some

pub returns-in-95-clause-none : goal.returns-in-95-clause-none
returns-in-95-clause-none c =
    behind_none c.behind_vec.result (λ none. none_here (at_byte c.in-Some.ensures.some c.in-95.is) (none_choice (choice inner_rows) 0x5f _ refl (none_lead refl none, tt)))
    c.behind_vec.ensures.none

pub returns-in-Some-front_index-clause-some : goal.returns-in-Some-front_index-clause-some
returns-in-Some-front_index-clause-some c =
    (_, begins_row {k = 3} (begins_seq (begins_byte (at_byte c.in-Some.ensures.some c.in-93.is)) (begins_sx c.in-Some-front_index.ensures.some)))

pub returns-in-None-front_index-clause-none : goal.returns-in-None-front_index-clause-none
returns-in-None-front_index-clause-none c =
    none_here (at_byte c.in-Some.ensures.some c.in-93.is)
    (none_choice (choice inner_rows) 0x5d _ refl (none_lead refl (none_sx c.in-None-front_index.ensures.none), tt))

pub returns-in_default-first-clause-none : goal.returns-in_default-first-clause-none
returns-in_default-first-clause-none c =
    let other : contains (first_bytes (choice inner_rows)) c.in-Some.first ≡ false = grind (arith, nat_tests) in
    none_here c.in-Some.ensures.some (none_by_front refl other)
