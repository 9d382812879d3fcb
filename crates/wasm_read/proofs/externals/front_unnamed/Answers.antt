use Rattle.std.proofs.Common.{◌≡◌, List, arith, ap, refl, false}
use Rattle.std.proofs.lemmas.Bool.Decides.{nat_tests}
use Rattle.wasm_shapes.specs.Shape.{choice, entity_rows}
use Rattle.wasm_shapes.specs.Module.{unnamed, compact_rows}
use Rattle.wasm_shapes.specs.Sound.{contains, first_bytes}
use Rattle.wasm_shapes.specs.Types.{import_of}
use Rattle.wasm_shapes.proofs.Begins.{begins_row, begins_seq, begins_byte, at_byte, none_here, none_at_end, none_choice, none_lead, none_by_front, none_seq_first, none_seq_second}
use Rattle.wasm_shapes.proofs.Parts.{begins_among, none_among}
use Rattle.wasm_read.specs.Types.{entity_tree}
use Rattle.wasm_read.proofs.externals.front_unnamed.Goals as goal

pub returns-in_default-clause-none : goal.returns-in_default-clause-none
returns-in_default-clause-none c = none_here c.in_default.ensures.none (none_at_end refl)

pub returns-in-Some-front-clause-some : goal.returns-in-Some-front-clause-some
returns-in-Some-front-clause-some c = record {
  what = _;
  whole = refl;
  begins = begins_row {k = 6} (begins_seq (begins_byte (at_byte c.in-Some.ensures.some c.in-127.is)) c.in-Some-front.ensures.some);
}

pub returns-in-None-clause-none : goal.returns-in-None-clause-none
returns-in-None-clause-none c =
    none_here (at_byte c.in-Some.ensures.some c.in-127.is)
    (none_choice unnamed 127 _ refl (none_lead refl c.in-None.ensures.none, tt))

pub returns-in_default-front_type_ref-clause-none : goal.returns-in_default-front_type_ref-clause-none
returns-in_default-front_type_ref-clause-none c =
    none_here (at_byte c.in-Some.ensures.some c.in-126.is)
    (none_choice unnamed 126 _ refl (none_lead refl (none_seq_first c.in_default-front_type_ref.ensures.none), tt))

pub returns-in-Some-front-2-clause-some : goal.returns-in-Some-front-2-clause-some
returns-in-Some-front-2-clause-some c = record {
  what = _;
  whole = refl;
  begins = begins_row {k = 7} (begins_seq (begins_byte (at_byte c.in-Some.ensures.some c.in-126.is)) (begins_seq c.in-Some-front_type_ref.ensures.some c.in-Some-front-2.ensures.some));
}

pub returns-in-None-front-clause-none : goal.returns-in-None-front-clause-none
returns-in-None-front-clause-none c =
    none_here (at_byte c.in-Some.ensures.some c.in-126.is)
    (none_choice unnamed 126 _ refl (none_lead refl (none_seq_second refl refl c.in-Some-front_type_ref.ensures.some c.in-None-front.ensures.none), tt))

pub returns-in-Some-front_type_ref-2-clause-some : goal.returns-in-Some-front_type_ref-2-clause-some
returns-in-Some-front_type_ref-2-clause-some c = record {
  what = entity_tree c.in-Some-front_type_ref-2.ty;
  whole = refl;
  begins = begins_among entity_rows compact_rows c.in-Some-front_type_ref-2.ensures.some;
}

pub returns-in-None-front_type_ref-clause-none : goal.returns-in-None-front_type_ref-clause-none
returns-in-None-front_type_ref-clause-none c =
    let other : contains (first_bytes (choice compact_rows)) c.in-Some.form ≡ false = grind (arith, nat_tests) in
    none_among entity_rows compact_rows c.in-None-front_type_ref.ensures.none (none_here c.in-Some.ensures.some (none_by_front refl other))
