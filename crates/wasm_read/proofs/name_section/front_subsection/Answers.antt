use Rattle.std.proofs.Common.{inl, inr, refl}
use Rattle.wasm_shapes.proofs.Begins.{none_here, none_at_end}
use Rattle.wasm_read.proofs.Subsections.{frame_begins, frame_none}
use Rattle.wasm_read.proofs.name_section.front_subsection.Goals as goal

pub returns-in_default-clause-none : goal.returns-in_default-clause-none
returns-in_default-clause-none g c = inl (none_here c.in_default.ensures.none (none_at_end refl))

pub returns-in_default-front_sized-clause-none : goal.returns-in_default-front_sized-clause-none
returns-in_default-front_sized-clause-none g c = inl (frame_none c.in-Some.ensures.is_byte c.in-Some.ensures.some c.in_default-front_sized.ensures.none)

pub returns-in-Some-of_body-clause-some : goal.returns-in-Some-of_body-clause-some
returns-in-Some-of_body-clause-some g c = record {
  id = c.in-Some.id;
  body = c.in-Some-front_sized.body.now;
  begins = frame_begins c.in-Some.ensures.is_byte c.in-Some.ensures.some c.in-Some-front_sized.ensures.some;
  holds = c.in-Some-of_body.ensures.some;
}

pub returns-in-None-clause-none : goal.returns-in-None-clause-none
returns-in-None-clause-none g c =
    let none = c.in-None.ensures.none in
    let frame = frame_begins c.in-Some.ensures.is_byte c.in-Some.ensures.some c.in-Some-front_sized.ensures.some in
    inr (c.in-Some-front_sized.body.now, c.in-Some-front_sized.rest.now, rw (← none.0) frame, none.1)
