use Rattle.std.proofs.Common.{inl, inr, refl}
use Rattle.wasm_shapes.proofs.Begins.{none_at_end, none_here}
use Rattle.wasm_read.proofs.Subsections.{frame_begins, frame_none}
use Rattle.wasm_read_component.proofs.ComponentSubsections.{none_begins}
use Rattle.wasm_strip.proofs.ComponentNameRows.{subsection_begins, unreadable}
use Rattle.wasm_strip.proofs.component_names.behind_subsection.Goals as goal

pub returns-in_default-clause-none : goal.returns-in_default-clause-none
returns-in_default-clause-none c = none_begins (inl (none_here c.in_default.ensures.none (none_at_end refl)))

pub returns-in_default-front_sized-clause-none : goal.returns-in_default-front_sized-clause-none
returns-in_default-front_sized-clause-none c = none_begins (inl (frame_none c.in-Some.ensures.is_byte c.in-Some.ensures.some c.in_default-front_sized.ensures.none))

pub returns-then-is_readable-clause-some : goal.returns-then-is_readable-clause-some
returns-then-is_readable-clause-some c =
    subsection_begins _ (frame_begins c.in-Some.ensures.is_byte c.in-Some.ensures.some c.in-Some-front_sized.ensures.some) c.in-Some-of_body.ensures.some (c.if-is_readable.ensures.0 refl)

pub returns-else-is_readable-clause-none : goal.returns-else-is_readable-clause-none
returns-else-is_readable-clause-none c =
    unreadable _ (frame_begins c.in-Some.ensures.is_byte c.in-Some.ensures.some c.in-Some-front_sized.ensures.some) c.in-Some-of_body.ensures.some (λ reads. let never = c.if-is_readable.ensures.1 reads in cc)

pub returns-in-None-clause-none : goal.returns-in-None-clause-none
returns-in-None-clause-none c =
    let none = c.in-None.ensures.none in
    let frame = frame_begins c.in-Some.ensures.is_byte c.in-Some.ensures.some c.in-Some-front_sized.ensures.some in
    none_begins (inr (c.in-Some-front_sized.body.now, c.in-Some-front_sized.rest.now, rw (← none.0) frame, none.1))
