use Rattle.std.proofs.Common.{refl, sym}
use Rattle.wasm_shapes.proofs.Begins.{none_at_end, none_here}
use Rattle.wasm_shapes.proofs.CanonicalRows.{none_canonical, none_of_byte}
use Rattle.wasm_read_component.proofs.ComponentCanonical.{canonical_begins}
use Rattle.wasm_read_component.proofs.canonical.front_canonical.Goals as goal

pub returns-in_default-clause-none : goal.returns-in_default-clause-none
returns-in_default-clause-none c = none_here c.in_default.ensures.none (none_at_end refl)

pub returns-in_default-canonical_form-clause-none : goal.returns-in_default-canonical_form-clause-none
returns-in_default-canonical_form-clause-none c = none_here c.in-Some.ensures.some (none_of_byte _ (sym c.in_default-canonical_form.ensures))

pub returns-in-Some-of_parts-clause-some : goal.returns-in-Some-of_parts-clause-some
returns-in-Some-of_parts-clause-some c =
    rw c.in-Some-of_parts.ensures.some (canonical_begins _ (sym c.in-Some-canonical_form.ensures) c.in-Some.ensures.some (rw c.in-Ok-Some.field-0-is at c.in-Ok-Some.ensures.some))

pub returns-in-Ok-None-clause-none : goal.returns-in-Ok-None-clause-none
returns-in-Ok-None-clause-none c = none_here c.in-Some.ensures.some (none_canonical _ (sym c.in-Some-canonical_form.ensures) (rw c.in-Ok-None.field-0-is at c.in-Ok-None.ensures.none))
