use Rattle.wasm_shapes.specs.SectionTable.{number}
use Rattle.wasm_shapes.specs.Module.{numbered_frame}
use Rattle.wasm_reach.proofs.Seen.{seen_calls, seen_custom, seen_functions, seen_more, seen_reading, seen_roots, seen_unknown}
use Rattle.wasm_reach.proofs.once.note_all.Goals as goal

pub sections-preserved-in-Ok-note_kind : goal.sections-preserved-in-Ok-note_kind
sections-preserved-in-Ok-note_kind c =
    let section = c.in-Ok-Some-Section in
    let noted = c.in-Ok-note_kind.ensures in
    seen_more (numbered_frame (number section.id) section.body.now) c.sections.invariant (rw (section.field-0-is, section.field-0-0-is) at section.ensures.some) noted.read noted.below noted.roots noted.calls

pub sections-preserved-in-Ok-note_custom : goal.sections-preserved-in-Ok-note_custom
sections-preserved-in-Ok-note_custom c =
    seen_custom c.sections.invariant (rw (c.in-Ok-Some-Custom.field-0-is, c.in-Ok-Some-Custom.field-0-0-is) at c.in-Ok-Some-Custom.ensures.some) c.in-Ok-note_custom.ensures.read
    c.in-Ok-note_custom.ensures.below

pub sections-preserved : goal.sections-preserved
sections-preserved c =
    let section = c.in-Ok-Some-Unknown in
    seen_unknown (rw (section.field-0-is, section.field-0-0-is) at section.ensures.unknown) c.sections.invariant (rw (section.field-0-is, section.field-0-0-is) at section.ensures.some)

pub returns-in-Ok-None-clause-read : goal.returns-in-Ok-None-clause-read
returns-in-Ok-None-clause-read c = seen_reading c.sections.invariant (rw c.in-Ok-None.field-0-is at c.in-Ok-None.ensures.ended).0

pub returns-in-Ok-None-clause-below : goal.returns-in-Ok-None-clause-below
returns-in-Ok-None-clause-below c = seen_functions c.sections.invariant (rw c.in-Ok-None.field-0-is at c.in-Ok-None.ensures.ended).0

pub returns-in-Ok-None-clause-roots : goal.returns-in-Ok-None-clause-roots
returns-in-Ok-None-clause-roots c = seen_roots c.sections.invariant (rw c.in-Ok-None.field-0-is at c.in-Ok-None.ensures.ended).0

pub returns-in-Ok-None-clause-calls : goal.returns-in-Ok-None-clause-calls
returns-in-Ok-None-clause-calls c = seen_calls c.sections.invariant (rw c.in-Ok-None.field-0-is at c.in-Ok-None.ensures.ended).0
