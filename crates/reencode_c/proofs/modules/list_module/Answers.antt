use Rattle.wasm_shapes.specs.SectionTable.{number}
use Rattle.wasm_shapes.specs.Module.{custom_frame, numbered_frame}
use Rattle.reencode_c.proofs.ModulesPlaced.{sections_ended, sections_more, sections_unknown}
use Rattle.reencode_c.proofs.modules.list_module.Goals as goal

pub sections-preserved-in-Ok-list_section : goal.sections-preserved-in-Ok-list_section
sections-preserved-in-Ok-list_section c =
    let section = c.in-Ok-Some-Section in
    sections_more (numbered_frame (number section.id) section.body.now) c.sections.invariant (rw (section.field-0-is, section.field-0-0-is) at section.ensures.some) c.in-Ok-list_section.ensures

pub sections-preserved-in-Ok-list_custom : goal.sections-preserved-in-Ok-list_custom
sections-preserved-in-Ok-list_custom c =
    let custom = c.in-Ok-Some-Custom in
    sections_more (custom_frame custom.section.name.now custom.section.contents.now) c.sections.invariant (rw (custom.field-0-is, custom.field-0-0-is) at custom.ensures.some) c.in-Ok-list_custom.ensures

pub sections-preserved : goal.sections-preserved
sections-preserved c =
    let section = c.in-Ok-Some-Unknown in
    sections_unknown (rw (section.field-0-is, section.field-0-0-is) at section.ensures.unknown) c.sections.invariant (rw (section.field-0-is, section.field-0-0-is) at section.ensures.some)

pub returns-in-Ok-None : goal.returns-in-Ok-None
returns-in-Ok-None c = sections_ended c.sections.invariant (rw c.in-Ok-None.field-0-is at c.in-Ok-None.ensures.ended).0
