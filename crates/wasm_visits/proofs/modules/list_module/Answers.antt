use Rattle.std.proofs.Common.{refl}
use Rattle.wasm_shapes.specs.Module.{custom_frame, numbered_frame}
use Rattle.wasm_shapes.specs.SectionTable.{number}
use Rattle.wasm_visits.proofs.ModulesListed.{of_unknown, sections_begin, sections_ended, sections_more}
use Rattle.wasm_visits.proofs.modules.list_module.Goals as goal

pub sections-init : goal.sections-init
sections-init c = sections_begin c.args.lister.now.visits c.in-Ok.ensures.ok

pub sections-preserved-in-Ok-list_section : goal.sections-preserved-in-Ok-list_section
sections-preserved-in-Ok-list_section c =
    let section = c.in-Ok-Some-Section in
    sections_more (numbered_frame (number section.id) section.body.now) c.place.result c.sections.invariant section.ensures.len (rw (section.field-0-is, section.field-0-0-is) at section.ensures.some) c.place.ensures
    c.in-Ok-list_section.ensures

pub sections-preserved-in-Ok-list_custom : goal.sections-preserved-in-Ok-list_custom
sections-preserved-in-Ok-list_custom c =
    let custom = c.in-Ok-Some-Custom in
    sections_more (custom_frame custom.section.name.now custom.section.contents.now) c.place-in-Ok-Some-Custom.result c.sections.invariant custom.ensures.len
    (rw (custom.field-0-is, custom.field-0-0-is) at custom.ensures.some) c.place-in-Ok-Some-Custom.ensures c.in-Ok-list_custom.ensures

pub sections-preserved : goal.sections-preserved
sections-preserved c =
    let section = c.in-Ok-Some-Unknown in
    let there = rw (section.field-0-is, section.field-0-0-is) at section.ensures.some in
    sections_more (numbered_frame section.field-0-0-1 section.field-0-0-2.now) _ c.sections.invariant section.ensures.len there refl
    (of_unknown _ c.sections.lister.visits (rw (section.field-0-is, section.field-0-0-is) at section.ensures.unknown) there)

pub returns-in-Ok-None : goal.returns-in-Ok-None
returns-in-Ok-None c = sections_ended c.sections.invariant (rw c.in-Ok-None.field-0-is at c.in-Ok-None.ensures.ended).0
