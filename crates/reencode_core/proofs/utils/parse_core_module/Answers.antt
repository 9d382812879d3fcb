use Rattle.std.proofs.Common.{refl}
use Rattle.reencode_core.specs.Woven.{AddedAt}
use Rattle.reencode_core.proofs.sections_walked.EachSection.{module_closing_refused, module_ended, module_headless, module_hook_refused, core_closed, core_more, module_section_refused, module_unframed, custom_called, kind_called, sections_begun, unknown_called}
use Rattle.wasm_shapes.proofs.SectionLaws.{frame_id}
use Rattle.reencode_core.proofs.utils.parse_core_module.Goals as goal

pub returns-in_err-payloads : goal.returns-in_err-payloads
returns-in_err-payloads g c = module_headless g.T.ReencodeIndices g.met.T.ReencodeIndices.adds_ok _ c.in_err-payloads.ensures.err _ c.from_residual.ensures.1

pub sections-init : goal.sections-init
sections-init g c = sections_begun g.T.ReencodeIndices _ _ _

pub returns-in_err-id : goal.returns-in_err-id
returns-in_err-id g c =
    let keeps = g.met.T.ReencodeIndices.adds_ok in
    module_unframed g.T.ReencodeIndices keeps c.in_ok-payloads.ensures.ok c.sections.invariant _ c.in_err-id.ensures.err _ c.from_residual-in_err-id.ensures.1

pub returns-in_err-call_hook-in-Some-Section : goal.returns-in_err-call_hook-in-Some-Section
returns-in_err-call_hook-in-Some-Section g c =
    let keeps = g.met.T.ReencodeIndices.adds_ok in
    let frame = rw (c.in-Some-Section.is, c.in-Some-Section.field-0-is) at c.in_ok-id.ensures.some in
    module_hook_refused g.T.ReencodeIndices keeps c.in_ok-payloads.ensures.ok c.sections.invariant c.in-Some-Section.id _ frame
    c.in_err-call_hook-in-Some-Section.ensures _ c.from_residual-in_err-call_hook-in-Some-Section.ensures.1

pub returns-in_err-call_hook-in-Ok : goal.returns-in_err-call_hook-in-Ok
returns-in_err-call_hook-in-Ok g c =
    let keeps = g.met.T.ReencodeIndices.adds_ok in
    let frame = rw (c.in-Some-Section.is, c.in-Some-Section.field-0-is) at c.in_ok-id.ensures.some in
    module_closing_refused g.T.ReencodeIndices keeps c.in_ok-payloads.ensures.ok c.sections.invariant c.in-Some-Section.id _
    (kind_called g.T.ReencodeIndices keeps c.in_ok-payloads.ensures.ok c.sections.invariant c.in-Some-Section.id frame c.in_ok-call_hook-in-Some-Section.ensures c.in-Ok.ensures)
    c.in_ok-call_hook-in-Some-Section.ensures c.in_err-call_hook-in-Ok.ensures _ c.from_residual-in_err-call_hook-in-Ok.ensures.1

pub sections-preserved-in-Ok : goal.sections-preserved-in-Ok
sections-preserved-in-Ok g c =
    let keeps = g.met.T.ReencodeIndices.adds_ok in
    let frame = rw (c.in-Some-Section.is, c.in-Some-Section.field-0-is) at c.in_ok-id.ensures.some in
    core_closed g.T.ReencodeIndices keeps c.in_ok-payloads.ensures.ok c.sections.invariant c.in-Some-Section.id refl c.in_ok-id.ensures.len
    (kind_called g.T.ReencodeIndices keeps c.in_ok-payloads.ensures.ok c.sections.invariant c.in-Some-Section.id frame c.in_ok-call_hook-in-Some-Section.ensures c.in-Ok.ensures) c.in_ok-call_hook-in-Ok.ensures

pub returns-in-Err : goal.returns-in-Err
returns-in-Err g c =
    let keeps = g.met.T.ReencodeIndices.adds_ok in
    let frame = rw (c.in-Some-Section.is, c.in-Some-Section.field-0-is) at c.in_ok-id.ensures.some in
    let at = rw (c.in-Some-Section.is, c.in-Some-Section.field-0-is) at c.in_ok-id.ensures.at in
    module_section_refused g.T.ReencodeIndices keeps c.in_ok-payloads.ensures.ok c.sections.invariant c.in-Err.e c.in-Some-Section.at
    (kind_called g.T.ReencodeIndices keeps c.in_ok-payloads.ensures.ok c.sections.invariant c.in-Some-Section.id frame c.in_ok-call_hook-in-Some-Section.ensures c.in-Err.ensures) at _ c.placed.ensures

pub sections-preserved-in-Ok-parse_custom_section : goal.sections-preserved-in-Ok-parse_custom_section
sections-preserved-in-Ok-parse_custom_section g c =
    let keeps = g.met.T.ReencodeIndices.adds_ok in
    let frame = rw (c.in-Some-Custom.is, c.in-Some-Custom.field-0-is) at c.in_ok-id.ensures.some in
    core_more g.T.ReencodeIndices keeps c.in_ok-payloads.ensures.ok c.sections.invariant refl c.in_ok-id.ensures.len
    (custom_called g.T.ReencodeIndices keeps c.in_ok-payloads.ensures.ok c.sections.invariant frame c.in-Ok-parse_custom_section.ensures) (AddedAt.custom _ _)

pub returns-in-Err-parse_custom_section : goal.returns-in-Err-parse_custom_section
returns-in-Err-parse_custom_section g c =
    let keeps = g.met.T.ReencodeIndices.adds_ok in
    let frame = rw (c.in-Some-Custom.is, c.in-Some-Custom.field-0-is) at c.in_ok-id.ensures.some in
    let at = rw (c.in-Some-Custom.is, c.in-Some-Custom.field-0-is) at c.in_ok-id.ensures.at in
    module_section_refused g.T.ReencodeIndices keeps c.in_ok-payloads.ensures.ok c.sections.invariant c.in-Err-parse_custom_section.e c.in-Some-Custom.at
    (custom_called g.T.ReencodeIndices keeps c.in_ok-payloads.ensures.ok c.sections.invariant frame c.in-Err-parse_custom_section.ensures) at _ c.placed-in-Err-parse_custom_section.ensures

pub sections-preserved : goal.sections-preserved
sections-preserved g c =
    let keeps = g.met.T.ReencodeIndices.adds_ok in
    let frame = rw (c.in-Some-Unknown.is, c.in-Some-Unknown.field-0-is) at c.in_ok-id.ensures.some in
    let low = rw (c.in-Some-Unknown.is, c.in-Some-Unknown.field-0-is) at c.in_ok-id.ensures.unknown in
    core_more g.T.ReencodeIndices keeps c.in_ok-payloads.ensures.ok c.sections.invariant refl c.in_ok-id.ensures.len
    (unknown_called g.T.ReencodeIndices keeps c.in_ok-payloads.ensures.ok c.sections.invariant low frame c.in-Ok-parse_unknown_section.ensures) (AddedAt.unknown _ _ low)

pub returns-in-Err-parse_unknown_section : goal.returns-in-Err-parse_unknown_section
returns-in-Err-parse_unknown_section g c =
    let keeps = g.met.T.ReencodeIndices.adds_ok in
    let frame = rw (c.in-Some-Unknown.is, c.in-Some-Unknown.field-0-is) at c.in_ok-id.ensures.some in
    let at = rw (c.in-Some-Unknown.is, c.in-Some-Unknown.field-0-is) at c.in_ok-id.ensures.at in
    let low = rw (c.in-Some-Unknown.is, c.in-Some-Unknown.field-0-is) at c.in_ok-id.ensures.unknown in
    module_section_refused g.T.ReencodeIndices keeps c.in_ok-payloads.ensures.ok c.sections.invariant c.in-Err-parse_unknown_section.e c.in-Some-Unknown.at
    (unknown_called g.T.ReencodeIndices keeps c.in_ok-payloads.ensures.ok c.sections.invariant low frame c.in-Err-parse_unknown_section.ensures) at _ c.placed-in-Err-parse_unknown_section.ensures

pub parse_unknown_section-requires : goal.parse_unknown_section-requires
parse_unknown_section-requires g c = (frame_id (rw (c.in-Some-Unknown.is, c.in-Some-Unknown.field-0-is) at c.in_ok-id.ensures.some)).1

pub returns-in-None : goal.returns-in-None
returns-in-None g c =
    let keeps = g.met.T.ReencodeIndices.adds_ok in
    let ended = rw c.in-None.is at c.in_ok-id.ensures.ended in
    module_ended g.T.ReencodeIndices keeps c.in_ok-payloads.ensures.ok c.sections.invariant ended.0 _ c.call_hook-in-None.ensures
