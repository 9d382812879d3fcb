use Rattle.std.proofs.Common.{◌+◌, refl}
use Rattle.reencode_component.specs.NestedClauses.{inner_component}
use Rattle.reencode_component.proofs.sections_walked.EachComponent.{component_begun, component_headless, kept_ended, kept_more, kept_refused, kept_unframed}
use Rattle.reencode_component.proofs.nested_binaries.NestedComponent.{component_accepted, component_nested, component_no_rows, component_refused}
use Rattle.reencode_component.proofs.nested_binaries.NestedReadings.{component_too_deep}
use Rattle.reencode_component.proofs.nested_binaries.NestedSections.{nested_added, nested_deep, nested_large, nested_refused, nested_unmade, nested_unopened}
use Rattle.reencode_component.proofs.component_walk.+components.Goals as goal

pub parse_component-returns-in_err-payloads : goal.parse_component-returns-in_err-payloads
parse_component-returns-in_err-payloads g t c = component_headless g.T.ReencodeIndices c.args.depth _ c.in_err-payloads.ensures.err _ c.from_residual.ensures.1

pub parse_component-sections-init : goal.parse_component-sections-init
parse_component-sections-init g t c = component_begun g.T.ReencodeIndices c.args.depth _ _ c.in_ok-payloads.ensures.ok c.requires _ _

pub parse_component-returns-in_err-payload : goal.parse_component-returns-in_err-payload
parse_component-returns-in_err-payload g t c =
    kept_unframed g.T.ReencodeIndices c.args.depth c.in_ok-payloads.ensures.ok c.sections.invariant _ c.in_err-payload.ensures.err _ c.from_residual-in_err-payload.ensures.1

pub parse_component-sections-preserved : goal.parse_component-sections-preserved
parse_component-sections-preserved g t c =
    let there = rw c.in-Some.is at c.in_ok-payload.ensures.some in
    let given = rw c.in-Some.is at c.in_ok-payload.ensures.given in
    kept_more g.T.ReencodeIndices c.args.depth c.in_ok-payloads.ensures.ok c.sections.invariant c.requires c.in-Some.payload given there refl c.in_ok-payload.ensures.len c.in-Ok.ensures

pub parse_component-returns-in-Err : goal.parse_component-returns-in-Err
parse_component-returns-in-Err g t c =
    let there = rw c.in-Some.is at c.in_ok-payload.ensures.some in
    let given = rw c.in-Some.is at c.in_ok-payload.ensures.given in
    let at = rw c.in-Some.is at c.in_ok-payload.ensures.at in
    kept_refused g.T.ReencodeIndices c.args.depth c.in_ok-payloads.ensures.ok c.sections.invariant c.requires c.in-Some.payload given there c.in-Err.e at c.in-Err.ensures

pub parse_component-returns-in-None : goal.parse_component-returns-in-None
parse_component-returns-in-None g t c =
    let ended = rw c.in-None.is at c.in_ok-payload.ensures.ended in
    kept_ended g.T.ReencodeIndices c.args.depth c.in_ok-payloads.ensures.ok c.sections.invariant ended.0

pub parse_component_payload-returns-in-Section : goal.parse_component_payload-returns-in-Section
parse_component_payload-returns-in-Section g t c = rw c.in-Section.is c.section.ensures

pub parse_component_payload-returns-in-Unknown : goal.parse_component_payload-returns-in-Unknown
parse_component_payload-returns-in-Unknown g t c = rw c.in-Unknown.is c.section-in-Unknown.ensures

pub parse_component_payload-returns-in-Custom : goal.parse_component_payload-returns-in-Custom
parse_component_payload-returns-in-Custom g t c = rw c.in-Custom.is (record { mapped = _; call = c.parse_component_custom_section-mapped.ensures; placed = c.placed-in-Custom.ensures })

pub parse_component_payload-returns-in-Module : goal.parse_component_payload-returns-in-Module
parse_component_payload-returns-in-Module g t c = rw c.in-Module.is (record { mapped = _; call = c.parse_component_submodule-mapped.ensures; placed = c.placed.ensures })

pub parse_component_payload-returns-in-Component : goal.parse_component_payload-returns-in-Component
parse_component_payload-returns-in-Component g t c = rw c.in-Component.is (record { mapped = _; call = c.parse_component_subcomponent-mapped.ensures; placed = c.placed-in-Component.ensures })

pub section-returns-then-id-eq1 : goal.section-returns-then-id-eq1
section-returns-then-id-eq1 g t c = rw (c.if-id-eq1.true, c.placed.ensures) (c.parse_component_submodule-mapped.ensures.framed c.args.at)

pub section-returns-then-id-eq4 : goal.section-returns-then-id-eq4
section-returns-then-id-eq4 g t c = rw (c.if-id-eq4.true, c.placed-then-id-eq4.ensures) (c.parse_component_subcomponent-mapped.ensures.framed c.args.at)

pub parse_component_subcomponent-returns-then-depth-ge-DEPTH : goal.parse_component_subcomponent-returns-then-depth-ge-DEPTH
parse_component_subcomponent-returns-then-depth-ge-DEPTH g t c =
    let body = c.args.bytes.now in
    nested_deep g.T.ReencodeIndices c.args.depth 4 (inner_component g.T.ReencodeIndices (c.args.depth + 1) body) c.if-depth-ge-DEPTH.true
    (component_too_deep c.args.depth body c.if-depth-ge-DEPTH.true) component_no_rows _ _

pub parse_component_subcomponent-returns-in_err-nested : goal.parse_component_subcomponent-returns-in_err-nested
parse_component_subcomponent-returns-in_err-nested g t c =
    let body = c.args.bytes.now in
    nested_unmade g.T.ReencodeIndices c.args.depth 4 (inner_component g.T.ReencodeIndices (c.args.depth + 1) body) c.if-depth-ge-DEPTH.false _ _ _
    c.from_residual.ensures.1

pub parse_component_subcomponent-returns-in_err-push_depth : goal.parse_component_subcomponent-returns-in_err-push_depth
parse_component_subcomponent-returns-in_err-push_depth g t c =
    let body = c.args.bytes.now in
    nested_unopened g.T.ReencodeIndices c.args.depth 4 (inner_component g.T.ReencodeIndices (c.args.depth + 1) body) c.if-depth-ge-DEPTH.false _ _ _ _
    c.in_err-push_depth.ensures.answer c.in_err-push_depth.ensures.sure _ c.from_residual-in_err-push_depth.ensures.1

pub parse_component_subcomponent-returns-in_err-parse_component : goal.parse_component_subcomponent-returns-in_err-parse_component
parse_component_subcomponent-returns-in_err-parse_component g t c =
    let body = c.args.bytes.now in
    let pushed = c.in_ok-push_depth.ensures.answer in
    let low = c.if-depth-ge-DEPTH.false in
    nested_refused g.T.ReencodeIndices c.args.depth 4 (inner_component g.T.ReencodeIndices (c.args.depth + 1) body) low (component_nested c.args.depth body) _ _ _ pushed _
    (component_refused g.T.ReencodeIndices c.args.depth body low _ _ _ _ _ _ c.in_ok-nested.ensures pushed _ c.in_err-parse_component.ensures) _ c.from_residual-in_err-parse_component.ensures.1

pub parse_component_subcomponent-returns-in_err-take_component : goal.parse_component_subcomponent-returns-in_err-take_component
parse_component_subcomponent-returns-in_err-take_component g t c =
    let body = c.args.bytes.now in
    let pushed = c.in_ok-push_depth.ensures.answer in
    let low = c.if-depth-ge-DEPTH.false in
    nested_large g.T.ReencodeIndices c.args.depth 4 (inner_component g.T.ReencodeIndices (c.args.depth + 1) body) low (component_nested c.args.depth body) _ _ _ pushed _
    (component_accepted g.T.ReencodeIndices c.args.depth body low _ _ _ _ _ _ c.in_ok-nested.ensures pushed c.in_ok-parse_component.ensures) c.pop_depth.ensures.answer c.in_err-take_component.ensures.err _ c.in_err-take_component.ensures.large _
    c.from_residual-in_err-take_component.ensures.1

pub parse_component_subcomponent-returns : goal.parse_component_subcomponent-returns
parse_component_subcomponent-returns g t c =
    let body = c.args.bytes.now in
    let pushed = c.in_ok-push_depth.ensures.answer in
    let low = c.if-depth-ge-DEPTH.false in
    nested_added g.T.ReencodeIndices c.args.depth 4 (inner_component g.T.ReencodeIndices (c.args.depth + 1) body) low (component_nested c.args.depth body) _ _ _ pushed _
    (component_accepted g.T.ReencodeIndices c.args.depth body low _ _ _ _ _ _ c.in_ok-nested.ensures pushed c.in_ok-parse_component.ensures) c.pop_depth.ensures.answer c.in_ok-take_component.ensures.ok c.in_ok-take_component.ensures.fits
