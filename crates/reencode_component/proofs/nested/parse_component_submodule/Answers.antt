use Rattle.reencode_component.specs.NestedClauses.{inner_module}
use Rattle.reencode_component.proofs.nested_binaries.NestedModule.{module_accepted, module_nested, module_no_rows, module_refused}
use Rattle.reencode_component.proofs.nested_binaries.NestedReadings.{module_too_deep}
use Rattle.reencode_component.proofs.nested_binaries.NestedSections.{nested_added, nested_deep, nested_large, nested_refused, nested_unmade, nested_unopened}
use Rattle.reencode_component.proofs.nested.parse_component_submodule.Goals as goal

pub returns-then-depth-ge-DEPTH : goal.returns-then-depth-ge-DEPTH
returns-then-depth-ge-DEPTH g c =
    let body = c.args.bytes.now in
    nested_deep g.T.ReencodeIndices c.args.depth 1 (inner_module g.T.ReencodeIndices body) c.if-depth-ge-DEPTH.true
    (module_too_deep c.args.depth body c.if-depth-ge-DEPTH.true) module_no_rows _ _

pub returns-in_err-module : goal.returns-in_err-module
returns-in_err-module g c =
    let body = c.args.bytes.now in
    nested_unmade g.T.ReencodeIndices c.args.depth 1 (inner_module g.T.ReencodeIndices body) c.if-depth-ge-DEPTH.false _ _ _
    c.from_residual.ensures.1

pub returns-in_err-push_depth : goal.returns-in_err-push_depth
returns-in_err-push_depth g c =
    let body = c.args.bytes.now in
    nested_unopened g.T.ReencodeIndices c.args.depth 1 (inner_module g.T.ReencodeIndices body) c.if-depth-ge-DEPTH.false _ _ _ _
    c.in_err-push_depth.ensures.answer c.in_err-push_depth.ensures.sure _ c.from_residual-in_err-push_depth.ensures.1

pub returns-in_err-parse_core_module : goal.returns-in_err-parse_core_module
returns-in_err-parse_core_module g c =
    let body = c.args.bytes.now in
    let pushed = c.in_ok-push_depth.ensures.answer in
    let low = c.if-depth-ge-DEPTH.false in
    nested_refused g.T.ReencodeIndices c.args.depth 1 (inner_module g.T.ReencodeIndices body) low (module_nested c.args.depth body low) _ _ _ pushed _
    (module_refused g.T.ReencodeIndices c.args.depth body low _ _ _ _ _ _ c.in_ok-module.ensures pushed _ c.in_err-parse_core_module.ensures) _ c.from_residual-in_err-parse_core_module.ensures.1

pub returns-in_err-take_module : goal.returns-in_err-take_module
returns-in_err-take_module g c =
    let body = c.args.bytes.now in
    let pushed = c.in_ok-push_depth.ensures.answer in
    let low = c.if-depth-ge-DEPTH.false in
    nested_large g.T.ReencodeIndices c.args.depth 1 (inner_module g.T.ReencodeIndices body) low (module_nested c.args.depth body low) _ _ _ pushed _
    (module_accepted g.T.ReencodeIndices c.args.depth body low _ _ _ _ _ _ c.in_ok-module.ensures pushed c.in_ok-parse_core_module.ensures) c.pop_depth.ensures.answer c.in_err-take_module.ensures.err _ c.in_err-take_module.ensures.large _
    c.from_residual-in_err-take_module.ensures.1

pub returns : goal.returns
returns g c =
    let body = c.args.bytes.now in
    let pushed = c.in_ok-push_depth.ensures.answer in
    let low = c.if-depth-ge-DEPTH.false in
    nested_added g.T.ReencodeIndices c.args.depth 1 (inner_module g.T.ReencodeIndices body) low (module_nested c.args.depth body low) _ _ _ pushed _
    (module_accepted g.T.ReencodeIndices c.args.depth body low _ _ _ _ _ _ c.in_ok-module.ensures pushed c.in_ok-parse_core_module.ensures) c.pop_depth.ensures.answer c.in_ok-take_module.ensures.ok c.in_ok-take_module.ensures.fits
