use Rattle.examples.proofs.Stripping.{headless, none_whole, not_whole, stripping_begun, stripping_more}
use Rattle.examples.proofs.stripper.strip.Goals as goal

pub returns-in_err-payloads-clause-made : goal.returns-in_err-payloads-clause-made
returns-in_err-payloads-clause-made c = none_whole _ (headless _ c.in_err-payloads.ensures.err) _

pub sections-init : goal.sections-init
sections-init c = stripping_begun c.args.all _ _ c.in_ok-module.ensures

pub returns-in_err-payload-clause-made : goal.returns-in_err-payload-clause-made
returns-in_err-payload-clause-made c = none_whole _ (not_whole c.sections.invariant c.in_ok-payloads.ensures.ok _ c.in_err-payload.ensures.err) _

pub sections-preserved : goal.sections-preserved
sections-preserved c =
    let there = rw c.in-Some.is at c.in_ok-payload.ensures.some in
    stripping_more c.sections.invariant c.in-Some.payload there c.in_ok-payload.ensures.len c.in_ok-add_kept.ensures.ok
