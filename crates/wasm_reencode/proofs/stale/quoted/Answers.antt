use Rattle.std.proofs.Common.{string_bytes}
use Rattle.wasm_reencode.proofs.StaleNames.{quoted_begin, quoted_last, quoted_none, quoted_step}
use Rattle.wasm_reencode.proofs.stale.quoted.Goals as goal

pub returns-in_default : goal.returns-in_default
returns-in_default c = quoted_none c.args.names.now (string_bytes c.new.result) c.in_default.ensures.cases c.new.ensures.bytes

pub names-init : goal.names-init
names-init c = quoted_begin c.in-Some.first.now c.in-Some.rest.now c.args.names.now (string_bytes c.in_ok-text.text) c.in-Some.ensures.cases.0 c.in_ok-text.ensures.ok

pub names-preserved : goal.names-preserved
names-preserved c =
    let added = c.in_ok-add_quoted.ensures in
    quoted_step c.in-Some.first.now c.in-Some.rest.now c.args.names.now c.names.name-index _ (string_bytes c.names.text) (string_bytes c.add_quoted.new.text) added.0
    c.in-Some.ensures.cases.0 c.names-test.true c.names.invariant added.1 added.2

pub returns : goal.returns
returns c =
    quoted_last c.in-Some.first.now c.in-Some.rest.now c.args.names.now c.names.name-index (string_bytes c.names.text) c.in-Some.ensures.cases.0 c.names-test.false
    c.names.auto.name-index-end c.names.invariant
