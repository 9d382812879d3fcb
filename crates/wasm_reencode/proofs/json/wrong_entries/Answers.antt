use Rattle.wasm_reencode.proofs.Wrong.{so_begin, so_here, so_last, so_next}
use Rattle.wasm_reencode.proofs.json.wrong_entries.Goals as goal

pub loop-key-init : goal.loop-key-init
loop-key-init c = so_begin c.args.entries.now.entries (λ said told. told) (cc)

pub loop-key-preserved : goal.loop-key-preserved
loop-key-preserved c =
    so_next (c.in-Some.key.now, c.in-Some.value.now) c.as_str.result.now c.in_ok-wrong.field-0 c.loop-key.invariant c.in-Some.ensures.steps c.as_str.ensures.value c.in_ok-wrong.ensures
    c.in_default.is

pub returns-in-Some-2 : goal.returns-in-Some-2
returns-in-Some-2 c =
    so_here (c.in-Some.key.now, c.in-Some.value.now) c.as_str.result.now c.in_ok-wrong.field-0 c.in-Some-2.wrong c.loop-key.invariant c.in-Some.ensures.steps c.as_str.ensures.value
    c.in_ok-wrong.ensures c.in-Some-2.is

pub returns : goal.returns
returns c = so_last c.loop-key.invariant c.in-None.ensures.steps.0
