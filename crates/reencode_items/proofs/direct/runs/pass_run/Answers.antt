use Rattle.std.proofs.Common.{◌<◌, length, arith}
use Rattle.reencode_hooks.specs.Run.{ask}
use Rattle.reencode_items.proofs.Passing.{skips_keeps}
use Rattle.reencode_items.proofs.Runs.{fewer_behind, next_within, no_run, run_ends, run_more}
use Rattle.reencode_items.proofs.direct.runs.pass_run.Goals as goal

pub run-init : goal.run-init
run-init g c = no_run _ _ _

pub skip-preserved : goal.skip-preserved
skip-preserved g c =
    let i = g.R.ReencodeIndices in
    let one = skips_keeps (ask i.reply i.next) c.run.reencoder c.in-Some.ensures in
    let fewer : length c.in-Some.behind.now < length c.skip.rest.now = fewer_behind one in
    let before = c.skip.invariant.shorter in
    record { shorter = omega arith; kept = run_more (ask i.reply i.next) c.skip.invariant.kept one }

pub run-smaller : goal.run-smaller
run-smaller g c =
    let s = c.in-Ok-Some in
    let fewer : length s.behind.now < length c.skip.rest.now = fewer_behind (rw s.field-0-is at s.ensures.kept) in
    omega (arith, fewer, c.skip.invariant.shorter)

pub run-preserved : goal.run-preserved
run-preserved g c =
    let i = g.R.ReencodeIndices in
    run_more (ask i.reply i.next) c.skip.invariant.kept (rw c.in-Ok-Some.field-0-is at c.in-Ok-Some.ensures.kept)

pub returns-in-Ok-None-clause-ok : goal.returns-in-Ok-None-clause-ok
returns-in-Ok-None-clause-ok g c =
    let i = g.R.ReencodeIndices in
    run_ends (ask i.reply i.next) c.pass_operator.new.next c.skip.invariant.kept (rw c.in-Ok-None.field-0-is at c.in-Ok-None.ensures.next)

pub returns-in-Ok-None-clause-within : goal.returns-in-Ok-None-clause-within
returns-in-Ok-None-clause-within g c =
    let i = g.R.ReencodeIndices in
    next_within _ c.pass_operator.new.next
    (run_ends (ask i.reply i.next) c.pass_operator.new.next c.skip.invariant.kept (rw c.in-Ok-None.field-0-is at c.in-Ok-None.ensures.next))
