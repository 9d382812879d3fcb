use Rattle.std.proofs.Common.{◌≤◌, length}
use Rattle.reencode_hooks.specs.Run.{ask}
use Rattle.reencode_items.specs.Direct.{KeepsOperators}
use Rattle.reencode_items.proofs.direct.runs.pass_run.Given as goal

-- the operators so far stay as they stand
abbrev pub invariant-run : goal.invariant-run
invariant-run g l = KeepsOperators (ask g.R.ReencodeIndices.reply g.R.ReencodeIndices.next) l.initial.reencoder l.fn.bytes l.rest l.reencoder

abbrev pub decreases-run : goal.decreases-run
decreases-run g l = length l.rest

-- nothing is asked of those that are skipped
abbrev pub invariant-skip : goal.invariant-skip
invariant-skip g l =
    record {
      shorter : length l.rest ≤ length l.initial.rest;
      kept : KeepsOperators (ask g.R.ReencodeIndices.reply g.R.ReencodeIndices.next) l.fn.reencoder l.fn.bytes l.rest l.reencoder;
    }

abbrev pub decreases-skip : goal.decreases-skip
decreases-skip g l = length l.rest
