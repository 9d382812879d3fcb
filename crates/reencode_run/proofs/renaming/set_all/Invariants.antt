use Rattle.std.proofs.Common.{◌≡◌}
use Rattle.reencode_run.specs.Renamings.{set_all}
use Rattle.reencode_run.proofs.renaming.set_all.Given as goal

-- what is left goes on as the whole does
abbrev pub invariant-loop-from : goal.invariant-loop-from
invariant-loop-from l = record {
  rest : set_all l.renamer l.space l.from-iterator ≡ set_all l.fn.renamer l.space l.entries.entries;
  counts : l.renamer.counts ≡ l.fn.renamer.counts;
}
