use Rattle.std.proofs.Common.{◌≡◌, ◌++◌, map, drop}
use Rattle.reencode_run.specs.Report.{parts}
use Rattle.reencode_run.proofs.report.add_parts.Given as goal

-- the line and the parts that are left are what the whole line will be
abbrev pub invariant-keys : goal.invariant-keys
invariant-keys l =
    l.line.items ++ parts (map (λ key. key.now) (drop l.i l.keys)) (drop l.i l.counts)
    ≡ l.initial.line.items ++ parts (map (λ key. key.now) l.keys) l.counts
