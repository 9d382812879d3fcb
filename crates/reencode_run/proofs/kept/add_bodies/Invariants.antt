use Rattle.std.proofs.Common.{◌≡◌, ◌++◌, drop}
use Rattle.reencode_run.specs.Kept.{kept_lines}
use Rattle.reencode_run.proofs.kept.add_bodies.Given as goal

-- the lines so far, and those of the bodies that are left, are those of all
abbrev pub invariant-bodies : goal.invariant-bodies
invariant-bodies l = l.text.items ++ kept_lines (drop l.i l.output.kept) ≡ l.initial.text.items ++ kept_lines l.output.kept
