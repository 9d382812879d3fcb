use Rattle.std.proofs.Common.{◌≡◌, ◌++◌, drop}
use Rattle.reencode_run.specs.Tools.{spaced}
use Rattle.reencode_run.proofs.tools.add_spaced.Given as goal

-- the text and the numbers that are left are what the whole text will be
abbrev pub invariant-numbers : goal.invariant-numbers
invariant-numbers l = l.text.items ++ spaced (drop l.i l.numbers) ≡ l.initial.text.items ++ spaced l.numbers
