use Rattle.std.proofs.Common.{length}
use Rattle.examples.proofs.Stripping.{Stripping}
use Rattle.examples.proofs.stripper.strip.Given as goal

-- the frames so far were read, and those that stay were added
abbrev pub invariant-sections : goal.invariant-sections
invariant-sections l = Stripping l.fn.all l.initial.payloads l.payloads l.module

abbrev pub decreases-sections : goal.decreases-sections
decreases-sections l = length l.payloads.rest
