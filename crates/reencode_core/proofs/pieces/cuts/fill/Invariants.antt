use Rattle.std.proofs.Common.{length}
use Rattle.reencode_core.specs.Pieces.{cut_bytes}
use Rattle.reencode_core.proofs.kept_pieces.FilledRoom.{AreFilled}
use Rattle.reencode_core.proofs.pieces.cuts.fill.Given as goal

-- the ranges so far are put between the made bytes so far
abbrev pub invariant-cuts : goal.invariant-cuts
invariant-cuts l = AreFilled l.input l.made (cut_bytes l.input l.made l.fn.cuts) l.out l.from l.to l.left

abbrev pub decreases-cuts : goal.decreases-cuts
decreases-cuts l = length l.left
