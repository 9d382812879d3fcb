use Rattle.std.proofs.Common.{length, take}
use Rattle.reencode_core.specs.Pieces.{cut_bytes}
use Rattle.reencode_core.proofs.kept_pieces.CutBytes.{AreLeft}
use Rattle.reencode_core.proofs.pieces.cuts.move_apart.Given as goal

-- the ranges in front are left to be put between the made bytes in front
abbrev pub invariant-cuts : goal.invariant-cuts
invariant-cuts l = AreLeft l.input l.out (cut_bytes l.input (take l.made l.fn.out) l.fn.cuts) l.from l.to l.left

abbrev pub decreases-cuts : goal.decreases-cuts
decreases-cuts l = length l.left
