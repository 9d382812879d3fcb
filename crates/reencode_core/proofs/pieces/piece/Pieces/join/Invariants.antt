use Rattle.std.proofs.Common.{◌≡◌, ◌++◌, length, drop}
use Rattle.reencode_core.specs.Pieces.{AreWithin, joined}
use Rattle.reencode_core.proofs.pieces.piece.Pieces.join.Given as goal

-- what is left of the pieces is still to be added, and lies within the input
abbrev pub invariant-pieces : goal.invariant-pieces
invariant-pieces l =
    record {
      added : l.out.items ++ joined l.bytes (drop l.piece-index l.piece-items) ≡ joined l.bytes l.piece-items;
      within : AreWithin (length l.bytes) (drop l.piece-index l.piece-items);
    }
