use Rattle.std.proofs.Common.{◌≡◌, ◌++◌, ◌+◌, drop}
use Rattle.reencode_core.specs.Pieces.{total}
use Rattle.examples.specs.Moves.{moves_from}
use Rattle.examples.proofs.moves.kept_moves.Given as goal

-- what was told so far, and what the pieces that are left tell, is what all tell; and so many bytes stand before them
abbrev pub invariant-pieces : goal.invariant-pieces
invariant-pieces l =
    (l.moves ++ moves_from l.to (drop l.i l.pieces) ≡ moves_from 0 l.pieces)
    × (l.to + total (drop l.i l.pieces) ≡ total l.pieces)
