use Rattle.std.proofs.Common.{◌≡◌, ◌≤◌, ◌+◌, ◌++◌, length, drop}
use Rattle.reencode_core.specs.Pieces.{cut_made, cut_pieces}
use Rattle.reencode_core.proofs.pieces.cuts.cut_out.Given as goal

-- what is left of the ranges is still to be added, with the made bytes that are left
abbrev pub invariant-cuts : goal.invariant-cuts
invariant-cuts l =
    record {
      added : l.pieces.items ++ cut_pieces (drop l.at l.made.items) (drop l.cut-index l.cuts) ≡ cut_pieces (drop l.front l.made.items) l.cuts;
      shown : l.at + cut_made (drop l.cut-index l.cuts) ≤ length l.made.items;
    }
