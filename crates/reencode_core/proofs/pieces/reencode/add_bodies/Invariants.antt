use Rattle.std.proofs.Common.{◌≡◌, ◌<◌, ◌^◌, IsTrue, false}
use Rattle.reencode_core.proofs.bodies.EachBody.{CodeKept}
use Rattle.reencode_core.specs.Sinks.{FramesDone, RowsStand}
use Rattle.reencode_core.proofs.pieces.reencode.add_bodies.Given as goal

-- the rows so far are walked and added
abbrev pub invariant-rows : goal.invariant-rows
invariant-rows g l =
    record {
      done : CodeKept g.R.ReencodeIndices l.initial.rows l.initial.reencoder l.initial.code.code l.rows l.reencoder l.code.code;
      stands : RowsStand l.input l.start l.rows;
      same : l.code.input ≡ l.input;
      small : l.code.code.ceiling < 2 ^ 32;
      own : l.own.ceiling ≡ l.code.code.ceiling;
      frames : l.more ≡ false → IsTrue g.R.ReencodeIndices.keeps_defaults → FramesDone l.start l.initial.rows l.initial.code l.rows l.code;
    }

abbrev pub decreases-rows : goal.decreases-rows
decreases-rows g l = l.rows.left
