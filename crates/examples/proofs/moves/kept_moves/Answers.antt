use Rattle.std.proofs.Common.{arith, sym}
use Rattle.examples.proofs.Moving.{piece_fits, told_more}
use Rattle.examples.proofs.moves.kept_moves.Goals as goal
use Rattle.examples.proofs.moves.kept_moves.Goals.{in-Some+in_ok-to-in-Some, in-None}

pub add_piece-requires : goal.add_piece-requires
add_piece-requires c =
    let fits = piece_fits c.args.pieces.now c.pieces.i c.in-Some.piece.now c.pieces.moves c.pieces.to (sym c.in-Some.ensures.value) c.pieces.invariant in
    omega (arith, fits, c.size-size.ensures.value)

pub pieces-preserved : goal.pieces-preserved
pieces-preserved c =
    elim c.match-piece.branch [
      | in-Some+in_ok-to-in-Some w ↦
          let more = told_more c.args.pieces.now c.pieces.i w.in-Some.piece.now c.pieces.moves c.pieces.to (sym w.in-Some.ensures.value) c.pieces.invariant w.in_ok-to-in-Some.ensures.moves w.in_ok-to-in-Some.ensures.next in
          rw (w.moves-is, w.to-is) more
      | in-None w ↦ absurd (omega (arith, w.in-None.ensures.none, c.pieces-test.true, c.len-i-end.ensures))
    ]
