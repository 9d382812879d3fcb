use Rattle.std.proofs.Common.{arith}
use Rattle.reencode_run.proofs.OutsideLemmas.{TookFront-digits, WhereTold-digits, WhereTold-no_digits}
use Rattle.reencode_run.proofs.write.write_digits.Goals as goal

pub pieces-init : goal.pieces-init
pieces-init g c = record { within = omega arith; rises = omega arith; taken = WhereTold-no_digits _ }

pub pieces-preserved : goal.pieces-preserved
pieces-preserved g c = record {
  within = omega arith;
  rises = omega (arith, c.write_piece.ensures.rises);
  taken = WhereTold-digits _ _ _ c.args.bytes.now c.pieces.at c.min-n.result c.pieces.invariant.taken c.in-Ok.ensures.ok;
}

pub returns-in-Err-clause-front : goal.returns-in-Err-clause-front
returns-in-Err-clause-front g c =
    TookFront-digits _ _ _ c.args.bytes.now c.pieces.at c.min-n.result c.pieces.invariant.taken c.in-Err.ensures.front
