use Rattle.std.proofs.Common.{arith}
use Rattle.reencode_run.proofs.OutsideLemmas.{WhereTold-next}
use Rattle.reencode_run.proofs.write.write_all.Goals as goal

pub pieces-preserved : goal.pieces-preserved
pieces-preserved g c = record {
  within = omega (arith, c.in-Ok.ensures.within);
  rises = omega (arith, c.in-Ok.ensures.rises);
  taken =
      WhereTold-next _ _ _ c.args.text.now c.pieces.at c.in-Ok.n c.pieces.invariant.taken
      c.in-Ok.ensures.taken;
}
