use Rattle.std.proofs.Common.{arith}
use Rattle.module_spaces.proofs.Texts.{picks_begin, picks_next}
use Rattle.module_spaces.proofs.arranged.add_picked.Goals as goal

pub loop-place-init : goal.loop-place-init
loop-place-init c = picks_begin _ c.args.out.now.items

pub loop-place-preserved : goal.loop-place-preserved
loop-place-preserved c = picks_next _ c.args.places.now c.args.out.now.items c.loop-place.invariant (omega arith) c.in-Some.ensures.below c.in-Some.ensures.is c.in-Ok.ensures.items
