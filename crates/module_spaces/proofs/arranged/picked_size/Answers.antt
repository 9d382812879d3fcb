use Rattle.std.proofs.Common.{arith}
use Rattle.module_spaces.proofs.Texts.{size_begin, size_next}
use Rattle.module_spaces.proofs.arranged.picked_size.Goals as goal

pub loop-place-init : goal.loop-place-init
loop-place-init c = size_begin _ c.args.front

pub loop-place-preserved : goal.loop-place-preserved
loop-place-preserved c =
    size_next _ c.args.places.now c.args.front c.loop-place.invariant (omega arith) c.in-Some.ensures.below c.in-Some.ensures.is c.in-Some-checked_add.ensures.1
