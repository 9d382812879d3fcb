use Rattle.std.proofs.Common.{refl}
use Rattle.serde_json.specs.View.{items_view}
use Rattle.wasm_reencode.proofs.Trees.{held_last, held_next}
use Rattle.wasm_reencode.proofs.listing.+objects.Goals as goal

pub sections-preserved : goal.sections-preserved
sections-preserved t c =
    held_next c.args.holder c.args.sections.now c.sections.objects.items _ (items_view c.in_ok-inner.inner.items) _ c.sections.invariant (c.sections-test.ensures.within refl)
    c.in_ok-inner.ensures c.in_ok-object_of.ensures c.in_ok-push.ensures.items

pub returns : goal.returns
returns t c = held_last c.args.holder c.args.sections.now c.sections.invariant (c.sections-test.ensures.past refl)
