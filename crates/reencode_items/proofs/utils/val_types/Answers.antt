use Rattle.std.proofs.Common.{rules}
use Rattle.wasm_read.specs.Types as read
use Rattle.reencode_hooks.proofs.Leaving.{handed, visited_left}
use Rattle.reencode_items.proofs.Clauses.{item_left, item_stops}
use Rattle.reencode_items.proofs.Loops.{items_accepted, items_more}
use Rattle.reencode_items.proofs.utils.val_types.Goals as goal

pub loop-ty-preserved : goal.loop-ty-preserved
loop-ty-preserved g c = items_more _ c.loop-ty.invariant c.as_slice-ty-items.ensures c.loop-ty-test.true c.in_ok-ty.ensures.default c.in_ok-push.ensures.ok

pub returns-in_err-ty : goal.returns-in_err-ty
returns-in_err-ty g c =
    let stops = item_stops g.T.ReencodeIndices _ c.loop-ty.invariant c.as_slice-ty-items.ensures c.loop-ty-test.true c.in_err-ty.ensures in
    rw (handed _ c.from_residual-in_err-ty.ensures.1) (record { counted = tt; default = stops.default; after_error = item_left g.T.ReencodeIndices (read.val_types_tree c.args.val_tys) _ stops })

pub returns-in_err-push : goal.returns-in_err-push
returns-in_err-push g c =
    record { counted = search rules; default = search rules; after_error = λ k sure. visited_left _ (items_accepted _ c.loop-ty.invariant c.as_slice-ty-items.ensures c.loop-ty-test.true k (c.in_ok-ty.ensures.default k 0)) }
