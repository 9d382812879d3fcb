use Rattle.std.proofs.Common.{rules}
use Rattle.wasm_read.specs.Types as read
use Rattle.reencode_hooks.proofs.Leaving.{handed, visited_left}
use Rattle.reencode_items.proofs.Clauses.{item_left, item_stops}
use Rattle.reencode_items.proofs.Loops.{items_accepted, items_more}
use Rattle.reencode_items.proofs.items.ReencodeItems.struct_type.Goals as goal

pub loop-field-preserved : goal.loop-field-preserved
loop-field-preserved g c = items_more _ c.loop-field.invariant c.as_slice-field-items.ensures c.loop-field-test.true c.in_ok-field.ensures.default c.in_ok-push.ensures.ok

pub returns-in_err-field : goal.returns-in_err-field
returns-in_err-field g c =
    let stops = item_stops g.Self.ReencodeIndices _ c.loop-field.invariant c.as_slice-field-items.ensures c.loop-field-test.true c.in_err-field.ensures in
    rw (handed _ c.from_residual-in_err-field.ensures.1) (record { default = stops.default; after_error = item_left g.Self.ReencodeIndices (read.fields_tree c.args.struct_ty.fields) _ stops })

pub returns-in_err-push : goal.returns-in_err-push
returns-in_err-push g c =
    record { default = search rules; after_error = λ k sure. visited_left _ (items_accepted _ c.loop-field.invariant c.as_slice-field-items.ensures c.loop-field-test.true k (c.in_ok-field.ensures.default k 0)) }
