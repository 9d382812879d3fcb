use Rattle.std.proofs.Common.{rules}
use Rattle.wasm_types.specs.ComponentTrees.{canonical_options_tree}
use Rattle.reencode_hooks.proofs.Leaving.{handed, visited_left}
use Rattle.reencode_items.proofs.Clauses.{item_left, item_stops}
use Rattle.reencode_items.proofs.Loops.{items_accepted, items_more}
use Rattle.reencode_component.proofs.canonical.canonical_options.Goals as goal

pub loop-option-preserved : goal.loop-option-preserved
loop-option-preserved g c = items_more _ c.loop-option.invariant c.as_slice-option-items.ensures c.loop-option-test.true c.in_ok-option.ensures.default c.in_ok-push.ensures.ok

pub returns-in_err-option : goal.returns-in_err-option
returns-in_err-option g c =
    let stops = item_stops g.T.ReencodeIndices _ c.loop-option.invariant c.as_slice-option-items.ensures c.loop-option-test.true c.in_err-option.ensures in
    rw (handed _ c.from_residual-in_err-option.ensures.1) (record { default = stops.default; after_error = item_left g.T.ReencodeIndices (canonical_options_tree c.args.options.now) _ stops })

pub returns-in_err-push : goal.returns-in_err-push
returns-in_err-push g c =
    record { default = search rules; after_error = λ k sure. visited_left _ (items_accepted _ c.loop-option.invariant c.as_slice-option-items.ensures c.loop-option-test.true k (c.in_ok-option.ensures.default k 0)) }
