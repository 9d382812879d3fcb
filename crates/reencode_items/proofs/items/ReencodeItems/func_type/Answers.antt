use Rattle.std.proofs.Common.{arith, rules}
use Rattle.std.specs.Prelude.{map}
use Rattle.wasm_read.specs.Types as read
use Rattle.wasm_shapes.specs.Types.{rows_tree}
use Rattle.reencode_hooks.proofs.Leaving.{accepted_visited, first_visited, handed, second_part, visited_left}
use Rattle.reencode_items.proofs.Clauses.{first_stops, item_left, item_stops, second_stops}
use Rattle.reencode_items.proofs.Loops.{items_accept, items_accepted, items_more, rows_accept}
use Rattle.reencode_items.proofs.items.ReencodeItems.func_type.Goals as goal

pub loop-ty-preserved : goal.loop-ty-preserved
loop-ty-preserved g c = items_more _ c.loop-ty.invariant c.as_slice-ty-items.ensures c.loop-ty-test.true c.in_ok-ty.ensures.default c.in_ok-push.ensures.ok

pub returns-in_err-ty : goal.returns-in_err-ty
returns-in_err-ty g c =
    let part = item_stops g.Self.ReencodeIndices _ c.loop-ty.invariant c.as_slice-ty-items.ensures c.loop-ty-test.true c.in_err-ty.ensures in
    let stops = first_stops g.Self.ReencodeIndices (read.val_types_tree c.args.func_ty.params) _ part (read.val_types_tree c.args.func_ty.results) in
    rw (handed _ c.from_residual-in_err-ty.ensures.1) (record { default = stops.default; after_error = item_left g.Self.ReencodeIndices (read.func_type_tree c.args.func_ty) _ stops })

pub returns-in_err-push : goal.returns-in_err-push
returns-in_err-push g c =
    record { default = search rules; after_error = λ k sure. let left = items_accepted _ c.loop-ty.invariant c.as_slice-ty-items.ensures c.loop-ty-test.true k (c.in_ok-ty.ensures.default k 0) in grind (arith, first_visited, left) }

pub returns-in_err-mapped-2 : goal.returns-in_err-mapped-2
returns-in_err-mapped-2 g c =
    record { default = search rules; after_error = λ k sure. let params = rows_accept 0 c.loop-ty.invariant c.as_slice-ty-items.ensures c.loop-ty-test.false k in visited_left _ (first_visited _ (accepted_visited 0 (rows_tree (map read.val_type_tree c.args.func_ty.params)) params)) }

pub loop-ty-2-preserved : goal.loop-ty-2-preserved
loop-ty-2-preserved g c = items_more _ c.loop-ty-2.invariant c.as_slice-ty-items-2.ensures c.loop-ty-2-test.true c.in_ok-ty-2.ensures.default c.in_ok-push-2.ensures.ok

pub returns-in_err-ty-2 : goal.returns-in_err-ty-2
returns-in_err-ty-2 g c =
    let part = item_stops g.Self.ReencodeIndices _ c.loop-ty-2.invariant c.as_slice-ty-items-2.ensures c.loop-ty-2-test.true c.in_err-ty-2.ensures in
    let stops = second_stops g.Self.ReencodeIndices (read.val_types_tree c.args.func_ty.results) _ part (read.val_types_tree c.args.func_ty.params) _ _ (λ k ceiling. items_accept ceiling c.loop-ty.invariant c.as_slice-ty-items.ensures c.loop-ty-test.false k) in
    rw (handed _ c.from_residual-in_err-ty-2.ensures.1) (record { default = stops.default; after_error = item_left g.Self.ReencodeIndices (read.func_type_tree c.args.func_ty) _ stops })

pub returns-in_err-push-2 : goal.returns-in_err-push-2
returns-in_err-push-2 g c =
    record {
      default = search rules;
      after_error = λ k sure. let params = rows_accept 0 c.loop-ty.invariant c.as_slice-ty-items.ensures c.loop-ty-test.false k in
          let left = items_accepted _ c.loop-ty-2.invariant c.as_slice-ty-items-2.ensures c.loop-ty-2-test.true k (c.in_ok-ty-2.ensures.default k 0) in grind (arith, second_part, params, left);
    }

pub returns : goal.returns
returns g c =
    record { default = λ k ceiling. let params = rows_accept ceiling c.loop-ty.invariant c.as_slice-ty-items.ensures c.loop-ty-test.false k in let results = rows_accept ceiling c.loop-ty-2.invariant c.as_slice-ty-items-2.ensures c.loop-ty-2-test.false k in grind (arith, params, results); after_error = search rules }
