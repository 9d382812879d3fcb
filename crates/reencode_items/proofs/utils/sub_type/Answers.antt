use Rattle.std.proofs.Common.{arith, rules}
use Rattle.reencode_hooks.proofs.Leaving.{first_visited, handed, second_part}
use Rattle.reencode_items.proofs.Loops.{items_accepted, items_more, items_refused, rows_accept, rows_refuse}
use Rattle.reencode_items.proofs.utils.sub_type.Goals as goal

pub loop-index-preserved : goal.loop-index-preserved
loop-index-preserved g c = items_more _ c.loop-index.invariant c.as_slice-index-items.ensures c.loop-index-test.true c.in_ok-index.ensures.default c.in_ok-push.ensures.ok

pub returns-in_err-index : goal.returns-in_err-index
returns-in_err-index g c =
    record {
      default = rw (handed _ c.from_residual-in_err-index.ensures.1) (λ k ceiling other.
          let supertypes = rows_refuse _ ceiling c.loop-index.invariant c.as_slice-index-items.ensures c.loop-index-test.true k (c.in_err-index.ensures.default k ceiling other) in grind (arith, supertypes));
      after_error = λ k sure. let left = items_refused _ c.loop-index.invariant c.as_slice-index-items.ensures c.loop-index-test.true k sure (c.in_err-index.ensures.default k 0) (c.in_err-index.ensures.sure k) in grind (arith, first_visited, left);
    }

pub returns-in_err-push : goal.returns-in_err-push
returns-in_err-push g c =
    record { default = search rules; after_error = λ k sure. let left = items_accepted _ c.loop-index.invariant c.as_slice-index-items.ensures c.loop-index-test.true k (c.in_ok-index.ensures.default k 0) in grind (arith, first_visited, left) }

pub returns-in_err-composite_type : goal.returns-in_err-composite_type
returns-in_err-composite_type g c =
    record {
      default = λ k ceiling. let supertypes = rows_accept ceiling c.loop-index.invariant c.as_slice-index-items.ensures c.loop-index-test.false k in
          let composite = c.in_err-composite_type.ensures.default k ceiling in grind (arith, supertypes, composite);
      after_error = λ k sure. let supertypes = rows_accept 0 c.loop-index.invariant c.as_slice-index-items.ensures c.loop-index-test.false k in
          let left = c.in_err-composite_type.ensures.after_error k sure in grind (arith, second_part, supertypes, left);
    }

pub returns : goal.returns
returns g c =
    record { default = λ k ceiling. let supertypes = rows_accept ceiling c.loop-index.invariant c.as_slice-index-items.ensures c.loop-index-test.false k in let composite = c.in_ok-composite_type.ensures.default k ceiling in grind (arith, supertypes, composite); after_error = search rules }
