use Rattle.std.proofs.Common.{◌++◌, ◌∷◌, [], ◌∙◌, List, ap, sym, append_assoc}
use Rattle.std.proofs.lemmas.Result.{err_from_is_err_and}
use Rattle.reencode_hooks.specs.Run.{ask}
use Rattle.reencode_items.proofs.Leaving.{accepted_visited, visited_left}
use Rattle.reencode_core.proofs.rows_walked.TypeGroup.{items_begin, items_more, all_yielded}
use Rattle.reencode_core.proofs.rows_walked.EachItem.{vector_accepted, vector_refused}
use Rattle.reencode_core.proofs.after_error.StateLeft.{items_leave}
use Rattle.reencode_core.proofs.item_lists.map_items.Goals as goal

pub loop-item-init : goal.loop-item-init
loop-item-init g c =
    let i = g.T.ReencodeIndices in
    rw c.in_ok-mapped.ensures (record {
      left = c.into_iter-item-iterator.ensures.into_iter_gives.0 ∙ c.into_vec-item-items.ensures;
      default = λ k. items_begin (ask i.reply i.next) g.M.MapItem.read g.M.MapItem.made _;
    })

pub loop-item-preserved : goal.loop-item-preserved
loop-item-preserved g c =
    let i = g.T.ReencodeIndices in
    let inv = c.loop-item.invariant in
    let x = c.in-Some.item in
    record {
      left = append_assoc c.loop-item.yielded (x ∷ []) c.next.new.self.rest.items ∙ ap (λ (z : List _). c.loop-item.yielded ++ z) (sym c.in-Some.ensures.steps.0) ∙ inv.left;
      default = λ k. items_more (ask i.reply i.next) g.M.MapItem.read g.M.MapItem.made x c.in_ok-item.item (inv.default k) (c.in_ok-item.ensures.default k) c.in_ok-push.ensures.ok;
    }

pub returns-in_err-item-clause-default : goal.returns-in_err-item-clause-default
returns-in_err-item-clause-default g c =
    let p = err_from_is_err_and c.from_residual-in_err-item.result c.from_residual-in_err-item.ensures.1 in
    let i = g.T.ReencodeIndices in
    let inv = c.loop-item.invariant in
    let parts = ap (λ (z : List _). c.loop-item.yielded ++ z) (sym c.in-Some.ensures.steps.0) ∙ inv.left in
    rw (p.1, p.2) (λ k ceiling other. vector_refused (ask i.reply i.next) g.M.MapItem.read g.M.MapItem.made _ _ _ c.in-Some.item _ (inv.default k) parts ceiling (c.in_err-item.ensures.default k ceiling other))

pub returns-clause-default : goal.returns-clause-default
returns-clause-default g c =
    let i = g.T.ReencodeIndices in
    let inv = c.loop-item.invariant in
    let whole = all_yielded _ _ _ _ inv.left c.loop-item.item-iterator.rest.ok.0 c.in-None.ensures.steps.0 in
    λ k ceiling. vector_accepted (ask i.reply i.next) g.M.MapItem.read g.M.MapItem.made _ _ (inv.default k) whole ceiling

pub returns-in_err-item-clause-after_error : goal.returns-in_err-item-clause-after_error
returns-in_err-item-clause-after_error g c =
    let inv = c.loop-item.invariant in
    let parts = ap (λ (z : List _). c.loop-item.yielded ++ z) (sym c.in-Some.ensures.steps.0) ∙ inv.left in
    λ k sure. visited_left _ (items_leave _ _ _ c.in-Some.item (inv.default k) parts (c.in_err-item.ensures.after_error k sure))

pub returns-in_err-push-clause-after_error : goal.returns-in_err-push-clause-after_error
returns-in_err-push-clause-after_error g c =
    let inv = c.loop-item.invariant in
    let parts = ap (λ (z : List _). c.loop-item.yielded ++ z) (sym c.in-Some.ensures.steps.0) ∙ inv.left in
    λ k sure. visited_left _ (items_leave _ _ _ c.in-Some.item (inv.default k) parts (accepted_visited 0 (g.M.MapItem.read c.in-Some.item) (c.in_ok-item.ensures.default k 0)))
