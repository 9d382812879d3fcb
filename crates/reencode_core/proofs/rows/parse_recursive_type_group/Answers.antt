use Rattle.std.proofs.Common.{◌++◌, ◌∷◌, [], ◌+◌, ◌∙◌, length, length-append, List, refl, ap, sym, append_assoc, rules}
use Rattle.std.proofs.lemmas.Result.{err_from_is_err_and}
use Rattle.wasm_read.specs.Types as read
use Rattle.wasm_write.specs.Types as write
use Rattle.reencode_hooks.specs.Run.{ask}
use Rattle.reencode_core.proofs.rows_walked.TypeGroup.{items_begin, items_more, all_yielded, group_accepted, group_refused}
use Rattle.reencode_items.proofs.Leaving.{accepted_visited, visited_left}
use Rattle.reencode_core.proofs.after_error.StateLeft.{group_leaves, items_leave}
use Rattle.reencode_core.proofs.rows.parse_recursive_type_group.Goals as goal

pub loop-ty-init : goal.loop-ty-init
loop-ty-init g c =
    let i = g.T.ReencodeIndices in
    rw c.in_ok-types.ensures (record {
      left = c.into_iter-ty-iterator.ensures.into_iter_gives.0 ∙ c.into_vec-ty-items.ensures;
      counted = refl;
      default = λ k. items_begin (ask i.reply i.next) read.sub_type_tree write.sub_type_tree _;
    })

pub loop-ty-preserved : goal.loop-ty-preserved
loop-ty-preserved g c =
    let i = g.T.ReencodeIndices in
    let inv = c.loop-ty.invariant in
    let x = c.in-Some.ty in
    record {
      left = append_assoc c.loop-ty.yielded (x ∷ []) c.next.new.self.rest.items ∙ ap (λ (z : List _). c.loop-ty.yielded ++ z) (sym c.in-Some.ensures.steps.0) ∙ inv.left;
      counted = ap length c.in_ok-push.ensures.ok ∙ length-append c.loop-ty.types (c.in_ok-ty.ty ∷ []) ∙ ap (λ n. n + 1) inv.counted ∙ sym (length-append c.loop-ty.yielded (x ∷ []));
      default = λ k. items_more (ask i.reply i.next) read.sub_type_tree write.sub_type_tree x c.in_ok-ty.ty (inv.default k) (c.in_ok-ty.ensures.default k) c.in_ok-push.ensures.ok;
    }

pub returns-in_err-ty : goal.returns-in_err-ty
returns-in_err-ty g c =
    let p = err_from_is_err_and c.from_residual-in_err-ty.result c.from_residual-in_err-ty.ensures.1 in
    let i = g.T.ReencodeIndices in
    let inv = c.loop-ty.invariant in
    let group = c.args.rec_group in
    let parts = ap (λ (z : List _). c.loop-ty.yielded ++ z) (sym c.in-Some.ensures.steps.0) ∙ inv.left in
    record {
      default = rw (p.1, p.2) (λ k ceiling other. group_refused (ask i.reply i.next) ceiling _ _ _ group.explicit group.types _ _ _ _ _ (inv.default k) parts group.bare_holds_one (c.in_err-ty.ensures.default k ceiling other));
      after_error = λ k sure. visited_left _ (group_leaves group.explicit group.types group.bare_holds_one (items_leave _ _ _ _ (inv.default k) parts (c.in_err-ty.ensures.after_error k sure)));
    }

pub invariant_of-result : goal.invariant_of-result
invariant_of-result g c =
    let inv = c.loop-ty.invariant in
    let whole = all_yielded _ _ _ _ inv.left c.loop-ty.ty-iterator.rest.ok.0 c.in-None.ensures.steps.0 in
    record { bare_holds_one = λ e. inv.counted ∙ ap length whole ∙ c.args.rec_group.bare_holds_one e }

pub returns : goal.returns
returns g c =
    let i = g.T.ReencodeIndices in
    let inv = c.loop-ty.invariant in
    let group = c.args.rec_group in
    let whole = all_yielded _ _ _ _ inv.left c.loop-ty.ty-iterator.rest.ok.0 c.in-None.ensures.steps.0 in
    record { default = λ k ceiling. group_accepted (ask i.reply i.next) ceiling _ _ group.explicit group.types _ _ (inv.default k) whole inv.counted group.bare_holds_one; after_error = search rules }

pub returns-in_err-push : goal.returns-in_err-push
returns-in_err-push g c =
    let inv = c.loop-ty.invariant in
    let group = c.args.rec_group in
    let parts = ap (λ (z : List _). c.loop-ty.yielded ++ z) (sym c.in-Some.ensures.steps.0) ∙ inv.left in
    record {
      default = search rules;
      after_error = λ k sure. visited_left _ (group_leaves group.explicit group.types group.bare_holds_one (items_leave _ _ _ _ (inv.default k) parts (accepted_visited 0 (read.sub_type_tree c.in-Some.ty) (c.in_ok-ty.ensures.default k 0))));
    }
