use Rattle.std.proofs.Common.{◌++◌, ◌∷◌, [], ◌+◌, ◌∙◌, length, length-append, List, ap, sym, refl, append_assoc, rules}
use Rattle.std.proofs.lemmas.Result.{err_from_is_err_and}
use Rattle.wasm_read.specs.Immediates as read
use Rattle.wasm_write.specs.Bodies as write
use Rattle.reencode_core.specs.Clauses.{asks}
use Rattle.reencode_core.proofs.rows_walked.TypeGroup.{items_more, all_yielded}
use Rattle.reencode_core.proofs.bodies.Locals.{local_accepted, locals_given, locals_refused, locals_not_made}
use Rattle.wasm_read.specs.Types as read_types
use Rattle.reencode_core.proofs.after_error.BodyVisited.{items_made, items_made_all, locals_leave, locals_leave_none}
use Rattle.reencode_core.proofs.after_error.VisitsMade.{ended_all, fault_unasked, not_wanting, refused_made, tree_made, write_unasked}
use Rattle.reencode_core.proofs.rows.new_function_with_parsed_locals.Goals as goal

pub loop-local-preserved : goal.loop-local-preserved
loop-local-preserved g c =
    let i = g.T.ReencodeIndices in
    let inv = c.loop-local.invariant in
    let x = c.in-Some.local in
    record {
      left = append_assoc c.loop-local.yielded (x ∷ []) c.next.new.self.rest.items ∙ ap (λ (z : List _). c.loop-local.yielded ++ z) (sym c.in-Some.ensures.steps.0) ∙ inv.left;
      counted = ap length c.in_ok-push.ensures.ok ∙ length-append c.loop-local.mapped ((x.0, c.in_ok-ty.ty) ∷ []) ∙ ap (λ n. n + 1) inv.counted ∙ sym (length-append c.loop-local.yielded (x ∷ []));
      default = λ k. items_more (asks i) read.local_tree write.local_tree x (x.0, c.in_ok-ty.ty) (inv.default k)
          (local_accepted (asks i) _ _ x.0 x.1 c.in_ok-ty.ty (c.in_ok-ty.ensures.default k)) c.in_ok-push.ensures.ok;
    }

pub returns-in_err-locals : goal.returns-in_err-locals
returns-in_err-locals g c =
    let p = err_from_is_err_and c.from_residual.result c.from_residual.ensures.1 in
    rw (p.1, p.2) (record {
      default = search rules;
      after_error = λ k told. locals_leave_none (asks g.T.ReencodeIndices) _ (ended_all {a = []} _ (fault_unasked _ _) refl);
    })

pub returns-in_err-mapped : goal.returns-in_err-mapped
returns-in_err-mapped g c =
    let p = err_from_is_err_and c.from_residual-in_err-mapped.result c.from_residual-in_err-mapped.ensures.1 in
    rw (p.1, p.2) (record {
      default = search rules;
      after_error = λ k told. locals_leave_none (asks g.T.ReencodeIndices) _ (record { by = refl });
    })

pub returns-in_err-ty : goal.returns-in_err-ty
returns-in_err-ty g c =
    let p = err_from_is_err_and c.from_residual-in_err-ty.result c.from_residual-in_err-ty.ensures.1 in
    let i = g.T.ReencodeIndices in
    let inv = c.loop-local.invariant in
    let x = c.in-Some.local in
    let begins = c.in_ok-locals.ensures.ok.1 in
    let gone = c.in_err-ty.ensures in
    let parts = ap (λ (z : List _). c.loop-local.yielded ++ z) (sym c.in-Some.ensures.steps.0) ∙ inv.left ∙ c.into_iter-local-iterator.ensures.into_iter_gives.0 ∙ c.into_vec-local-items.ensures in
    rw (p.1, p.2) (record {
      default = λ k. locals_refused i.reply i.next c.in_ok-locals.locals _ _ _ _ _ _ x _ begins (inv.default k) parts (gone.default k);
      after_error = λ k told. locals_leave (asks i) _ begins (items_made _ _ _ x (inv.default k) parts
          (refused_made i.reply i.next 0 (read_types.val_type_tree x.1) _ (gone.default k 0 (not_wanting _ (gone.sure k) told))));
    })

pub returns-in_err-push : goal.returns-in_err-push
returns-in_err-push g c =
    let p = err_from_is_err_and c.from_residual-in_err-push.result c.from_residual-in_err-push.ensures.1 in
    let i = g.T.ReencodeIndices in
    let inv = c.loop-local.invariant in
    let x = c.in-Some.local in
    let parts = ap (λ (z : List _). c.loop-local.yielded ++ z) (sym c.in-Some.ensures.steps.0) ∙ inv.left ∙ c.into_iter-local-iterator.ensures.into_iter_gives.0 ∙ c.into_vec-local-items.ensures in
    rw (p.1, p.2) (record {
      default = search rules;
      after_error = λ k told. locals_leave (asks i) _ c.in_ok-locals.ensures.ok.1 (items_made _ _ _ x (inv.default k) parts
          (tree_made (asks i) 0 _ (read_types.val_type_tree x.1) tt (c.in_ok-ty.ensures.default k 0)));
    })

pub returns-in_err-new : goal.returns-in_err-new
returns-in_err-new g c =
    let p = err_from_is_err_and c.from_residual-in_err-new.result c.from_residual-in_err-new.ensures.1 in
    let i = g.T.ReencodeIndices in
    let inv = c.loop-local.invariant in
    let begins = c.in_ok-locals.ensures.ok.1 in
    let parts = all_yielded _ _ _ _ inv.left c.loop-local.local-iterator.rest.ok.0 c.in-None.ensures.steps.0 in
    let whole = parts ∙ c.into_iter-local-iterator.ensures.into_iter_gives.0 ∙ c.into_vec-local-items.ensures in
    rw (p.1, p.2) (record {
      default = λ k. locals_not_made (asks i) c.in_ok-locals.locals _ _ _ _ begins (inv.counted ∙ ap length whole) c.in_err-new.ensures.large;
      after_error = λ k told. locals_leave (asks i) _ begins (items_made_all _ _ _ (inv.default k) whole (write_unasked _ _));
    })

pub returns : goal.returns
returns g c =
    let i = g.T.ReencodeIndices in
    let inv = c.loop-local.invariant in
    let parts = all_yielded _ _ _ _ inv.left c.loop-local.local-iterator.rest.ok.0 c.in-None.ensures.steps.0 in
    let whole = parts ∙ c.into_iter-local-iterator.ensures.into_iter_gives.0 ∙ c.into_vec-local-items.ensures in
    record {
      default = λ k. locals_given (asks i) c.in_ok-locals.locals _ _ _ _ _ c.in_ok-locals.ensures.ok.1 (inv.default k) whole c.in_ok-new.ensures.ok;
      after_error = λ k. tt;
    }
