use Rattle.std.proofs.Common.{◌++◌, ◌∷◌, [], ◌∙◌, List, Ok, Err, ap, sym, refl, append_assoc, append-nil, length, arith}
use Rattle.std.proofs.lemmas.Result.{err_from_is_err_and}
use Rattle.wasm_shapes.specs.Tree.{Tree}
use Rattle.wasm_read.specs.Types as read
use Rattle.wasm_write.specs.Rows.{compact_tree}
use Rattle.wasm_write.specs.Types as write
use Rattle.reencode_hooks.specs.Run.{ask}
use Rattle.reencode_items.proofs.Leaving.{accepted_visited, sure_visited, visited_left}
use Rattle.reencode_core.proofs.rows_walked.CompactRows.{item_maps, trees_accepted, trees_refused, trees_leave}
use Rattle.reencode_core.proofs.rows_walked.TypeGroup.{items_begin, items_more}
use Rattle.reencode_core.proofs.imports.compact_items.Goals as goal

pub items-init : goal.items-init
items-init g c =
    let i = g.T.ReencodeIndices in
    rw c.new-mapped.ensures ([], refl, λ k. items_begin (ask i.reply i.next) (λ (t : Tree). t) compact_tree _)

pub items-smaller : goal.items-smaller
items-smaller g c = let shorter = ap length c.in-Some.ensures.some in omega arith

pub items-preserved : goal.items-preserved
items-preserved g c =
    let i = g.T.ReencodeIndices in
    let inv = c.items.invariant in
    let item = c.in-Some.item in
    let tree = read.compact_tree item in (
      inv.0 ++ tree ∷ [],
      append_assoc inv.0 (tree ∷ []) _ ∙ ap (λ (z : List Tree). inv.0 ++ z) (sym c.in-Some.ensures.some) ∙ inv.1,
      λ k. items_more (ask i.reply i.next) (λ (t : Tree). t) compact_tree tree (record { name = item.name; ty = c.in_ok-ty.ty }) (inv.2 k)
          (item_maps i _ _ item (λ ty. record { name = item.name; ty = ty }) (λ ty. refl) (Ok c.in_ok-ty.ty) c.in_ok-ty.ensures.default k) c.in_ok-push.ensures.ok,
    )

pub returns-in_err-ty-clause-default : goal.returns-in_err-ty-clause-default
returns-in_err-ty-clause-default g c =
    let p = err_from_is_err_and c.from_residual.result c.from_residual.ensures.1 in
    let i = g.T.ReencodeIndices in
    let inv = c.items.invariant in
    let item = c.in-Some.item in
    let parts = ap (λ (z : List Tree). inv.0 ++ z) (sym c.in-Some.ensures.some) ∙ inv.1 in
    rw (p.1, p.2) (λ k ceiling other. trees_refused (ask i.reply i.next) compact_tree inv.0 _ _ (read.compact_tree item) _ (inv.2 k) parts ceiling
    (item_maps i _ _ item (λ ty. record { name = item.name; ty = ty }) (λ ty. refl) (Err _) c.in_err-ty.ensures.default k ceiling other))

pub returns-in_err-ty-clause-after_error : goal.returns-in_err-ty-clause-after_error
returns-in_err-ty-clause-after_error g c =
    let i = g.T.ReencodeIndices in
    let inv = c.items.invariant in
    let item = c.in-Some.item in
    let gone = c.in_err-ty.ensures in
    let parts = ap (λ (z : List Tree). inv.0 ++ z) (sym c.in-Some.ensures.some) ∙ inv.1 in
    λ k sure. visited_left _ (trees_leave (ask i.reply i.next) compact_tree inv.0 _ _ (read.compact_tree item) (inv.2 k) parts
    (sure_visited i.reply i.next (read.entity_tree item.ty) write.entity_tree _ (gone.default k) (gone.sure k) sure))

pub returns-in_err-push-clause-after_error : goal.returns-in_err-push-clause-after_error
returns-in_err-push-clause-after_error g c =
    let i = g.T.ReencodeIndices in
    let inv = c.items.invariant in
    let item = c.in-Some.item in
    let parts = ap (λ (z : List Tree). inv.0 ++ z) (sym c.in-Some.ensures.some) ∙ inv.1 in
    λ k sure. visited_left _ (trees_leave (ask i.reply i.next) compact_tree inv.0 _ _ (read.compact_tree item) (inv.2 k) parts
    (accepted_visited 0 (read.entity_tree item.ty) (c.in_ok-ty.ensures.default k 0)))

pub returns-clause-default : goal.returns-clause-default
returns-clause-default g c =
    let i = g.T.ReencodeIndices in
    let inv = c.items.invariant in
    let whole = sym (append-nil inv.0) ∙ ap (λ (z : List Tree). inv.0 ++ z) (sym c.in_default.ensures.none.0) ∙ inv.1 in
    λ k ceiling. trees_accepted (ask i.reply i.next) compact_tree inv.0 _ (inv.2 k) whole ceiling
