use Rattle.std.proofs.Common.{◌≡◌, ◌<◌, ◌++◌, ◌∷◌, [], ◌+◌, ◌∙◌, ℕ, List, ap, sym, arith, drop, take, length, get_or}
use Rattle.std.proofs.lemmas.List.{drop_more, drop-set-lt, length-set, take_more, take_more_set, take-append-drop}
use Rattle.std.proofs.lemmas.Result.{err_from_is_err_and}
use Rattle.reencode_hooks.specs.Run.{ask}
use Rattle.reencode_items.proofs.Leaving.{visited_left}
use Rattle.reencode_core.proofs.rows_walked.TypeGroup.{items_more}
use Rattle.reencode_core.proofs.rows_walked.EachItem.{vector_refused}
use Rattle.reencode_core.proofs.after_error.StateLeft.{items_leave}
use Rattle.reencode_core.proofs.item_lists.map_in_place.Goals as goal

module _ (xs ys : List ℕ) (i x : ℕ) (left : drop i xs ≡ drop i ys) (here : i < length xs) (is : x ≡ get_or xs i x) where
  -- the item at the place, in front of those behind it
  first_left : x ∷ drop (i + 1) xs ≡ drop i ys
  first_left = ap (λ (z : ℕ). z ∷ drop (i + 1) xs) is ∙ sym (drop_more xs i x here) ∙ left

  -- it stands between those in front of it and those behind it
  between : take i ys ++ x ∷ drop (i + 1) xs ≡ ys
  between = ap (λ (z : List ℕ). take i ys ++ z) first_left ∙ take-append-drop i ys

  -- those up to it, and those behind it
  passed : i < length ys → (take (i + 1) ys ≡ take i ys ++ x ∷ []) × (drop (i + 1) xs ≡ drop (i + 1) ys)
  passed there =
      let both : x ∷ drop (i + 1) xs ≡ get_or ys i x ∷ drop (i + 1) ys = first_left ∙ drop_more ys i x there in
      let same : x ≡ get_or ys i x = cc in
      (take_more ys i x there ∙ ap (λ (z : ℕ). take i ys ++ z ∷ []) (sym same), cc)

pub returns-in_err-item-clause-default : goal.returns-in_err-item-clause-default
returns-in_err-item-clause-default g c =
    let p = err_from_is_err_and c.from_residual.result c.from_residual.ensures.1 in
    let i = g.T.ReencodeIndices in
    let inv = c.items.invariant in
    let here : c.items.at < length c.items.items.items = omega (arith, c.items-test.true, c.len.ensures) in
    let parts = between c.items.items.items c.args.indices c.items.at c.index.result.now inv.left here c.index.ensures in
    rw (p.1, p.2) (λ k ceiling other. vector_refused (ask i.reply i.next) g.M.MapItem.read g.M.MapItem.made _ _ _ c.index.result.now _ (inv.default k) parts ceiling (c.in_err-item.ensures.default k ceiling other))

pub returns-in_err-item-clause-after_error : goal.returns-in_err-item-clause-after_error
returns-in_err-item-clause-after_error g c =
    let inv = c.items.invariant in
    let here : c.items.at < length c.items.items.items = omega (arith, c.items-test.true, c.len.ensures) in
    let parts = between c.items.items.items c.args.indices c.items.at c.index.result.now inv.left here c.index.ensures in
    λ k sure. visited_left _ (items_leave _ _ _ c.index.result.now (inv.default k) parts (c.in_err-item.ensures.after_error k sure))

pub items-preserved : goal.items-preserved
items-preserved g c =
    let i = g.T.ReencodeIndices in
    let inv = c.items.invariant in
    let xs = c.items.items.items in
    let ys = c.args.indices in
    let at = c.items.at in
    let y = c.in_ok-item.item in
    let here : at < length xs = omega (arith, c.items-test.true, c.len.ensures) in
    let there : at < length ys = omega (arith, here, inv.same, ap length c.into_vec-items.ensures) in
    let on = passed xs ys at c.index.result.now inv.left here c.index.ensures there in
    record {
      same = length-set xs at y ∙ inv.same;
      within = omega (arith, here, length-set xs at y);
      left = drop-set-lt (at + 1) xs at y (omega arith) ∙ on.1;
      default = λ k. rw on.0 (items_more (ask i.reply i.next) g.M.MapItem.read g.M.MapItem.made c.index.result.now y (inv.default k) (c.in_ok-item.ensures.default k) (take_more_set xs at y here));
    }
