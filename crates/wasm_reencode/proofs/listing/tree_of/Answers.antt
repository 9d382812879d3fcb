use Rattle.std.proofs.Common.{◌≡◌, ◌++◌, ℕ, List, codes, false, ap, ◌∙◌}
use Rattle.serde_json.specs.Data.{array, member, no_members, object}
use Rattle.serde_json.specs.View.{items_view, members_view, view}
use Rattle.serde_json.specs.Written.{compact_text, has_float}
use Rattle.serde_json.specs.declared.value.Value.TheVariants.{Object}
use Rattle.serde_json.proofs.Views.{view-Object}
use Rattle.wasm_reencode.proofs.Trees.{all_held, no_float, put_both}
use Rattle.wasm_reencode.proofs.listing.tree_of.Goals as goal

pub returns : goal.returns
returns c =
    let objects = items_view c.in_ok-objects.objects.items in
    let are = all_held c.in_ok-objects.ensures in
    let tree = put_both (codes "sections") c.in_ok-put.ensures.ok c.from.ensures (ap members_view c.new-tree.ensures.empty) in
    let whole : view (Object c.put.new.map) ≡ object (member (codes "sections") (array objects) no_members) = view-Object c.put.new.map ∙ ap object tree in
    let none : has_float (view (Object c.put.new.map)) ≡ false = ap has_float whole ∙ rw (no_float are) in
    record { objects = objects; are = are; is = c.in_ok-push.ensures.items ∙ ap (λ (z : List ℕ). z ++ codes "\n") (c.in_ok-text.ensures.text none ∙ ap compact_text whole) }
