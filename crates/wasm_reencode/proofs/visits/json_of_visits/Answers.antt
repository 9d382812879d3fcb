use Rattle.std.proofs.Common.{◌≡◌, ◌++◌, ℕ, List, codes, false, ap, ◌∙◌}
use Rattle.serde_json.specs.Data.{Items, array, member, no_members, object}
use Rattle.serde_json.specs.View.{members_view, view}
use Rattle.serde_json.specs.Written.{compact_text, has_float}
use Rattle.serde_json.specs.declared.value.Value.TheVariants.{Object}
use Rattle.serde_json.proofs.Views.{view-Object}
use Rattle.wasm_reencode.specs.Visits.{visit_objects}
use Rattle.wasm_reencode.proofs.Trees.{put_both}
use Rattle.wasm_reencode.proofs.VisitsTold.{no_float}
use Rattle.wasm_reencode.proofs.visits.json_of_visits.Goals as goal

pub returns : goal.returns
returns c =
    let objects = visit_objects c.args.visits.now in
    let all = put_both (codes "visits") c.in_ok-put.ensures.ok (c.from.ensures ∙ ap array c.in_ok-objects.ensures) (ap members_view c.new-all.ensures.empty) in
    let whole : view (Object c.put.new.map) ≡ object (member (codes "visits") (array objects) no_members) = view-Object c.put.new.map ∙ ap object all in
    let none : has_float (view (Object c.put.new.map)) ≡ false = ap has_float whole ∙ rw (no_float c.args.visits.now) in
    c.in_ok-push.ensures.items ∙ ap (λ (z : List ℕ). z ++ codes "\n") (c.in_ok-text.ensures.text none ∙ ap compact_text whole)
