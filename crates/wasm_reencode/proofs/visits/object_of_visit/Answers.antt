use Rattle.std.proofs.Common.{ap, codes, ◌∙◌, ℕ}
use Rattle.serde_json.specs.Data.{object, string}
use Rattle.serde_json.specs.View.{members_view}
use Rattle.serde_json.proofs.Views.{view-Object}
use Rattle.wasm_reencode.specs.declared.sections.Layer.TheVariants as layer
use Rattle.wasm_reencode.specs.Sections.{kind_name}
use Rattle.wasm_reencode.proofs.Trees.{put_both}
use Rattle.wasm_reencode.proofs.visits.object_of_visit.Goals as goal

pub returns : goal.returns
returns c =
    let first = put_both (codes "place") c.in_ok-put.ensures.ok c.from.ensures (ap members_view c.new-object.ensures.empty) in
    let second = put_both (codes "section") c.in_ok-put-2.ensures.ok (c.in_ok-section.ensures ∙ ap string (c.core_name.ensures ∙ ap (λ (n : ℕ). kind_name layer.Module n) c.id_of.ensures)) first in
    let third = put_both (codes "space") c.in_ok-put-3.ensures.ok (c.in_ok-space.ensures ∙ ap string c.name.ensures) second in
    let fourth = put_both (codes "index") c.in_ok-put-4.ensures.ok c.from-2.ensures third in
    view-Object c.put-4.new.map ∙ ap object fourth
