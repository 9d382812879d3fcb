use Rattle.std.proofs.Common.{ap, codes, ◌∙◌}
use Rattle.serde_json.specs.Data.{object, string}
use Rattle.serde_json.specs.View.{items_view, members_view}
use Rattle.serde_json.proofs.Views.{view-Object}
use Rattle.wasm_reencode.proofs.Trees.{ordered, put_both, put_some_both}
use Rattle.wasm_reencode.proofs.listing.object_of.Goals as goal

pub returns : goal.returns
returns c =
    let name = c.in_ok-custom_name.ensures in
    let rows = c.rows_value.ensures in
    let first = put_both (codes "number") c.in_ok-put.ensures.ok c.from.ensures (ap members_view c.new-object.ensures.empty) in
    let second = put_both (codes "id") c.in_ok-put-2.ensures.ok c.from-2.ensures first in
    let third = put_both (codes "name") c.in_ok-put-3.ensures.ok (c.in_ok-name.ensures ∙ ap string c.kind_name.ensures) second in
    let fourth = put_both (codes "place") c.in_ok-put-4.ensures.ok c.from-3.ensures third in
    let fifth = put_both (codes "size") c.in_ok-put-5.ensures.ok c.size_value.ensures fourth in
    let sixth = put_some_both (codes "rows") c.in_ok-put_some.ensures rows.2 fifth in
    let seventh = put_some_both (codes "custom_name") c.in_ok-put_some-2.ensures name.2 sixth in
    let whole = put_some_both (codes "sections") c.in_ok-put_some-3.ensures c.inner_value.ensures seventh in
    record {
      name = name.0;
      rows = rows.0;
      is_name = name.1;
      is_rows = rows.1;
      is = view-Object c.put_some-3.new.object ∙ ap object (whole ∙ ordered c.args.section.now name.0 rows.0 (items_view c.args.inner.items));
    }
