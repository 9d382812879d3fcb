use Rattle.std.proofs.Common.{◌++◌, codes, refl}
use Rattle.std.proofs.lemmas.Result.{on_ok_weaker}
use Rattle.wasm_reencode.specs.Lines.{front_of, size_of}
use Rattle.wasm_reencode.proofs.Lines.{added_if_ok, five_added}
use Rattle.wasm_reencode.proofs.listing.add_line.Goals as goal

pub returns : goal.returns
returns c =
    let s = c.args.section.now in
    let rows = c.in_ok-add_rows.ensures in
    let name = c.in_ok-add_name.ensures in
    on_ok_weaker c.extend_from_slice.result
    (λ added. (
      front_of s ++ size_of s.frame ++ rows.0 ++ name.0 ++ codes "\n",
      five_added c.args.text.now.items (front_of s) (size_of s.frame) rows.0 name.0 (codes "\n") c.in_ok-add_front.ensures c.in_ok-add_size.ensures rows.1 name.1 added,
      record { rows = rows.0; name = name.0; tells_rows = rows.2; tells_name = name.2; is = refl },
    ))
    (added_if_ok c.extend_from_slice.result _ _ _ c.extend_from_slice.ensures.items)
