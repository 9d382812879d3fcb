use Rattle.std.proofs.Common.{List, ℕ, subst}
use Rattle.std.proofs.lemmas.Result.{on_ok_weaker}
use Rattle.wasm_reencode.specs.Places.{IsPlaceOf}
use Rattle.wasm_reencode.proofs.Lines.{added_if_ok}
use Rattle.wasm_reencode.proofs.Told.{line_added, place_of}
use Rattle.wasm_reencode.proofs.explain.add_place.Goals as goal

pub returns : goal.returns
returns c =
    let line = c.args.line.now in
    let told = c.in_ok-add_told.ensures in
    let place = c.unwrap_or-place.result in
    let P : List ℕ → Type 0 = λ z. IsPlaceOf c.args.name.now z place in
    let is = subst P c.as_slice.ensures.value (place_of c.args.name.now c.as_slice.result.now c.place_in.result place c.unwrap_or-place.ensures c.place_in.ensures.some c.place_in.ensures.none) in
    on_ok_weaker c.extend_from_slice.result
    (λ added. (place, told.0, is, told.2, line_added line.items line.len told.0 line.ok.0 c.pop.ensures.rest told.1 added))
    (added_if_ok c.extend_from_slice.result _ _ _ c.extend_from_slice.ensures.items)
