use Rattle.std.proofs.Common.{◌≡◌, ◌++◌, List, ℕ, Some, codes, string_bytes, ap, ◌∙◌, append_assoc}
use Rattle.std.proofs.lemmas.Result.{on_ok_weaker}
use Rattle.wasm_reencode.proofs.Lines.{added_if_ok}
use Rattle.wasm_reencode.proofs.Told.{line_added}
use Rattle.wasm_reencode.proofs.explain.add_json_place.Goals as goal

pub returns-in_ok-extend_from_slice-in-Some-2 : goal.returns-in_ok-extend_from_slice-in-Some-2
returns-in_ok-extend_from_slice-in-Some-2 c =
    let line = c.args.line.now in
    let why = string_bytes c.in-Some.why in
    let front = c.pop.new.self.items in
    let told = c.in_ok-why.ensures in
    let said = rw c.in-Some.is at told in
    let more : c.extend_from_slice-in-Some.new.self.items ≡ front ++ (codes ": " ++ why) =
    c.in_ok-extend_from_slice-in-Some-2.ensures.items ∙ ap (λ (z : List ℕ). z ++ c.as_bytes.result.now) c.in_ok-extend_from_slice-in-Some.ensures.items
    ∙ ap (λ (z : List ℕ). (front ++ codes ": ") ++ z) c.as_bytes.ensures.value ∙ append_assoc front (codes ": ") why in
    on_ok_weaker c.extend_from_slice-in-Some-2.result
    (λ added. (Some why, said, line_added line.items line.len (codes ": " ++ why) line.ok.0 c.pop.ensures.rest more added))
    (added_if_ok c.extend_from_slice-in-Some-2.result _ _ _ c.extend_from_slice-in-Some-2.ensures.items)
