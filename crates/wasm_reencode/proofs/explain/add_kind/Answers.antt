use Rattle.std.proofs.Common.{ℕ, List, ◌++◌, ap, ◌∙◌, append_assoc, codes, decimal}
use Rattle.std.proofs.lemmas.Result.{on_ok_weaker}
use Rattle.wasm_reencode.specs.Places.{IsKind}
use Rattle.wasm_reencode.proofs.explain.add_kind.Goals as goal

pub returns-in_ok-extend_from_slice-in-Some : goal.returns-in_ok-extend_from_slice-in-Some
returns-in_ok-extend_from_slice-in-Some c =
    let v = c.in-Some.ensures in
    let n = decimal c.in-Some.version in
    let front = c.in_ok-extend_from_slice-in-Some.ensures.items ∙ ap (λ (z : List ℕ). z ++ codes "WebAssembly of version ") c.in_ok-extend_from_slice.ensures.items in
    on_ok_weaker c.add_number.result
    (λ added. (codes "WebAssembly of version " ++ n, added ∙ ap (λ (z : List ℕ). z ++ n) front ∙ simp append_assoc, rw v.6 (IsKind.other_version v.0 v.1 v.2 v.3 v.5)))
    c.add_number.ensures
