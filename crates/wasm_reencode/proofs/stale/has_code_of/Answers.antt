use Rattle.std.proofs.Common.{ℕ, Bool, Bor, List, ap₂, bytes_eq, inr, subst, ◌∙◌}
use Rattle.std.specs.Cmp.Lexicographic.{pointwise}
use Rattle.wasm_reencode.specs.declared.sections.Section.{Section}
use Rattle.wasm_reencode.specs.Stale.{AreCode}
use Rattle.wasm_reencode.proofs.CodeBodies.{read, tells_same}
use Rattle.wasm_reencode.proofs.stale.has_code_of.Goals as goal

abbrev same : List (Bor (List ℕ)) → List (Bor (List ℕ)) → Bool
same xs ys = pointwise (λ (x y : Bor (List ℕ)). bytes_eq x.now y.now) xs ys

pub returns-in_ok-others-in-Some : goal.returns-in_ok-others-in-Some
returns-in_ok-others-in-Some c =
    let found = rw c.in-Some.is at c.in_ok-others.ensures.some in
    let code = c.in_ok-code-in-Some.code.items in
    let others = c.in_ok-others-in-Some.others.items in
    let P : List Section → Type 0 = λ z. AreCode z (read others) in
    inr (
      read code,
      read others,
      c.in_ok-code-in-Some.ensures,
      (found.0, found.1, c.in-Some.others.items, found.2, found.3, subst P c.as_slice.ensures.value c.in_ok-others-in-Some.ensures),
      tells_same code others c.eq.result (c.eq.ensures ∙ ap₂ same c.as_slice-in-Some.ensures.value c.as_slice-in-Some-2.ensures.value),
    )
