use Rattle.std.proofs.Common.{ℕ, ◌+◌, ◌≡◌, List, [], ◌∷◌, ◌++◌, map, drop, Bor, sym, ap, ◌∙◌, subst}
use Rattle.std.proofs.lemmas.List.{map-append}
use Rattle.wasm_reencode.proofs.CodeBodies.{CodeSoFar, code_last, code_step, other_step, read}
use Rattle.wasm_reencode.proofs.stale.code_of.Goals as goal
use Rattle.wasm_reencode.proofs.stale.code_of.Goals.{in-Some+in_ok-push, in_default}

pub sections-preserved : goal.sections-preserved
sections-preserved c =
    let P : List (Bor (List ℕ)) → Type 0 = λ z. CodeSoFar c.args.sections.now (drop (c.sections.section-index + 1) c.args.sections.now) (read z) in
    let i = c.sections.section-index in
    elim c.match-code.branch [
      | in-Some+in_ok-push w ↦
          let Q : List (List ℕ) → Type 0 = λ z. CodeSoFar c.args.sections.now (drop (i + 1) c.args.sections.now) z in
          let grown : read c.match-code.code.items ≡ read c.sections.code.items ++ w.in-Some.body.now ∷ [] =
          ap read (cc (w.code-is, w.in_ok-push.ensures.items)) ∙ map-append (λ body. body.now) c.sections.code.items (w.in-Some.body ∷ []) in
          subst Q (sym grown) (code_step c.args.sections.now i _ c.sections-test.true c.sections.invariant w.in-Some.ensures.some)
      | in_default w ↦ subst P (ap (λ v. v.items) (sym w.code-is)) (other_step c.args.sections.now i _ c.sections-test.true c.sections.invariant w.in_default.ensures.none)
    ]

pub returns : goal.returns
returns c = code_last c.args.sections.now c.sections.section-index c.sections-test.false c.sections.invariant
