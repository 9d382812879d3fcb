use Rattle.std.proofs.Common.{◌≡◌, ◌+◌, List, Bor, ℕ, [], ◌∷◌, ◌++◌, sym, ap, subst}
use Rattle.wasm_reencode.proofs.StaleNames.{NamesSoFar, names_all, names_begin, names_deduped, names_ordered, names_permuted, names_push, names_read, names_skip}
use Rattle.wasm_reencode.proofs.stale.stale_names.Goals as goal
use Rattle.wasm_reencode.proofs.stale.stale_names.Goals.{in-Some+in_ok-push, in_default}

pub sections-init : goal.sections-init
sections-init c = rw c.new-names.ensures.items (names_begin c.args.sections.now)

pub sections-preserved : goal.sections-preserved
sections-preserved c =
    let sections = c.args.sections.now in
    let i = c.sections.section-index in
    let P : List (Bor (List ℕ)) → Type 0 = λ z. NamesSoFar sections (i + 1) z in
    elim c.match-stale_name.branch [
      | in-Some+in_ok-push w ↦
          let grown : c.match-stale_name.names.items ≡ c.sections.names.items ++ w.in-Some.name ∷ [] = cc (w.names-is, w.in_ok-push.ensures.items) in
          let stale = w.in-Some.ensures.some in
          subst P (sym grown) (names_push sections i _ c.sections-test.true w.in-Some.name c.sections.invariant stale.0 stale.1)
      | in_default w ↦ subst P (ap (λ v. v.items) (sym w.names-is)) (names_skip sections i _ c.sections-test.true c.sections.invariant w.in_default.ensures.none)
    ]

pub returns : goal.returns
returns c =
    let found = names_all c.args.sections.now c.sections.section-index c.sections-test.false c.sections.auto.section-index-end c.sections.invariant in
    names_read _ (names_deduped _ _ c.dedup.ensures.filtered (names_permuted _ _ c.sort.ensures.permutation found))
    (names_ordered _ _ c.dedup.ensures.filtered c.in_ok-sort.ensures.sorted)
