use Rattle.std.proofs.Common.{◌≡◌, ℕ, suc, ◌+◌, ◌-◌, List, ◌++◌, length, refl, sym, ap, ◌∙◌, arith}
use Rattle.std.proofs.lemmas.Result.{err_from_is_err_and, on_ok_weaker}
use Rattle.wasm_strip.proofs.Adding.{added_begin, added_more, cut_at, fails_behind, section_fails}
use Rattle.wasm_strip.specs.Binaries.{sized}
use Rattle.wasm_strip.proofs.OneSection.{eight, some_left, custom_goes, custom_sorted, custom_stays, in_front, fails_within, nested_fits, nested_stays, no_header, none_begins, other_stays, too_deep}
use Rattle.wasm_strip.proofs.sections.+sections.Goals as goal

pub add_numbered-returns-in_default-clause-ok : goal.add_numbered-returns-in_default-clause-ok
add_numbered-returns-in_default-clause-ok g t c = on_ok_weaker c.add_bytes.result (λ added. other_stays c.requires.framed c.in_default.ensures added) c.add_bytes.ensures.ok

pub add_numbered-returns-then-depth-eq0-clause-err :
    goal.add_numbered-returns-then-depth-eq0-clause-err
add_numbered-returns-then-depth-eq0-clause-err g t c = too_deep c.requires.framed c.in-Some.ensures c.if-depth-eq0.true

pub add_numbered-returns-in_default-behind_header-clause-err :
    goal.add_numbered-returns-in_default-behind_header-clause-err
add_numbered-returns-in_default-behind_header-clause-err g t c =
    let deeper : c.args.depth ≡ suc (c.args.depth - 1) = omega (arith, c.if-depth-eq0.false) in
    no_header c.requires.framed c.in-Some.ensures deeper c.in_default-behind_header.ensures.none

pub add_numbered-returns-in_err-add_sections-clause-err :
    goal.add_numbered-returns-in_err-add_sections-clause-err
add_numbered-returns-in_err-add_sections-clause-err g t c =
    let deeper : c.args.depth ≡ suc (c.args.depth - 1) = omega (arith, c.if-depth-eq0.false) in
    let p = err_from_is_err_and c.from_residual-in_err-add_sections.result c.from_residual-in_err-add_sections.ensures.1 in
    rw (p.1, p.2) (fails_within c.args.at c.args.depth (c.args.depth - 1) c.args.id _ c.args.kind c.in-Some.inside c.args.body.now c.in-Some-behind_header.rest.now c.args.text.now c.in_err-add_sections.field-0.0
    c.requires.framed c.in-Some-behind_header.ensures.some c.in-Some.ensures deeper (ap (λ (n : ℕ). c.args.at + (length c.args.text.now - length c.args.body.now) + n) (eight c.in-Some.inside))
    c.in_err-add_sections.ensures.err)

pub add_numbered-add_sized-requires : goal.add_numbered-add_sized-requires
add_numbered-add_sized-requires g t c =
    rw c.deref.ensures.value (nested_fits c.requires.framed c.in-Some-behind_header.ensures.some (rw c.in_ok-inner.ensures.ok at c.in_ok-add_sections.ensures.ok))

pub add_numbered-returns-clause-ok : goal.add_numbered-returns-clause-ok
add_numbered-returns-clause-ok g t c =
    let deeper : c.args.depth ≡ suc (c.args.depth - 1) = omega (arith, c.if-depth-eq0.false) in
    let inner = rw c.in_ok-inner.ensures.ok at c.in_ok-add_sections.ensures.ok in
    on_ok_weaker c.add_sized.result (λ added. nested_stays c.requires.framed c.in-Some-behind_header.ensures.some c.in-Some.ensures deeper inner
    (added ∙ ap (λ (z : List ℕ). c.args.out.now.items ++ sized c.args.id z) c.deref.ensures.value)) c.add_sized.ensures.ok

pub add_section-returns-then-removes-clause-ok : goal.add_section-returns-then-removes-clause-ok
add_section-returns-then-removes-clause-ok g t c = custom_goes (rw c.in-Custom.is at c.requires.framed) (c.if-removes.ensures.0 refl)

pub add_section-add_in_order-requires-clause-cut : goal.add_section-add_in_order-requires-clause-cut
add_section-add_in_order-requires-clause-cut g t c = in_front (rw c.in-Custom.is at c.requires.framed)

pub add_section-returns-then-sorts_names-clause-ok : goal.add_section-returns-then-sorts_names-clause-ok
add_section-returns-then-sorts_names-clause-ok g t c =
    let names = c.if-sorts_names.ensures.0 refl in
    on_ok_weaker c.add_in_order.result (λ added. custom_sorted (rw c.in-Custom.is at c.requires.framed) (λ gone. let never = c.if-removes.ensures.1 gone in cc) names.0 names.1 added)
    c.add_in_order.ensures.ok

pub add_section-returns-else-sorts_names-clause-ok : goal.add_section-returns-else-sorts_names-clause-ok
add_section-returns-else-sorts_names-clause-ok g t c =
    on_ok_weaker c.add_bytes.result (λ added. custom_stays (rw c.in-Custom.is at c.requires.framed) (λ gone. let never = c.if-removes.ensures.1 gone in cc)
    (λ names. let never = c.if-sorts_names.ensures.1 names in cc) added) c.add_bytes.ensures.ok

pub add_sections-sections-init : goal.add_sections-sections-init
add_sections-sections-init g t c = added_begin _ _ _ _ _ _

pub add_sections-returns-in_default-clause-err : goal.add_sections-returns-in_default-clause-err
add_sections-returns-in_default-clause-err g t c = fails_behind _ _ _ _ c.sections.invariant refl (none_begins (some_left (sym c.sections-test.ensures)) c.in_default.ensures.none)

pub add_sections-returns-in_err-add_section-clause-err :
    goal.add_sections-returns-in_err-add_section-clause-err
add_sections-returns-in_err-add_section-clause-err g t c =
    let there = c.in-Some.ensures.some in
    let p = err_from_is_err_and c.from_residual.result c.from_residual.ensures.1 in
    rw (p.1, p.2) (section_fails _ _ _ _ c.args.at _ _ _ c.in_err-add_section.field-0.0 c.sections.invariant refl (cut_at there c.split_at.ensures.front) c.in_err-add_section.ensures.err)

pub add_sections-sections-preserved : goal.add_sections-sections-preserved
add_sections-sections-preserved g t c =
    let there = c.in-Some.ensures.some in
    added_more _ _ _ _ c.sections.invariant (cut_at there c.split_at.ensures.front) c.in_ok-add_section.ensures.ok
