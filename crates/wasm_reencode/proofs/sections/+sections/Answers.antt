use Rattle.std.proofs.Common.{List, ◌++◌, ap, ◌∙◌}
use Rattle.wasm_reencode.specs.declared.sections.Section.{Section}
use Rattle.wasm_reencode.proofs.ListedSections.{listed_all, listed_cut, listed_last, listed_more}
use Rattle.wasm_reencode.proofs.sections.+sections.Goals as goal

pub add_sections-returns-in_default : goal.add_sections-returns-in_default
add_sections-returns-in_default t c = listed_all c.args.place c.sections.invariant c.in_default.ensures.none

pub add_sections-returns-in_default-frame : goal.add_sections-returns-in_default-frame
add_sections-returns-in_default-frame t c =
    listed_cut c.args.place c.sections.invariant c.in-Some.ensures.some c.in_default-frame.is c.in_ok-push.ensures.items

pub add_sections-sections-preserved : goal.add_sections-sections-preserved
add_sections-sections-preserved t c =
    let inner = c.in_ok-add_inner.ensures in
    listed_more c.args.place _ c.sections.invariant c.in-Some.ensures.some c.in-Some-frame.is inner.2
    (inner.1 ∙ ap (λ (z : List Section). z ++ inner.0) c.in_ok-push.ensures.items)

pub add_sections-returns : goal.add_sections-returns
add_sections-returns t c = listed_last c.args.place c.sections.invariant c.sections-test.false
