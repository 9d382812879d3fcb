use Rattle.module_spaces.proofs.Ahead.{no_frame, no_header}
use Rattle.wasm_merge.proofs.Finding.{all_begun, all_kind, all_past, all_sought, custom_other, left_of, unknown_other}
use Rattle.wasm_merge.proofs.sections.bodies_by_kind.Goals as goal

pub returns-in_default : goal.returns-in_default
returns-in_default c = λ t r. absurd (no_header c.in_default.field-0 _ c.in_default.ensures.err t r)

pub sections-init : goal.sections-init
sections-init c = all_begun c.in-Ok.ensures.ok.stands

pub sections-preserved-in-Ok-Some-Section : goal.sections-preserved-in-Ok-Some-Section
sections-preserved-in-Ok-Some-Section c =
    all_kind _ _ c.sections.invariant (rw (c.in-Ok-Some-Section.field-0-is, c.in-Ok-Some-Section.field-0-0-is) at c.in-Ok-Some-Section.ensures.some) c.place-place.ensures.is
    c.with_section.ensures

pub sections-preserved-in-Ok-Some-Custom : goal.sections-preserved-in-Ok-Some-Custom
sections-preserved-in-Ok-Some-Custom c =
    all_past c.sections.invariant (rw (c.in-Ok-Some-Custom.field-0-is, c.in-Ok-Some-Custom.field-0-0-is) at c.in-Ok-Some-Custom.ensures.some) (λ k. custom_other k)

pub sections-preserved : goal.sections-preserved
sections-preserved c =
    all_past c.sections.invariant (rw (c.in-Ok-Some-Unknown.field-0-is, c.in-Ok-Some-Unknown.field-0-0-is) at c.in-Ok-Some-Unknown.ensures.some)
    (λ k. unknown_other k (rw (c.in-Ok-Some-Unknown.field-0-is, c.in-Ok-Some-Unknown.field-0-0-is) at c.in-Ok-Some-Unknown.ensures.unknown))

pub returns-in-Ok-None : goal.returns-in-Ok-None
returns-in-Ok-None c = all_sought c.sections.invariant (rw c.in-Ok-None.field-0-is at c.in-Ok-None.ensures.ended).0

pub returns-in-Err : goal.returns-in-Err
returns-in-Err c = λ t r. absurd (no_frame c.in-Err.field-0 _ _ c.in-Err.ensures.err (left_of c.sections.invariant t r).spells)
