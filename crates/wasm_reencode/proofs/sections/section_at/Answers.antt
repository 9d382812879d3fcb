use Rattle.wasm_reencode.specs.Sections.{IsAt}
use Rattle.wasm_reencode.proofs.Places.{behind_more, found, found_none}
use Rattle.wasm_reencode.proofs.sections.section_at.Goals as goal

pub returns-in_default : goal.returns-in_default
returns-in_default c = found_none c.sections.invariant c.in_default.ensures.none

pub returns-in_default-frame : goal.returns-in_default-frame
returns-in_default-frame c = found c.sections.invariant (IsAt.cut c.in-Some.ensures.some c.in_default-frame.is)

pub returns-then-place-start : goal.returns-then-place-start
returns-then-place-start c = found c.sections.invariant (IsAt.here _ c.in-Some.ensures.some c.in-Some-frame.is c.if-place-start.true)

pub sections-preserved : goal.sections-preserved
sections-preserved c = behind_more _ c.sections.invariant c.in-Some.ensures.some c.in-Some-frame.is c.if-place-start.false
