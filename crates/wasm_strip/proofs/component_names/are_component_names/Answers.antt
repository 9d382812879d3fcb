use Rattle.std.proofs.Common.{refl, sym}
use Rattle.wasm_shapes.specs.Component.{component_name_subsection}
use Rattle.wasm_strip.proofs.NameRows.{same, subsection_missing, subsection_read, subsection_shrinks, subsections_ended}
use Rattle.wasm_strip.proofs.OneSection.{none_left, some_left}
use Rattle.wasm_strip.proofs.component_names.are_component_names.Goals as goal

pub subsections-init : goal.subsections-init
subsections-init c = same

pub subsections-smaller : goal.subsections-smaller
subsections-smaller c = subsection_shrinks component_name_subsection refl c.in-Some.ensures.some.1

pub subsections-preserved : goal.subsections-preserved
subsections-preserved c = subsection_read component_name_subsection refl refl (some_left (sym c.subsections-test.ensures)) c.subsections.invariant c.in-Some.ensures.some.1

pub returns-in-None : goal.returns-in-None
returns-in-None c = subsection_missing component_name_subsection (some_left (sym c.subsections-test.ensures)) c.subsections.invariant c.in-None.ensures.none

pub returns : goal.returns
returns c = subsections_ended component_name_subsection c.subsections.invariant (none_left (sym c.subsections-test.ensures))
