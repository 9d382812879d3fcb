use Rattle.std.proofs.Common.{refl, ◌∙◌}
use Rattle.wasm_shapes.proofs.Begins.{none_at_end, none_here}
use Rattle.wasm_strip.proofs.SortedRows.{subsection_leads}
use Rattle.wasm_strip.proofs.sorting.SubsectionsSortedRow.front.Goals as goal

pub returns-in_default-clause-none : goal.returns-in_default-clause-none
returns-in_default-clause-none c = none_here c.in_default.ensures.none (none_at_end refl)

pub returns-in-Some-behind_subsection-clause-some :
    goal.returns-in-Some-behind_subsection-clause-some
returns-in-Some-behind_subsection-clause-some c = let there = c.in-Some-behind_subsection.ensures.some in (there.0, there.1, c.from.ensures ∙ subsection_leads there.1 c.in-Some.ensures.some)
