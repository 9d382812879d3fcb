use Rattle.std.proofs.Common.{length}
use Rattle.reencode_core.proofs.names_mapped.SubsectionLoop.{NamesKept}
use Rattle.reencode_component.specs.ComponentNames.{component_names}
use Rattle.reencode_component.proofs.component_methods.ReencodeComponent.custom_component_name_section.Given as goal

-- the subsections so far are walked and added
abbrev pub invariant-rows : goal.invariant-rows
invariant-rows g l = NamesKept component_names g.Self.ReencodeIndices l.fn.ceiling l.initial.rows l.initial.self l.rows l.self l.names

abbrev pub decreases-rows : goal.decreases-rows
decreases-rows g l = length l.rows.rest
