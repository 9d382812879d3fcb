use Rattle.std.proofs.Common.{rules}
use Rattle.wasm_write.specs.Types.{custom_section_tree}
use Rattle.reencode_core.specs.NameFormats.{core_custom}
use Rattle.reencode_core.proofs.names_mapped.FormatLaws.{core_laws}
use Rattle.reencode_core.proofs.sections_walked.CustomSection.{names_added, names_not_added, other_added, other_not_mapped}
use Rattle.reencode_core.proofs.utils.parse_custom_section.Goals as goal

pub returns-in_err-names : goal.returns-in_err-names
returns-in_err-names g c = names_not_added core_custom core_laws g.T.ReencodeIndices _ _ (search rules) c.in_ok-rows.ensures.ok _ c.ceiling.ensures c.in_err-names.ensures _ c.from_residual-in_err-names.ensures.1

pub returns-in_ok-names : goal.returns-in_ok-names
returns-in_ok-names g c = names_added core_custom core_laws g.T.ReencodeIndices _ _ (search rules) c.in_ok-rows.ensures.ok _ _ c.ceiling.ensures c.in_ok-names.ensures c.add_section.ensures

pub returns-in_err-section : goal.returns-in_err-section
returns-in_err-section g c = other_not_mapped core_custom core_laws g.T.ReencodeIndices _ _ (λ e. search rules) custom_section_tree _ c.in_err-section.ensures.default c.in_err-section.ensures.sure _ c.from_residual-in_err-section.ensures.1

pub returns-in_ok-section : goal.returns-in_ok-section
returns-in_ok-section g c = other_added core_custom core_laws g.T.ReencodeIndices _ _ (λ e. search rules) custom_section_tree c.in_ok-section.section _ c.in_ok-section.ensures.default c.add_section-else-eq.ensures
