use Rattle.reencode_component.proofs.types_walked.CoreTypeCalls.{core_row_added}
use Rattle.reencode_component.proofs.scoped_sections.ROfKindsCoreTypesMapScopedRowWOfKindsCoreTypesRCoreType.map_row.Goals as goal

pub returns : goal.returns
returns g c = core_row_added g.T.ReencodeIndices _ _ c.args.row _ c.parse_component_core_type-row.ensures _ _ _ c.add_row.ensures
