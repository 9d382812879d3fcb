use Rattle.std.proofs.Common.{[]}
use Rattle.reencode_component.proofs.types_walked.TypesStanding.{type_row}
use Rattle.reencode_component.proofs.component_types.ROfKindsComponentTypesMapScopedRowWOfKindsComponentTypesRComponentType.map_row.Goals as goal

pub returns-in-Some : goal.returns-in-Some
returns-in-Some g c = λ depth t stands low. c.add_scoped_type.ensures t [] (c.in-Some.ensures depth t stands low)

pub returns-in-None : goal.returns-in-None
returns-in-None g c = type_row g.T.ReencodeIndices _ _ c.args.row _ _ _ c.add_type.ensures
