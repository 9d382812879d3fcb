use Rattle.std.proofs.Common.{refl}
use Rattle.wasm_shapes.specs.Shape.{Named}
use Rattle.wasm_shapes.specs.Component.{core_type_rows}
use Rattle.wasm_write.proofs.Holding.{OnOk-map}
use Rattle.wasm_write_component.proofs.TypeSpelling.{choice_spelled, group_spelled, named_spelled}
use Rattle.wasm_write_component.proofs.type_rows.CoreTypeRowOfOfComponent_kindsCoreTypes.write.Goals as goal

pub returns-in-Rec-clause-spells : goal.returns-in-Rec-clause-spells
returns-in-Rec-clause-spells c = rw c.in-Rec.is (OnOk-map c.write_core_group.result c.write_core_group.ensures.in_range (group_spelled c.in-Rec.group))

pub returns-in-Ok-clause-spells : goal.returns-in-Ok-clause-spells
returns-in-Ok-clause-spells c = rw c.in-Module.is (named_spelled Named.core_type (choice_spelled core_type_rows 0 0x50 refl c.in-Ok.ensures.spells))
