use Rattle.std.proofs.Common.{refl, arith}
use Rattle.wasm_shapes.specs.Component.{module_declaration}
use Rattle.wasm_write.proofs.Holding.{OnOk-map}
use Rattle.wasm_write_component.proofs.TypeSpelling.{choice_spelled, entity_spelled, outer_spelled, single_spelled}
use Rattle.wasm_write_component.proofs.type_rows.ModuleTypeDeclarationRowOfOfComponent_kindsModuleDeclarations.write.Goals as goal

pub returns-in-Import-clause-spells : goal.returns-in-Import-clause-spells
returns-in-Import-clause-spells c =
    rw c.in-Import.is (OnOk-map c.write_behind.result c.write_behind.ensures.spells (λ p. choice_spelled module_declaration 0 0x00 refl (single_spelled c.in-Import.import p)))

pub returns-in-Type_-clause-spells : goal.returns-in-Type_-clause-spells
returns-in-Type_-clause-spells c =
    rw c.in-Type_.is (OnOk-map c.write_behind-in-Type_.result c.write_behind-in-Type_.ensures.spells (λ p. choice_spelled module_declaration 1 0x01 refl p))

pub returns-in-Ok-clause-spells : goal.returns-in-Ok-clause-spells
returns-in-Ok-clause-spells c = rw c.in-OuterAlias.is (outer_spelled c.in-OuterAlias.count c.in-OuterAlias.index (omega arith) (omega arith))

pub returns-in-Export-clause-spells : goal.returns-in-Export-clause-spells
returns-in-Export-clause-spells c =
    rw c.in-Export.is (OnOk-map c.write_entity.result c.write_entity.ensures.in_range (entity_spelled c.in-Export.name c.in-Export.ty))
