use Rattle.std.proofs.Common.{refl}
use Rattle.wasm_shapes.specs.Component.{instance_declaration}
use Rattle.wasm_write.proofs.Holding.{OnOk-map}
use Rattle.wasm_write_component.proofs.TypeSpelling.{choice_spelled}
use Rattle.wasm_write_component.proofs.type_rows.InstanceTypeDeclarationRowOfOfComponent_kindsInstanceDeclarations.write.Goals as goal

pub returns-in-CoreType-clause-spells : goal.returns-in-CoreType-clause-spells
returns-in-CoreType-clause-spells c =
    rw c.in-CoreType.is (OnOk-map c.write_behind.result c.write_behind.ensures.spells (λ p. choice_spelled instance_declaration 0 0x00 refl p))

pub returns-in-Type_-clause-spells : goal.returns-in-Type_-clause-spells
returns-in-Type_-clause-spells c =
    rw c.in-Type_.is (OnOk-map c.write_behind-in-Type_.result c.write_behind-in-Type_.ensures.spells (λ p. choice_spelled instance_declaration 1 0x01 refl p))

pub returns-in-Alias-clause-spells : goal.returns-in-Alias-clause-spells
returns-in-Alias-clause-spells c =
    rw c.in-Alias.is (OnOk-map c.write_behind-in-Alias.result c.write_behind-in-Alias.ensures.spells (λ p. choice_spelled instance_declaration 2 0x02 refl p))

pub returns-in-Export-clause-spells : goal.returns-in-Export-clause-spells
returns-in-Export-clause-spells c =
    rw c.in-Export.is (OnOk-map c.write_behind-in-Export.result c.write_behind-in-Export.ensures.spells (λ p. choice_spelled instance_declaration 3 0x04 refl p))
