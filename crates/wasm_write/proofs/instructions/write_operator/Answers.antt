use mathlib.Core.Logic.{∥∥₁_map}
use Rattle.wasm_write.proofs.Holding.{OnOk-map}
use Rattle.wasm_write.proofs.InstructionShapes.{opcode_byte_of, kinds_each_of, instruction_spelled}
use Rattle.wasm_write.proofs.instructions.write_operator.Goals as goal

pub write_opcode-requires : goal.write_opcode-requires
write_opcode-requires c = opcode_byte_of c.args.opcode _ c.requires

pub write_imms-requires : goal.write_imms-requires
write_imms-requires c = kinds_each_of c.args.opcode c.args.imms.now c.requires

pub returns-in-Ok-clause-spells : goal.returns-in-Ok-clause-spells
returns-in-Ok-clause-spells c =
    OnOk-map c.write_imms.result c.write_imms.ensures.in_range (λ r.
    ∥∥₁_map c.requires (λ h. instruction_spelled (record { opcode = c.args.opcode; imms = c.args.imms.now }) h c.in-Ok.ensures.in_range r))
