use Rattle.std.proofs.Common.{◌<◌, ◌^◌, ◌∷◌, [], ℕ, arith, subst, sym}
use Rattle.wasm_shapes.specs.Operators.{code_from}
use Rattle.wasm_shapes.specs.Fits.{CodeInRange}
use Rattle.wasm_types.specs.declared.types.Imm.TheVariants as imm
use Rattle.wasm_write.specs.Instructions.{Parts}
use Rattle.wasm_write.proofs.Holding.{OnOk-of}
use Rattle.wasm_write.proofs.InstructionShapes.{instruction_spelled, opcode_byte_of}
use Rattle.wasm_write.proofs.instructions.write_index_operator.Goals as goal

pub returns-then-index-clause-spells : goal.returns-then-index-clause-spells
returns-then-index-clause-spells c =
    let i : Parts = record { opcode = c.args.opcode; imms = imm.Index c.args.space c.args.index ∷ [] } in
    let P : ℕ → Type 0 = λ p. CodeInRange (code_from p c.args.opcode.sub) in
    let code : P c.args.opcode.prefix = subst P (sym c.if-opcode-eq0.true) tt in
    let small : c.args.index < 2 ^ 32 = omega (arith, c.if-index.true) in
    OnOk-of c.write_short.result ∣ instruction_spelled i c.requires code (small, tt) ∣₁

-- the opcode has a row, so that of one byte is below 256
pub overflow_cast-opcode : goal.overflow_cast-opcode
overflow_cast-opcode c =
    let small : c.args.opcode.sub < 256 = opcode_byte_of c.args.opcode _ ∣ c.requires ∣₁ c.if-opcode-eq0.true in
    omega (arith, small)
