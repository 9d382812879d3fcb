use Rattle.std.proofs.Common.{rules}
use Rattle.wasm_write.specs.Instructions.{instruction_tree}
use Rattle.reencode_items.proofs.Operators.{parse_mapped}
use Rattle.reencode_items.proofs.utils.parse_instruction.Goals as goal

pub returns : goal.returns
returns g c =
    let i = g.T.ReencodeIndices in
    record { taken = search rules; default = λ k. parse_mapped i.reply i.next c.args.reencoder.now c.instruction.new.self c.args.reader.now c.read.new.self instruction_tree _ c.instruction.result c.in_ok-operator.ensures.row (c.instruction.ensures.default k); after_error = search rules }
