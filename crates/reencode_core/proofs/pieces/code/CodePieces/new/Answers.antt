use Rattle.std.proofs.Common.{List, ap, ap₂}
use Rattle.wasm_shapes.specs.Module.{code_row}
use Rattle.wasm_shapes.specs.Tree.{Tree}
use Rattle.wasm_write.proofs.Holding.{held_none, held_none_is}
use Rattle.reencode_core.specs.Pieces.{Grown}
use Rattle.reencode_core.specs.Sinks.{CodeGrown, code_sound}
use Rattle.reencode_core.proofs.pieces.code.CodePieces.new.Goals as goal

pub invariant_of-result : goal.invariant_of-result
invariant_of-result c = (held_none code_row (ap Grown.bytes c.with_room.ensures), tt)

pub returns : goal.returns
returns c =
    let made : Grown → List Tree → CodeGrown = λ g z. record { input = g.input; code = record { ceiling = c.args.ceiling; rows = z }; kept = g.kept } in
    ap₂ made c.with_room.ensures (held_none_is code_row code_sound _ (ap Grown.bytes c.with_room.ensures))
