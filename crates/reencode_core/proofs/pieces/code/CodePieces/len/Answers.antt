use Rattle.std.proofs.Common.{sym}
use Rattle.wasm_write.proofs.Holding.{held_length}
use Rattle.reencode_core.proofs.pieces.code.CodePieces.len.Goals as goal

pub returns : goal.returns
returns c = rw (← c.self.view_is) (sym (held_length c.self.inside.held))
