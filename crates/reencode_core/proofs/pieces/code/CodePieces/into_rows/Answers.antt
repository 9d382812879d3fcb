use Rattle.std.proofs.Common.{sym}
use Rattle.wasm_write.proofs.Holding.{held_length, held_normal}
use Rattle.reencode_core.proofs.pieces.code.CodePieces.into_rows.Goals as goal

pub returns-clause-bytes : goal.returns-clause-bytes
returns-clause-bytes c = rw (← c.self.view_is, held_length c.self.inside.held) (sym (held_normal c.self.inside.held))
