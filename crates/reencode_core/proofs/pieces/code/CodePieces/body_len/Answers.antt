use Rattle.std.proofs.Common.{length, ap, ◌∙◌, length-append, arith}
use Rattle.wasm_leb.specs.Leb.{leb}
use Rattle.wasm_write.proofs.Holding.{held_normal}
use Rattle.reencode_core.proofs.pieces.code.CodePieces.body_len.Goals as goal

pub returns-in-Some : goal.returns-in-Some
returns-in-Some c =
    let whole = ap length (held_normal c.self.inside.held) ∙ length-append (leb c.self.inside.count) c.self.inside.pieces.bytes in
    rw (← c.self.view_is) (omega (arith, whole, c.len.ensures, c.len_u32.ensures.value, c.in-Some.ensures))
