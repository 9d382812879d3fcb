use Rattle.std.proofs.Common.{arith}
use Rattle.wasm_write.proofs.FramesFound.{body_there, code_found, rows_counted}
use Rattle.wasm_write.proofs.code.CodeSection.body.Goals as goal

pub returns-in-Some-clause-some : goal.returns-in-Some-clause-some
returns-in-Some-clause-some c =
    let e = c.as_slice.ensures in
    let rows = c.args.self.now.rows in
    body_there rows c.args.i _ c.in-Some.body.now e.spells (code_found rows c.args.i e.value e.spells c.in-Some.ensures)

pub returns-in-None-clause-none : goal.returns-in-None-clause-none
returns-in-None-clause-none c =
    let e = c.as_slice.ensures in
    let rows = c.args.self.now.rows in
    omega (arith, code_found rows c.args.i e.value e.spells c.in-None.ensures, rows_counted rows)
