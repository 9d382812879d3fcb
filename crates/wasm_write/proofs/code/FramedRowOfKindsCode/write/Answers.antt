use Rattle.std.proofs.Common.{◌++◌, ◌<◌, ◌^◌, length, ap, sym, ◌∙◌}
use Rattle.wasm_shapes.specs.Tree.{normal}
use Rattle.wasm_write.specs.Bodies.{function_body, held_body}
use Rattle.wasm_write.proofs.HoldingBodies.{body_normal, body_spells, framed_spells, row_normal}
use Rattle.wasm_write.proofs.code.FramedRowOfKindsCode.write.Goals as goal

pub returns-in-Ok-clause-ok : goal.returns-in-Ok-clause-ok
returns-in-Ok-clause-ok c =
    let row = c.args.self.now in
    c.in-Ok.ensures.ok ∙ ap (λ z. c.args.out.now.items ++ z) (sym (row_normal row.held))

pub returns-in-Ok-clause-spells : goal.returns-in-Ok-clause-spells
returns-in-Ok-clause-spells c =
    let row = c.args.self.now in
    let short : length (normal (function_body (held_body row.body.now row.held))) < 2 ^ 32 = rw (body_normal row.held) row.short in
    framed_spells (held_body row.body.now row.held) short (body_spells row.held)
