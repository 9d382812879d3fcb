use Rattle.std.proofs.Common.{refl}
use Rattle.wasm_shapes.specs.Tree.{Tree}
use Rattle.reencode_c.proofs.Runs.{listed_walk}
use Rattle.reencode_c.proofs.rows.list_body.Goals as goal

pub returns-in-Ok : goal.returns-in-Ok
returns-in-Ok c =
    let gives = c.in-Ok.ensures.default refl in
    let read = gives.readable in
    let made = gives.reading read.0 read.1 in
    (read.0, read.1, listed_walk _ _ _ (Tree.sized read.0) made.0 made.1)
