use Rattle.std.proofs.Common.{refl}
use Rattle.wasm_shapes.specs.Tree.{Tree}
use Rattle.wasm_visits.proofs.Runs.{walked}
use Rattle.wasm_visits.proofs.rows.list_body.Goals as goal

pub returns-in-Ok : goal.returns-in-Ok
returns-in-Ok c =
    let gives = c.in-Ok.ensures.default refl in
    let read = gives.readable in
    let made = gives.reading read.0 read.1 in
    (read.0, read.1, walked _ _ _ (Tree.sized read.0) made.0 made.1)
