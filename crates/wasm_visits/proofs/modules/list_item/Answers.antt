use Rattle.std.proofs.Common.{refl}
use Rattle.wasm_shapes.specs.Module.{tree_of}
use Rattle.wasm_visits.proofs.Runs.{listed_at, walked}
use Rattle.wasm_visits.proofs.modules.list_item.Goals as goal

pub returns-in-Ok-parse_section : goal.returns-in-Ok-parse_section
returns-in-Ok-parse_section c =
    let gives = c.in-Ok-parse_section.ensures.default refl in
    let read = gives.readable.1 in
    let whole = tree_of c.args.id read.0 in
    let made = gives.reading whole (read.0, refl, read.2) in
    (read.0, read.2, listed_at whole c.args.id _ c.args.lister.now c.move_to.new.self c.parse_section.new.self c.move_to.ensures (walked _ _ _ whole made.0 made.2))
