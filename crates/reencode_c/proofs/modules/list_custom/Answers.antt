use Rattle.std.proofs.Common.{refl}
use Rattle.wasm_shapes.specs.Module.{custom_tree_of}
use Rattle.wasm_shapes.specs.Tree.{Tree}
use Rattle.reencode_c.proofs.ModulesPlaced.{of_custom}
use Rattle.reencode_c.proofs.RowsPlaced.{listed_at}
use Rattle.reencode_c.proofs.Runs.{listed_walk}
use Rattle.reencode_c.proofs.modules.list_custom.Goals as goal

pub returns-in-Ok-parse_custom_section : goal.returns-in-Ok-parse_custom_section
returns-in-Ok-parse_custom_section c =
    let gives = c.in-Ok-parse_custom_section.ensures.default refl in
    let read = gives.readable.1 in
    let whole = custom_tree_of (Tree.pair (Tree.name c.args.section.name.now) read.0) in
    let made = gives.reading whole (read.0, refl, read.2) in
    of_custom c.args.section.name.now c.args.section.contents.now c.args.lister.now c.parse_custom_section.new.self read.0 read.2
    (listed_at whole c.args.lister.now c.move_to.new.self c.parse_custom_section.new.self c.move_to.ensures c.nowhere.ensures (listed_walk _ _ _ whole made.0 made.2))
