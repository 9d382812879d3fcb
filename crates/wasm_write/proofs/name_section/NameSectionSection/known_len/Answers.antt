use Rattle.std.proofs.Common.{◌≡◌, ◌+◌, ◌++◌, length, arith, length-append}
use Rattle.wasm_leb.specs.Leb.{leb}
use Rattle.wasm_shapes.specs.Tree.{normal}
use Rattle.wasm_shapes.specs.Types.{rows_tree}
use Rattle.wasm_shapes.specs.Module.{names_name}
use Rattle.wasm_write.proofs.name_section.NameSectionSection.known_len.Goals as goal

pub returns : goal.returns
returns c =
    let rows = normal (rows_tree c.args.self.now.rows) in
    let held = rw c.self.view_is at c.as_slice.ensures.value in
    let len : length ((leb 4 ++ names_name) ++ rows) ≡ length (leb 4) + 4 + length rows = omega (arith, length-append (leb 4 ++ names_name) rows, length-append (leb 4) names_name) in
    rw len (rw held at c.named_len.ensures)
