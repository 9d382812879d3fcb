use Rattle.std.proofs.Common.{◌≡◌, ◌+◌, ◌++◌, length, arith, length-append}
use Rattle.wasm_leb.specs.Leb.{leb}
use Rattle.wasm_shapes.specs.Tree.{normal}
use Rattle.wasm_shapes.specs.Types.{rows_tree}
use Rattle.wasm_shapes.specs.Component.{component_names_name}
use Rattle.wasm_write_component.proofs.ComponentNameRows.{name_length}
use Rattle.wasm_write_component.proofs.names.ComponentNameSectionSection.known_len.Goals as goal

pub returns : goal.returns
returns c =
    let rows = normal (rows_tree c.args.self.now.rows) in
    let held = rw c.self.view_is at c.as_slice.ensures.value in
    let len : length ((leb 14 ++ component_names_name) ++ rows) ≡ length rows + 15 = omega (arith, length-append (leb 14 ++ component_names_name) rows, name_length) in
    rw len (rw (← held) (grind (arith, c.checked_add.ensures)))
