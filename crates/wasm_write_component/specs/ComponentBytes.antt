-- The bytes of a component under construction.
use Rattle.std.specs.Prelude.{ℕ, List, ◌++◌}
use Rattle.wasm_shapes.specs.Module.{component_header}
use Rattle.wasm_write.specs.Sections.{SectionRow, sections_bytes}

-- the header and the sections
abbrev pub component_bytes : List SectionRow → List ℕ
component_bytes rows = component_header ++ sections_bytes rows
