-- The names of a component, as contracts see them.
use Rattle.std.specs.Prelude.{ℕ, List, [], ◌∷◌}
use Rattle.wasm_shapes.specs.Component.{component_custom, component_names_name, core_sort}
use Rattle.wasm_shapes.specs.Spells.{Spells}
use Rattle.wasm_shapes.specs.Tree.{Tree, normal}
use Rattle.wasm_shapes.specs.Types.{rows_tree}
use Rattle.wasm_write_component.specs.declared.names.Sort.{Sort}
use Rattle.wasm_write_component.specs.declared.names.Sort.TheVariants as sort

-- the body of the section: its name, and its subsections
abbrev pub component_name_section_tree : List Tree → Tree
component_name_section_tree rows = Tree.pair (Tree.name component_names_name) (rows_tree rows)

-- it reads back as it is
abbrev pub ComponentNamesSpell : List Tree → Type 0
ComponentNamesSpell rows = ∥ Spells component_custom (normal (component_name_section_tree rows)) (component_name_section_tree rows) ∥₁

-- the bytes of a sort
abbrev pub bytes_of_sort : Sort → List ℕ
bytes_of_sort (sort.Core b) = core_sort b
bytes_of_sort (sort.Own b) = b ∷ []
