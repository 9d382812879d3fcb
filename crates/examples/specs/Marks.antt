-- Marks behind the sections of a kind.
use Rattle.std.specs.Prelude.{ℕ, List, [], ◌∷◌, nat_eq, if◌then◌else◌}
use Rattle.wasm_shapes.specs.declared.SectionId.{SectionId}
use Rattle.wasm_shapes.specs.declared.Visit.{Visit}
use Rattle.wasm_shapes.specs.SectionTable.{number}
use Rattle.wasm_shapes.specs.Tree.{normal}
use Rattle.wasm_write.specs.Rows.{custom_tree}
use Rattle.wasm_write.specs.Sections.{SectionRow, section_row}
use Rattle.reencode_hooks.specs.Hooks.{at_section}

-- a custom section of this name and these contents
abbrev pub custom_row : List ℕ → List ℕ → SectionRow
custom_row name contents = section_row 0 (normal (custom_tree name contents))

-- this section for one of the kind, and none for another
abbrev pub of_kind : SectionId → SectionRow → SectionId → List SectionRow
of_kind kind row k = if nat_eq (number k) (number kind) then row ∷ [] else []

-- this section directly behind each of the kind, and nothing else
abbrev pub marked : SectionId → SectionRow → Visit → List SectionRow
marked kind row = at_section (λ _ _. []) (of_kind kind row)
