-- Readings of core modules: what bytes are read as, in which frames sections stand, and where a fault is (WebAssembly Core
-- Specification 3.0, section 5.5).
use Rattle.std.specs.Prelude.{◌≡◌, ◌≢◌, ◌⊎◌, ℕ, ◌≤◌, List, [], ◌++◌}
use Rattle.wasm_shapes.specs.declared.SectionId.{SectionId}
use Rattle.wasm_shapes.specs.Tree.{Tree}
use Rattle.wasm_shapes.specs.Spells.{Spells}
use Rattle.wasm_shapes.specs.Place.{BeginsNone}
use Rattle.wasm_shapes.specs.SectionTable.{number}
pub use Rattle.wasm_shapes.specs.Sections.{core_header, component_header, function_row, single_import, compact_item, compact_rows, unnamed, import_row, table_row, global_row, export_row, element_functions, element_expressions, element_row, data_row, local_row, body, code_row, types, imports, functions, tables, memories, globals, tags, exports, start, elements, code, segments, data_count, in_force, plain_naming, naming_row, indirect_row, subsection, name_rows, name_subsection, names, names_name, custom, custom_section, unknown_section, section_with, section, sections, body_of, row_of, tree_of, custom_tree_of, unknown_tree_of, alsos, headed, headed_tree, core_module, single_module, core_tree, frame, numbered_frame, custom_frame}

-- the bytes are the header of a core module and these sections, one behind another
pub record CoreReading (bytes : List ℕ) (t : Tree) : Type 0 where
  pub rest : List ℕ
  pub stands : bytes ≡ core_header ++ rest
  pub spells : Spells sections rest t

-- they are no core module
abbrev pub NoCoreReading : List ℕ → Type 0
NoCoreReading bytes = (t : Tree) → CoreReading bytes t → ⊥

-- what the contents of a custom section of this name are read as: of a name section, its subsections; else they are themselves
abbrev pub ReadsContents : List ℕ → List ℕ → Tree → Type 0
ReadsContents name contents u = ((name ≡ names_name) × Spells names contents u) ⊎ ((name ≢ names_name) × (u ≡ Tree.raw contents))

-- the tree is what a custom section is read as
abbrev pub ReadsCustom : List ℕ → List ℕ → Tree → Type 0
ReadsCustom name contents t = (u : Tree) × (t ≡ custom_tree_of (Tree.pair (Tree.name name) u)) × ReadsContents name contents u

-- A section and the frame that it stands in: of a known kind, a custom one, or one of another id.
pub data InFrame : Tree → Tree → Type 0 where
  of_kind : (k : SectionId) (u : Tree) (body : List ℕ) → 1 ≤ number k → Spells (body_of k) body u → InFrame (tree_of k u) (numbered_frame (number k) body)
  of_custom : (name contents : List ℕ) (u : Tree) → ReadsContents name contents u → InFrame (custom_tree_of (Tree.pair (Tree.name name) u)) (custom_frame name contents)
  of_unknown : (id : ℕ) (contents : List ℕ) → 14 ≤ id → id ≤ 127 → InFrame (unknown_tree_of id contents) (numbered_frame id contents)

-- The front of some bytes: the sections that stand behind the header side by side, up to the first place where none begins.
pub record Front (bytes : List ℕ) (before : List Tree) (rest : List ℕ) : Type 0 where
  pub text : List ℕ
  pub spells : Spells sections text (alsos before Tree.finish)
  pub stands : bytes ≡ core_header ++ (text ++ rest)
  pub ends : BeginsNone section rest

-- The same where bytes are left: no section begins there, and that is the fault's place.
pub record FaultAt (bytes : List ℕ) (before : List Tree) (rest : List ℕ) : Type 0 where
  pub front : Front bytes before rest
  pub some : rest ≡ [] → ⊥
