-- Readings of components at a depth, which is the number of scopes that are open round them.
use Rattle.std.specs.Prelude.{◌≡◌, ◌≢◌, ◌⊎◌, ℕ, ◌≤◌, List, [], ◌++◌}
use Rattle.wasm_shapes.specs.Tree.{Tree}
use Rattle.wasm_shapes.specs.Rows.{rows_then}
use Rattle.wasm_shapes.specs.Spells.{Spells}
use Rattle.wasm_shapes.specs.Sections.{component_header, numbered_frame, custom_frame}
use Rattle.wasm_shapes.specs.Component.{component_section, component_sections, component_names, component_names_name, component_body_of, component_section_tree, unknown_component_tree}
use Rattle.wasm_shapes.specs.Depth.{Shallow, BeginsNoneAt}

-- the bytes are the header of a component and these sections, one behind another
pub record ComponentReading (depth : ℕ) (bytes : List ℕ) (t : Tree) : Type 0 where
  pub rest : List ℕ
  pub stands : bytes ≡ component_header ++ rest
  pub spells : Spells component_sections rest t
  pub shallow : Shallow depth t

-- they are no component
abbrev pub NoComponentReading : ℕ → List ℕ → Type 0
NoComponentReading depth bytes = (t : Tree) → ComponentReading depth bytes t → ⊥

-- ---- frames

-- what the contents of a custom section of this name are read as: of one of names of a component, its subsections; else they
-- are themselves
abbrev pub ReadsComponentContents : List ℕ → List ℕ → Tree → Type 0
ReadsComponentContents name contents u =
    ((name ≡ component_names_name) × Spells component_names contents u) ⊎ ((name ≢ component_names_name) × (u ≡ Tree.raw contents))

-- A section of a component and the frame that it stands in: of a known id, a custom one, or one of another id.
pub data InComponentFrame : Tree → Tree → Type 0 where
  of_id : (id : ℕ) (u : Tree) (body : List ℕ) → 1 ≤ id → id ≤ 11 → Spells (component_body_of id) body u →
      InComponentFrame (component_section_tree id u) (numbered_frame id body)
  of_custom : (name contents : List ℕ) (u : Tree) → ReadsComponentContents name contents u →
      InComponentFrame (component_section_tree 0 (Tree.pair (Tree.name name) u)) (custom_frame name contents)
  of_unknown : (id : ℕ) (contents : List ℕ) → 12 ≤ id → id ≤ 127 → InComponentFrame (unknown_component_tree id contents) (numbered_frame id contents)

-- ---- the front and a fault

-- The front of some bytes: the sections that stand behind the header side by side, up to the first place where none begins.
pub record ComponentFront (depth : ℕ) (bytes : List ℕ) (before : List Tree) (rest : List ℕ) : Type 0 where
  pub text : List ℕ
  pub spells : Spells component_sections text (rows_then before Tree.nil)
  pub shallow : Shallow depth (rows_then before Tree.nil)
  pub stands : bytes ≡ component_header ++ (text ++ rest)
  pub ends : BeginsNoneAt component_section depth rest

-- The same where bytes are left: no section begins there, and that is the fault's place.
pub record ComponentFaultAt (depth : ℕ) (bytes : List ℕ) (before : List Tree) (rest : List ℕ) : Type 0 where
  pub front : ComponentFront depth bytes before rest
  pub some : rest ≡ [] → ⊥
