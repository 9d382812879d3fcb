-- Visits that are drawn from some bytes.
use Rattle.std.specs.Prelude.{◌≡◌, ℕ, List, ◌++◌, get_or, true, All, Contains, Some}
use Rattle.wasm_shapes.specs.declared.SectionId.{SectionId}
use Rattle.wasm_shapes.specs.declared.Space.{Space}
use Rattle.wasm_shapes.specs.declared.Visit.{Visit}
use Rattle.wasm_shapes.specs.declared.Visit.TheVariants.{Index, Outer}
use Rattle.wasm_shapes.specs.Tree.{Tree, visits}
use Rattle.wasm_shapes.specs.Scopes.{open_behind}
use Rattle.wasm_shapes.specs.Shape.{Shape}
use Rattle.wasm_shapes.specs.Spells.{Spells}
use Rattle.wasm_shapes.specs.Module.{body_of, row_of, local_row, name_rows, naming_row, subsection}
use Rattle.wasm_shapes.specs.Component as table

-- The items of which indices are asked: a row of a section, the one item of a section that has no rows, an entry of the map in a
-- name subsection, a local, an operator; of a component a row of a section by its id, that of a start section, a row of a list of
-- declarations, and an entry of the names of a sort.
pub data IsItem : Shape → Type 0 where
  row : (k : SectionId) → IsItem (row_of k)
  one : (k : SectionId) (s : Space) → body_of k ≡ Shape.ix s → IsItem (Shape.ix s)
  entry : (id : ℕ) (s : Shape) → get_or name_rows id Shape.none ≡ subsection id (Shape.vec s) → IsItem s
  local : IsItem local_row
  operator : IsItem (Shape.op true)
  component_row : (id : ℕ) (s : Shape) → table.component_body_of id ≡ Shape.vec s → IsItem s
  component_start : IsItem table.component_start
  module_declaration : IsItem table.module_declaration
  instance_declaration : IsItem table.instance_declaration
  component_declaration : IsItem table.component_declaration
  sort_entry : (s : Space) → IsItem (naming_row s)

-- some stretch of the bytes spells an item, and this is one of its visits
pub record OfItem (bytes : List ℕ) (v : Visit) : Type 0 where
  pub item : Shape
  pub is_item : IsItem item
  pub before : List ℕ
  pub text : List ℕ
  pub behind : List ℕ
  pub stands : bytes ≡ before ++ (text ++ behind)
  pub tree : Tree
  pub spells : Spells item text tree
  pub among : Contains (visits tree) v

-- the same of a visit that asks an index; of others nothing is said
abbrev pub IsDrawn : List ℕ → Visit → Type 0
IsDrawn bytes (Index s i) = OfItem bytes (Index s i)
IsDrawn bytes (Outer s c i) = OfItem bytes (Outer s c i)
IsDrawn bytes _ = Unit {0}

-- Each visit that asks an index is one of an item that stands somewhere in the bytes, and no scope is closed that these visits did not
-- open.
pub record Drawn (bytes : List ℕ) (vs : List Visit) : Type 0 where
  pub each : All (IsDrawn bytes) vs
  pub opened : (k : ℕ) × (open_behind 0 vs ≡ Some k)

-- ---- laws

-- what is drawn from a stretch of some bytes is drawn from the bytes
abbrev pub IsDrawnFromWhole : Type 0
IsDrawnFromWhole = (before text behind : List ℕ) (vs : List Visit) → Drawn text vs → Drawn (before ++ (text ++ behind)) vs

-- lists that are drawn from the same bytes are drawn from them when joined
abbrev pub IsDrawnJoined : Type 0
IsDrawnJoined = (bytes : List ℕ) (vs ws : List Visit) → Drawn bytes vs → Drawn bytes ws → Drawn bytes (vs ++ ws)
