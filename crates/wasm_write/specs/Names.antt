-- Name sections, as contracts see them (WebAssembly Core Specification 3.0, section 7.4.1).
use Rattle.std.specs.Prelude.{◌≡◌, ℕ, ◌<◌, ◌^◌, List, ◌∷◌, ◌++◌, length, Option, Some, None}
use Rattle.wasm_shapes.specs.Tree.{Tree, normal}
use Rattle.wasm_leb.specs.Leb.{leb}
use Rattle.wasm_shapes.specs.Shape.{Shape}
use Rattle.wasm_shapes.specs.Spells.{Is, Spelled, Spells}
use Rattle.wasm_shapes.specs.Module.{custom, names_name}
use Rattle.wasm_shapes.specs.Types.{rows_tree}
use Rattle.wasm_write.specs.Bodies.{CodeRows, with_row}

-- the body of a name section: its name, and its subsections
abbrev pub name_section_tree : List Tree → Tree
name_section_tree rows = Tree.pair (Tree.name names_name) (rows_tree rows)

-- it reads back as it is
abbrev pub NamesSpell : List Tree → Type 0
NamesSpell rows = ∥ Spells custom (normal (name_section_tree rows)) (name_section_tree rows) ∥₁

-- a body of this length is longer than the ceiling
abbrev pub PassesCeiling : ℕ → Tree → ℕ → Type 0
PassesCeiling ceiling body size = (size ≡ length (normal body)) × (ceiling < size)

-- ---- a subsection by its bytes

-- bytes behind a number, if there is one
abbrev pub behind : Option ℕ → List ℕ → List ℕ
behind (Some n) bytes = leb n ++ bytes
behind None bytes = bytes

-- the same behind other bytes
abbrev pub body_of : List ℕ → Option ℕ → List ℕ → List ℕ
body_of front number bytes = front ++ behind number bytes

-- the id, the length and the body
abbrev pub subsection_bytes : ℕ → List ℕ → List ℕ
subsection_bytes id body = id ∷ (leb (length body) ++ body)

-- a subsection of this shape whose normal spelling is that of this id and this body
pub record IsSubsection (row : Shape) (id : ℕ) (body : List ℕ) (t : Tree) : Type 0 where
  pub shaped : Is row t
  pub spelled : length body < 2 ^ 32 → Spelled t (subsection_bytes id body)
  pub normally : normal t ≡ subsection_bytes id body

-- there is one
abbrev pub HasSubsection : Shape → ℕ → List ℕ → Type 0
HasSubsection row id body = (t : Tree) × ∥ IsSubsection row id body t ∥₁

-- the second list has it more
abbrev pub GainsSubsection : Shape → CodeRows → ℕ → List ℕ → CodeRows → Type 0
GainsSubsection row old id body new = (t : Tree) → ∥ IsSubsection row id body t ∥₁ → new ≡ with_row old t

-- subsections of this shape read back as they are
abbrev pub SubsectionsSpell : Shape → List Tree → Type 0
SubsectionsSpell row rows = ∥ Spells (Shape.many row) (normal (rows_tree rows)) (rows_tree rows) ∥₁
