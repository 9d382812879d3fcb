-- The laws of components.
use Rattle.std.specs.Prelude.{◌≡◌, ℕ, ◌^◌, ◌+◌, ◌-◌, ◌<◌, ◌≤◌, List, ◌++◌, get_or, true}
use Rattle.wasm_shapes.specs.Tree.{Tree, normal, fill}
use Rattle.wasm_shapes.specs.Shape.{closed}
use Rattle.wasm_shapes.specs.Sound.{sound}
use Rattle.wasm_shapes.specs.Spells.{Spells}
use Rattle.wasm_shapes.specs.Fits.{Fits}
use Rattle.wasm_shapes.specs.Sections.{component_header, core_tree}
use Rattle.wasm_shapes.specs.Module.{CoreReading}
use Rattle.wasm_shapes.specs.Component.{component_section, component, single_component, component_tree, component_body_of}
use Rattle.wasm_shapes.specs.Depth.{opens, Shallow}
use Rattle.wasm_shapes.specs.ComponentReadings.{ComponentReading}

-- the tables pass the test: the sections of a component and the whole component; its named shapes are among all the named ones
pub record AreComponentsSound : Type 0 where
  pub section_sound : sound component_section ≡ true
  pub section_ends : closed component_section ≡ true
  pub component_sound : sound component ≡ true

-- a reading of a component is a tree of the whole component's shape, and the other way round
pub record IsComponentHeaded : Type 0 where
  pub forth : (depth : ℕ) (bytes : List ℕ) (t : Tree) → ComponentReading depth bytes t → Spells component bytes (component_tree t) × Shallow depth (component_tree t)
  pub back : (depth : ℕ) (bytes : List ℕ) (t : Tree) → Spells component bytes t → Shallow depth t → (u : Tree) × (t ≡ component_tree u) × ComponentReading depth bytes u

-- Bytes have at most one reading as a core module, at most one as a component, whatever the depths, and never both.
pub record AreOneReading : Type 0 where
  pub core : (bytes : List ℕ) (t u : Tree) → CoreReading bytes t → CoreReading bytes u → t ≡ u
  pub component : (depth other : ℕ) (bytes : List ℕ) (t u : Tree) → ComponentReading depth bytes t → ComponentReading other bytes u → t ≡ u
  pub never_both : (depth : ℕ) (bytes : List ℕ) (t u : Tree) → CoreReading bytes t → ComponentReading depth bytes u → ⊥

-- what a reading, filled with any answers, is spelled as normally reads as it, at the same depth
abbrev pub IsReadBackAt : Type 0
IsReadBackAt = (depth : ℕ) (bytes : List ℕ) (t : Tree) (answers : List ℕ) → ((k : ℕ) → get_or answers k 0 < 2 ^ 32) → ComponentReading depth bytes t →
    Fits (fill t answers) (2 ^ 32 - 1) → ComponentReading depth (component_header ++ normal (fill t answers)) (fill t answers)

-- Bytes that read as a component by the table in which every import of each core module in it is a single one have the same tree
-- by the table in force, and no other there. So they are a component at the same depths, and their normal spelling and their visits
-- are the same.
abbrev pub KeepsNestedImports : Type 0
KeepsNestedImports = (n : ℕ) (bytes : List ℕ) (t : Tree) → Spells (single_component n) bytes t →
    Spells component bytes t × ((u : Tree) → Spells component bytes u → u ≡ t)

-- answers open no scope, and close none
abbrev pub IsAsDeep : Type 0
IsAsDeep = (t : Tree) (answers : List ℕ) → opens (fill t answers) ≡ opens t

-- The body of a section that holds a module or a component reads as a scope exactly where it has a reading of its own, with one
-- scope more open round it.
pub record AreNested : Type 0 where
  pub module_forth : (depth : ℕ) (body : List ℕ) (u : Tree) → depth + 1 ≤ 200 → CoreReading body u →
      Spells (component_body_of 1) body (Tree.scope (core_tree u)) × Shallow depth (Tree.scope (core_tree u))
  pub module_back : (depth : ℕ) (body : List ℕ) (t : Tree) → Spells (component_body_of 1) body t → Shallow depth t →
      (u : Tree) × (t ≡ Tree.scope (core_tree u)) × CoreReading body u × (depth + 1 ≤ 200)
  pub component_forth : (depth : ℕ) (body : List ℕ) (u : Tree) → ComponentReading (depth + 1) body u →
      Spells (component_body_of 4) body (Tree.scope (component_tree u)) × Shallow depth (Tree.scope (component_tree u))
  pub component_back : (depth : ℕ) (body : List ℕ) (t : Tree) → Spells (component_body_of 4) body t → Shallow depth t →
      (u : Tree) × (t ≡ Tree.scope (component_tree u)) × ComponentReading (depth + 1) body u
