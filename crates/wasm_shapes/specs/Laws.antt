-- The laws of spelling.
use Rattle.std.specs.Prelude.{◌≡◌, ℕ, ◌^◌, ◌-◌, ◌<◌, List, ◌++◌, get_or, true}
use Rattle.wasm_shapes.specs.Tree.{Tree, normal, fill}
use Rattle.wasm_shapes.specs.Shape.{Shape, Named, closed}
use Rattle.wasm_shapes.specs.NamedShapes.{shape_of}
use Rattle.wasm_shapes.specs.Sound.{sound}
use Rattle.wasm_shapes.specs.Spells.{Spells}
use Rattle.wasm_shapes.specs.Fits.{Fits}
use Rattle.wasm_shapes.specs.Module.{core_module, single_module, core_tree, CoreReading, section, frame}

-- no spelling of a closed shape begins another, and one text has one tree
abbrev pub IsUnique : Type 0
IsUnique = (s : Shape) → sound s ≡ true → closed s ≡ true → (x y a b : List ℕ) (t u : Tree) →
    Spells s x t → Spells s y u → x ++ a ≡ y ++ b → (x ≡ y) × (t ≡ u)

-- a whole text has one tree, whether its shape shows its end or the bytes end with it
abbrev pub HasOneTree : Type 0
HasOneTree = (s : Shape) → sound s ≡ true → (x : List ℕ) (t u : Tree) → Spells s x t → Spells s x u → t ≡ u

-- what a reading, filled or not, is spelled as normally reads as it
abbrev pub IsReadBack : Type 0
IsReadBack = (s : Shape) (x : List ℕ) (t : Tree) (answers : List ℕ) → ((k : ℕ) → get_or answers k 0 < 2 ^ 32) →
    Spells s x t → Fits (fill t answers) (2 ^ 32 - 1) → Spells s (normal (fill t answers)) (fill t answers)

-- the same of a reading as it stands
abbrev pub IsReadBackAsIs : Type 0
IsReadBackAsIs = (s : Shape) (x : List ℕ) (t : Tree) → Spells s x t → Fits t (2 ^ 32 - 1) → Spells s (normal t) t

-- the tables pass the test: each named shape, the sections, their frames, and the whole module
pub record AreSound : Type 0 where
  pub named : (n : Named) → sound (shape_of n) ≡ true
  pub ends : (n : Named) → closed (shape_of n) ≡ true
  pub section_sound : sound section ≡ true
  pub section_ends : closed section ≡ true
  pub frame_sound : sound frame ≡ true
  pub core_sound : sound core_module ≡ true

-- a reading of a module is a tree of the whole module's shape, and the other way round
pub record IsHeaded : Type 0 where
  pub forth : (bytes : List ℕ) (t : Tree) → CoreReading bytes t → Spells core_module bytes (core_tree t)
  pub back : (bytes : List ℕ) (t : Tree) → Spells core_module bytes t → (u : Tree) × (t ≡ core_tree u) × CoreReading bytes u

-- bytes that read as a module by the table in which every import is a single one have the same tree by the table in force, and
-- no other there; so their normal spelling and their visits are the same
abbrev pub KeepsSingleImports : Type 0
KeepsSingleImports = (bytes : List ℕ) (t : Tree) → Spells single_module bytes t →
    Spells core_module bytes t × ((u : Tree) → Spells core_module bytes u → u ≡ t)
