-- What comes out where nothing is renamed.
use Rattle.std.specs.Prelude.{◌≡◌, ◌≤◌, ◌-◌, ◌^◌, ◌↔◌, ◌++◌, ℕ, List, length, true}
use Rattle.wasm_shapes.specs.declared.Visit.{Visit}
use Rattle.wasm_shapes.specs.Tree.{Tree, visits, fill, normal}
use Rattle.wasm_shapes.specs.Own.{own}
use Rattle.wasm_shapes.specs.Shape.{Shape}
use Rattle.wasm_shapes.specs.Sound.{sound}
use Rattle.wasm_shapes.specs.Spells.{Spelled, Spells}
use Rattle.wasm_shapes.specs.Fits.{Fits}
use Rattle.wasm_shapes.specs.Sections.{component_header}
use Rattle.wasm_shapes.specs.Module.{core_module}
use Rattle.wasm_shapes.specs.Component.{component}
use Rattle.wasm_shapes.specs.ComponentReadings.{ComponentReading}
use Rattle.reencode_hooks.specs.declared.error.Error.{Error}
use Rattle.reencode_hooks.specs.Run.{Step, accepted, run}
use Rattle.reencode_hooks.specs.Walk.{walk}

-- the bytes have this reading, and no other
abbrev pub ReadsAs : Shape → List ℕ → Tree → Type 0
ReadsAs shape bytes t = Spells shape bytes t × ((u : Tree) → Spells shape bytes u → u ≡ t)

-- the bytes have this reading as a component at the depth, and at no depth another
abbrev pub ReadsAsAt : ℕ → List ℕ → Tree → Type 0
ReadsAsAt depth bytes t = ComponentReading depth bytes t × ((other : ℕ) (u : Tree) → ComponentReading other bytes u → u ≡ t)

-- Of a reencoder that answers each index as it is:
pub record NothingRenamed {S E : Type 0} (asked : S → Visit → Step S (Error E) ℕ) : Type 0 where
  -- A tree filled with the indices that its own visits ask is the tree.
  pub same : (t : Tree) → fill t (own t) ≡ t
  -- These are its answers to the visits,
  pub answers : (s : S) (t : Tree) → run asked s (visits t) ≡ accepted (own t) s
  -- so its walk gives the tree itself.
  pub walked : (c : ℕ) (s m : S) (t u : Tree) → walk asked c s t ≡ accepted u m → (u ≡ t) × (m ≡ s)
  -- The normal spelling of a reading has this reading and no other, so it comes out again as it is. A core module is such a reading,
  pub reads : (shape : Shape) → sound shape ≡ true → (bytes : List ℕ) (t : Tree) → Spells shape bytes t → Fits t (2 ^ 32 - 1) → ReadsAs shape (normal t) t
  pub core : sound core_module ≡ true
  -- and so is a component, whose normal spelling has this reading at the same depth, and no other.
  pub component : sound component ≡ true
  pub component_reads : (depth : ℕ) (bytes : List ℕ) (t : Tree) → ComponentReading depth bytes t → Fits t (2 ^ 32 - 1) →
      ReadsAsAt depth (component_header ++ normal (fill t (own t))) t

-- Where each index is answered as it is, what comes out is what was read exactly where that was spelled normally.
abbrev pub OwnIsNormal : Type 0
OwnIsNormal = (t : Tree) (bytes : List ℕ) → Spelled t bytes → (normal (fill t (own t)) ≡ bytes) ↔ (bytes ≡ normal t)

-- And it is not longer: no bytes that spell a tree are shorter than its normal spelling.
pub record OwnIsNotLonger : Type 0 where
  pub output : (t : Tree) (bytes : List ℕ) → Spelled t bytes → length (normal (fill t (own t))) ≤ length bytes
  pub any : (t : Tree) (bytes : List ℕ) → Spelled t bytes → length (normal t) ≤ length bytes
