-- The trees that the rows of a component stand for, beside those of `wasm_types`.
use Rattle.std.specs.Prelude.{◌≡◌, ◌≢◌, ◌⊎◌, ℕ, ◌-◌, List, [], ◌∷◌, length}
use Rattle.wasm_leb.specs.declared.fault.Fault.{Fault}
use Rattle.wasm_leb.specs.declared.fault.Fault.TheVariants as fault
use Rattle.wasm_shapes.specs.Tree.{Tree}
use Rattle.wasm_shapes.specs.Place.{Begins, BeginsNone}
use Rattle.wasm_shapes.specs.Spells.{Spells}
use Rattle.wasm_shapes.specs.Sections.{export_row}
use Rattle.wasm_shapes.specs.Component.{component_start}
use Rattle.wasm_types.specs.declared.components.CanonicalFunction.{CanonicalFunction}
use Rattle.wasm_types.specs.declared.components.CanonicalOption.{CanonicalOption}
use Rattle.wasm_types.specs.declared.components.Operands.{Operands}
use Rattle.wasm_types.specs.declared.components.Instance.{Instance}
use Rattle.wasm_types.specs.declared.components.Instance.TheVariants as instance
use Rattle.wasm_types.specs.ComponentTrees as component
use Rattle.wasm_read.specs.declared.types.Export.{Export}
use Rattle.wasm_read.specs.declared.types.UnpackedIndex.{UnpackedIndex}
use Rattle.wasm_read.specs.Types.{ExportKind, export_tree, indices}
use Rattle.wasm_read.specs.VectorRows.{VectorBeside}
use Rattle.wasm_read_component.specs.declared.types.ComponentStartFunction.{ComponentStartFunction}

-- the function that starts a component, its arguments and the number of its results
abbrev pub start_tree : ComponentStartFunction → Tree
start_tree f = component.component_start_tree f.func_index f.arguments f.results

-- a start stands there, and bytes are left behind it, from this place on
pub record BehindStart (body : List ℕ) (at : ℕ) : Type 0 where
  pub start : Tree
  pub rest : List ℕ
  pub begins : Begins component_start body start rest
  pub some : rest ≢ []
  pub place : at ≡ length body - length rest

-- At the front a start is due and none begins; or it stands there, and bytes are left behind it. Either way it does not fill the
-- body.
pub record NoStart (body : List ℕ) (at : ℕ) : Type 0 where
  pub here : ((at ≡ 0) × BeginsNone component_start body) ⊎ BehindStart body at
  pub none : (t : Tree) → Spells component_start body t → ⊥

-- no start fills the body: the error holds the place where it is due and none begins, or of the bytes left behind it; or memory runs
-- out
abbrev pub StartRefused : Fault → List ℕ → Type 0
StartRefused (fault.Read e) body = NoStart body e.at
StartRefused fault.NoMemory body = Unit {0}
StartRefused _ body = ⊥

-- what stands behind the byte of a canonical function
abbrev pub operands_tree : Operands UnpackedIndex (List CanonicalOption) → Tree
operands_tree o = component.operands_tree indices o

-- a canonical function by its byte
abbrev pub canonical_tree : CanonicalFunction UnpackedIndex → Tree
canonical_tree f = component.canonical_tree indices f

-- the byte behind each name that a core instance exports is that of its kind
abbrev pub InstanceKinds : List ℕ → Instance Export → Type 0
InstanceKinds bytes (instance.Instantiate m args) = Unit {0}
InstanceKinds bytes (instance.FromExports exports) =
    (rows : List ℕ) × (left : List ℕ) × (bytes ≡ 0x01 ∷ rows) × VectorBeside export_row export_tree ExportKind rows exports left
