-- What the bytes of a component are read as where so many scopes are open round it, and what is wrong with bytes that are none.
use Rattle.std.specs.Prelude.{◌≡◌, ◌≢◌, ◌⊎◌, ◌+◌, ◌-◌, ℕ, zero, suc, List, [], ◌++◌, length}
use Rattle.wasm_leb.specs.declared.fault.Fault.{Fault}
use Rattle.wasm_leb.specs.declared.fault.Fault.TheVariants as fault
use Rattle.wasm_leb.specs.declared.fault.Kind.TheVariants as kind
use Rattle.wasm_shapes.specs.CodeSize.{InvalidCodeSize}
use Rattle.wasm_shapes.specs.Component.{component_section}
use Rattle.wasm_shapes.specs.ComponentReadings.{InComponentFrame}
pub use Rattle.wasm_shapes.specs.ComponentReadings.{ComponentReading}
use Rattle.wasm_shapes.specs.Depth.{BeginsAt, BeginsNoneAt, Shallow}
use Rattle.wasm_shapes.specs.Module as core
use Rattle.wasm_shapes.specs.Module.{core_header, component_header, frame, numbered_frame}
use Rattle.wasm_shapes.specs.Place.{Begins}
use Rattle.wasm_shapes.specs.Tree.{Tree}
use Rattle.wasm_shapes.specs.Types.{rows_tree}
use Rattle.reencode_core.specs.Core.{NoHeader}
use Rattle.reencode_core.specs.Rows.{RowsBefore}

-- ---- readings

-- the tree is what a section in this frame is read as
pub record ReadsSection (depth : ℕ) (f t : Tree) : Type 0 where
  pub framed : InComponentFrame t f
  pub shallow : Shallow depth t

-- a section begins there that is read
abbrev pub BeginsSection : ℕ → List ℕ → Tree → List ℕ → Type 0
BeginsSection depth = BeginsAt component_section depth

abbrev pub BeginsNoSection : ℕ → List ℕ → Type 0
BeginsNoSection depth = BeginsNoneAt component_section depth

-- ---- the front and the fault

-- These sections, which are read, stand behind the header side by side, and these bytes behind them.
pub record SectionsFirst (depth : ℕ) (bytes : List ℕ) (read : List Tree) (rest : List ℕ) : Type 0 where
  pub start : List ℕ
  pub stands : bytes ≡ component_header ++ start
  pub rows : RowsBefore component_section start read rest
  pub shallow : Shallow depth (rows_tree read)

-- Bytes are left at the first place where no section begins that is read; these stand before it.
pub record FaultAt (depth : ℕ) (bytes : List ℕ) (before : List Tree) (rest : List ℕ) : Type 0 where
  pub front : SectionsFirst depth bytes before rest
  pub none : BeginsNoSection depth rest
  pub some : rest ≢ []

-- ---- what is wrong with the bytes, told as a reader tells it: a fact of the bytes alone

-- It is told as it is by what stands round it. A place is not.
abbrev pub IsHandedOut : Fault → Type 0
IsHandedOut (fault.Read e) = ⊥
IsHandedOut fault.NoMemory = ⊥
IsHandedOut _ = Unit {0}

-- of bytes that are read as a core module
abbrev pub ModuleFault : List ℕ → Fault → Type 0
ModuleFault bytes (fault.Header kind.Component) = (rest : List ℕ) × (bytes ≡ component_header ++ rest)
ModuleFault bytes fault.CodeSize = (before : List Tree) × (rest : List ℕ) × core.FaultAt bytes before rest × InvalidCodeSize rest
ModuleFault bytes (fault.Read e) =
    (NoHeader bytes × (e.at ≡ 0))
    ⊎ ((before : List Tree) × (rest : List ℕ) × core.FaultAt bytes before rest × ¬ InvalidCodeSize rest × (e.at ≡ length bytes - length rest))
ModuleFault bytes _ = ⊥

-- a section stands in its frame at the front of some bytes, and this holds of the frame
abbrev pub Framed : (Tree → Type 0) → List ℕ → Type 0
Framed P bytes = (f : Tree) × (left : List ℕ) × Begins frame bytes f left × P f

-- At the first place where no section begins stands a nested one whose fault is handed out; or the fault is that place.
abbrev pub FaultHere : ℕ → (Tree → Fault → Type 0) → List ℕ → Fault → Type 0
FaultHere depth nested bytes (fault.Read e) =
    (before : List Tree) × (rest : List ℕ) × FaultAt depth bytes before rest × (e.at ≡ length bytes - length rest)
    × ((x : Fault) → IsHandedOut x → Framed (λ f. nested f x) rest → ⊥)
FaultHere depth nested bytes x = IsHandedOut x × (before : List Tree) × (rest : List ℕ) × FaultAt depth bytes before rest × Framed (λ f. nested f x) rest

-- by what the fault of a nested section in its frame is
abbrev pub FaultBy : ℕ → (Tree → Fault → Type 0) → List ℕ → Fault → Type 0
FaultBy depth nested bytes (fault.Read e) = (NoHeader bytes × (e.at ≡ 0)) ⊎ FaultHere depth nested bytes (fault.Read e)
FaultBy depth nested bytes (fault.Header kind.Module) =
    ((rest : List ℕ) × (bytes ≡ core_header ++ rest)) ⊎ FaultHere depth nested bytes (fault.Header kind.Module)
FaultBy depth nested bytes x = FaultHere depth nested bytes x

-- A core module or a component stands in the frame, by its id, and has this fault. Where no further scope may be opened, it is
-- none.
abbrev pub NestedFault : ℕ → ℕ → Tree → Fault → Type 0
NestedFault depth zero f x = ⊥
NestedFault depth (suc room) f x =
    (id : ℕ) × (body : List ℕ) × (f ≡ numbered_frame id body)
    × (((id ≡ 1) × ModuleFault body x) ⊎ ((id ≡ 4) × FaultBy (depth + 1) (NestedFault (depth + 1) room) body x))

-- of bytes that are read as a component
abbrev pub ComponentFault : ℕ → List ℕ → Fault → Type 0
ComponentFault depth bytes x = FaultBy depth (NestedFault depth (200 - depth)) bytes x
