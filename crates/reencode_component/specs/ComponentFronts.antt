-- The laws of what stands in front in a component's bytes: the sections behind its header, up to the first place where none begins that is
-- read.
use Rattle.std.specs.Prelude.{◌≡◌, ◌≤◌, ◌++◌, ℕ, List}
use Rattle.wasm_shapes.specs.Module.{component_header}
use Rattle.wasm_shapes.specs.Tree.{Tree}
use Rattle.reencode_component.specs.Components.{BeginsNoSection, FaultAt, ComponentReading, SectionsFirst}

-- These sections stand there, and none that is read begins behind them.
pub record Front (depth : ℕ) (bytes : List ℕ) (before : List Tree) (rest : List ℕ) : Type 0 where
  pub first : SectionsFirst depth bytes before rest
  pub none : BeginsNoSection depth rest

-- Bytes with the header of a component, round which at most 200 scopes are open, have a front: it is refuted that there is none.
abbrev pub HasFront : Type 0
HasFront = (depth : ℕ) (bytes start : List ℕ) → depth ≤ 200 → bytes ≡ component_header ++ start → ¬ ((before : List Tree) (rest : List ℕ) → ¬ Front depth bytes before rest)

-- They have a reading, or a fault behind their header: it is refuted that there is neither.
abbrev pub ReadsOrFails : Type 0
ReadsOrFails =
    (depth : ℕ) (bytes start : List ℕ) → depth ≤ 200 → bytes ≡ component_header ++ start → ((t : Tree) → ComponentReading depth bytes t → ⊥) →
    ¬ ((before : List Tree) (rest : List ℕ) → ¬ FaultAt depth bytes before rest)

-- With such a fault they have no reading.
abbrev pub FaultIsUnread : Type 0
FaultIsUnread = (depth : ℕ) (bytes : List ℕ) (before : List Tree) (rest : List ℕ) → FaultAt depth bytes before rest → (t : Tree) → ComponentReading depth bytes t → ⊥

-- Two fronts of the same bytes are one.
abbrev pub OneFront : Type 0
OneFront =
    (depth : ℕ) (bytes : List ℕ) (before others : List Tree) (rest left : List ℕ) → Front depth bytes before rest → Front depth bytes others left →
    (before ≡ others) × (rest ≡ left)
