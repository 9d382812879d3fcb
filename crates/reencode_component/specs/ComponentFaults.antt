-- The law of faults: what is wrong with some bytes is one, and then they have no reading.
use Rattle.std.specs.Prelude.{◌≡◌, ℕ, List}
use Rattle.wasm_leb.specs.declared.fault.Fault.{Fault}
use Rattle.wasm_shapes.specs.Tree.{Tree}
use Rattle.reencode_component.specs.Components.{ComponentFault, ComponentReading}

-- Bytes have one fault at most as a component, and none where they are read.
pub record FaultIsOne : Type 0 where
  pub one : (depth : ℕ) (bytes : List ℕ) (x y : Fault) → ComponentFault depth bytes x → ComponentFault depth bytes y → x ≡ y
  pub none : (depth : ℕ) (bytes : List ℕ) (x : Fault) → ComponentFault depth bytes x → (t : Tree) → ComponentReading depth bytes t → ⊥
