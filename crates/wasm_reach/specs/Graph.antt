-- What a module's functions are asked for by.
use Rattle.std.specs.Prelude.{◌≡◌, ℕ, List}
use Rattle.wasm_shapes.specs.declared.Space.TheVariants as space
use Rattle.wasm_shapes.specs.Tree.{Tree}
use Rattle.wasm_shapes.specs.Module.{CoreReading}
use Rattle.module_spaces.specs.Spaces.{imported}
use Rattle.wasm_reach.specs.declared.fault.ReachFault.{ReachFault}
use Rattle.wasm_reach.specs.declared.fault.ReachFault.TheVariants as fault
use Rattle.wasm_reach.specs.Checks.{IsSound}
use Rattle.wasm_reach.specs.Notes as asks

-- The bytes have a reading of which nothing is refused. It imports so many functions; these are its roots, and what each body asks
-- functions for, by the defined functions.
pub record AreCalls (bytes : List ℕ) (imports : ℕ) (roots : List ℕ) (calls : List (List ℕ)) : Type 0 where
  pub tree : Tree
  pub reading : CoreReading bytes tree
  pub sound : IsSound tree
  pub imports_are : imports ≡ imported space.Function tree
  pub roots_are : roots ≡ asks.roots tree
  pub calls_are : calls ≡ asks.calls tree

-- Where nothing is refused of the bytes, memory alone may be wanting.
abbrev pub AreTold : List ℕ → ReachFault → Type 0
AreTold bytes e = (t : Tree) → CoreReading bytes t → IsSound t → e ≡ fault.NoMemory
