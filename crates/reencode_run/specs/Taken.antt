-- What a command takes its bytes as: a core module, or a core module or a component by the header.
use Rattle.std.specs.Prelude.{ℕ, List}
use Rattle.wasm_leb.specs.declared.fault.Fault.{Fault}
use Rattle.wasm_shapes.specs.Tree.{Tree}
use Rattle.reencode_hooks.specs.declared.indices.ReencodeIndices.{Ghosts}
use Rattle.reencode_component.specs.ComponentLaws.{Taking}
use Rattle.reencode_component.specs.WithinLaws.{Promises, as_binary, as_module, of_binary, of_module}
use Rattle.reencode_run.specs.declared.binary_taken.Taken.{Taken}
use Rattle.reencode_run.specs.declared.binary_taken.Taken.TheVariants.{Modules, Binaries}

abbrev pub taking : Taken → Taking
taking Modules = as_module
taking Binaries = as_binary

-- the bytes are read as this tree
abbrev pub Reads : Taken → List ℕ → Tree → Type 0
Reads k bytes t = (taking k).reads bytes t

-- these sections stand behind their header, up to the first place where none begins, and bytes are left there
abbrev pub Faulty : Taken → List ℕ → Tree → List ℕ → Type 0
Faulty k bytes t rest = (taking k).faulty bytes t rest

-- this is wrong with them
abbrev pub HasFault : Taken → List ℕ → Fault → Type 0
HasFault k bytes x = (taking k).fault bytes x

-- what is promised of the bytes that are answered for them
abbrev pub promised : {S E A : Type 0} → Taken → Ghosts S E → (A → List ℕ) → Promises S E A
promised Modules i view = of_module i view
promised Binaries i view = of_binary i view
