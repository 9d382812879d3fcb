-- What of a name section can be read.
use Rattle.std.specs.Prelude.{List}
use Rattle.wasm_shapes.specs.Tree.{Tree}
use Rattle.wasm_shapes.specs.Shape.{Shape}
use Rattle.wasm_shapes.specs.Types.{rows_tree}
use Rattle.wasm_read.specs.declared.types.Name.{Name}
use Rattle.wasm_read.specs.Names.{EntriesLeft, MapStanding}
use Rattle.wasm_read.specs.Subsections.{ReadsName}
use Rattle.wasm_read_component.specs.ComponentNames.{ReadsComponentName}
use Rattle.wasm_read_component.specs.declared.types.ComponentName.{ComponentName}

-- what a map still has are entries of a shape
abbrev pub HasEntries : Shape → MapStanding → Type 0
HasEntries row m = (entries : List Tree) × EntriesLeft row m (rows_tree entries)

-- a subsection has a reading
abbrev pub HasReading : Name → Type 0
HasReading n = (t : Tree) × ReadsName n t

-- so has one of a component's names
abbrev pub HasComponentReading : ComponentName → Type 0
HasComponentReading n = (t : Tree) × ReadsComponentName n t
