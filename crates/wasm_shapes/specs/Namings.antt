-- Maps of names: their entries, and the trees that these stand for (WebAssembly Core Specification 3.0, section 7.4.1).
use Rattle.std.specs.Prelude.{ℕ, List, map}
use Rattle.wasm_shapes.specs.declared.Space.{Space}
use Rattle.wasm_shapes.specs.Tree.{Tree}
use Rattle.wasm_shapes.specs.Shape.{Shape}
use Rattle.wasm_shapes.specs.Module.{plain_naming}
use Rattle.wasm_shapes.specs.Types.{led, vector_tree}

-- an index and its name
pub record Entry : Type 0 where
  pub index : ℕ
  pub name : List ℕ

-- an index, and a map of names
pub record Outer : Type 0 where
  pub index : ℕ
  pub names : List Entry

-- an index that is not asked for, and a map of names
abbrev pub plain_indirect : Shape
plain_indirect = Shape.seq Shape.u32 (Shape.vec plain_naming)

-- an entry whose index is not asked for
abbrev pub entry_tree : Entry → Tree
entry_tree e = Tree.pair (Tree.u32 e.index) (Tree.name e.name)

abbrev pub entries_trees : List Entry → List Tree
entries_trees es = map entry_tree es

abbrev pub outer_tree : Outer → Tree
outer_tree o = Tree.pair (Tree.u32 o.index) (vector_tree (entries_trees o.names))

abbrev pub outers_trees : List Outer → List Tree
outers_trees os = map outer_tree os

-- the same entry, whose index is asked for in a space
abbrev pub asked_in : Space → Tree → Tree
asked_in s (Tree.pair (Tree.u32 i) t) = Tree.pair (Tree.ix s i) t
asked_in s t = t

-- ---- subsections

-- a subsection of an id below 12
abbrev pub subsection_tree : ℕ → Tree → Tree
subsection_tree id body = Tree.row id (led id (Tree.sized body))

-- the name of the module
abbrev pub module_name_tree : List ℕ → Tree
module_name_tree name = subsection_tree 0 (Tree.name name)

-- a map of names, by its entries whose indices are not asked for: they are asked for in the space
abbrev pub names_tree : ℕ → Space → List Tree → Tree
names_tree id s entries = subsection_tree id (vector_tree (map (asked_in s) entries))

-- a subsection of an id from 12 on, by its bytes
abbrev pub raw_names_tree : ℕ → List ℕ → Tree
raw_names_tree id contents = Tree.row 12 (Tree.pair (Tree.byte id) (Tree.sized (Tree.raw contents)))
