-- What the trees of a reader's aliases and of a writer's are made of. Nothing here names a type of either.
use Rattle.std.specs.Prelude.{ℕ, List}
use Rattle.wasm_shapes.specs.declared.Space.{Space}
use Rattle.wasm_shapes.specs.declared.Space.TheVariants as space
use Rattle.wasm_shapes.specs.Tree.{Tree}
use Rattle.wasm_shapes.specs.Types.{led}

-- ---- aliases

-- an export of an instance, by the instance and the name
abbrev pub instance_export_tree : ℕ → List ℕ → Tree
instance_export_tree i name = led 0x00 (Tree.pair (Tree.ix space.ComponentInstance i) (Tree.name name))

-- an export of a core instance
abbrev pub core_instance_export_tree : ℕ → List ℕ → Tree
core_instance_export_tree i name = led 0x01 (Tree.pair (Tree.ix space.Instance i) (Tree.name name))

-- what stands so many scopes further out
abbrev pub outer_tree : Space → ℕ → ℕ → Tree
outer_tree s c i = led 0x02 (Tree.outer s c i)

-- an alias of a core sort
abbrev pub core_alias_of : Tree → Tree
core_alias_of t = Tree.row 0 (led 0x00 t)

-- that of an export of a core instance, by the byte of its sort
abbrev pub core_export_alias : ℕ → Tree → Tree
core_export_alias sort t = core_alias_of (Tree.row 0 (Tree.pair (Tree.byte sort) t))

abbrev pub core_type_alias : Tree → Tree
core_type_alias t = core_alias_of (Tree.row 1 (led 0x10 t))

-- one of the sorts of which instances export and of which there are some further out: the first row is an export
abbrev pub module_alias : ℕ → Tree → Tree
module_alias k t = core_alias_of (Tree.row 2 (led 0x11 (Tree.row k t)))

abbrev pub type_alias : ℕ → Tree → Tree
type_alias k t = Tree.row 3 (led 0x03 (Tree.row k t))

abbrev pub component_alias : ℕ → Tree → Tree
component_alias k t = Tree.row 4 (led 0x04 (Tree.row k t))

-- one of a sort of which instances export alone
abbrev pub func_alias : Tree → Tree
func_alias t = Tree.row 1 (led 0x01 t)

abbrev pub value_alias : Tree → Tree
value_alias t = Tree.row 2 (led 0x02 t)

abbrev pub instance_alias : Tree → Tree
instance_alias t = Tree.row 5 (led 0x05 t)
