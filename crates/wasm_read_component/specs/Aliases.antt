-- The trees that aliases stand for.
use Rattle.std.specs.Prelude.{◌≡◌, ◌≢◌, ◌⊎◌, ℕ, List}
use Rattle.wasm_shapes.specs.declared.Space.{Space}
use Rattle.wasm_shapes.specs.Tree.{Tree}
use Rattle.wasm_shapes.specs.Place.{Begins}
use Rattle.wasm_shapes.specs.Component.{core_alias, instance_export, export_or_outer}
use Rattle.wasm_shapes.specs.ComponentTypes.{core_alias_of, instance_export_tree, outer_tree}
use Rattle.wasm_read.specs.declared.types.ExternalKind.{ExternalKind}
use Rattle.wasm_read.specs.declared.types.ExternalKind.TheVariants as external
use Rattle.wasm_types.specs.declared.components.Alias.{Alias}
use Rattle.wasm_types.specs.declared.components.Alias.TheVariants as alias
use Rattle.wasm_types.specs.declared.components.ComponentExternalKind.{ComponentExternalKind}
use Rattle.wasm_types.specs.declared.components.ComponentOuterAliasKind.{ComponentOuterAliasKind}
use Rattle.wasm_types.specs.ComponentTrees as component
use Rattle.wasm_types.specs.ComponentTrees.{export_alias, outer_alias}
use Rattle.wasm_read_component.specs.declared.aliases.Target.{Target}
use Rattle.wasm_read_component.specs.declared.aliases.Target.TheVariants as target

-- an alias as it is read
abbrev pub ComponentAlias : Type 0
ComponentAlias = Alias ExternalKind

-- the sort of what a core instance exports: a function of exactly its type is a function here
abbrev pub core_sort_byte : ExternalKind → ℕ
core_sort_byte external.Func = 0x00
core_sort_byte external.FuncExact = 0x00
core_sort_byte external.Table = 0x01
core_sort_byte external.Memory = 0x02
core_sort_byte external.Global = 0x03
core_sort_byte external.Tag = 0x04

-- the tree that an alias stands for, behind the bytes of its sort
abbrev pub alias_tree : ComponentAlias → Tree
alias_tree a = component.alias_tree core_sort_byte a

-- what an alias is read as: the sort of a function is never read as that of a function of exactly its type
abbrev pub NotExact : ComponentAlias → Type 0
NotExact (alias.CoreInstanceExport kind i name) = kind ≢ external.FuncExact
NotExact _ = Unit {0}

-- what an alias of a sort names
abbrev pub target_tree : Space → Target → Tree
target_tree s (target.Export i name) = Tree.row 0 (instance_export_tree i name.now)
target_tree s (target.Outer c i) = Tree.row 1 (outer_tree s c i)

-- ---- parts of aliases

-- behind its first byte an alias of a core sort begins
pub record CoreBegins (bytes : List ℕ) (t : Tree) (left : List ℕ) : Type 0 where
  pub inner : Tree
  pub is : t ≡ core_alias_of inner
  pub begins : Begins core_alias bytes inner left

-- an export of an instance begins, of which this is the alias by its sort
pub record ExportBegins (bytes : List ℕ) (kind : ComponentExternalKind) (a : ComponentAlias) (left : List ℕ) : Type 0 where
  pub export : Tree
  pub is : alias_tree a ≡ export_alias kind export
  pub begins : Begins instance_export bytes export left

-- the same where what stands further out could begin too
pub record EitherBegins (bytes : List ℕ) (kind : ComponentExternalKind) (a : ComponentAlias) (left : List ℕ) : Type 0 where
  pub export : Tree
  pub is : alias_tree a ≡ export_alias kind export
  pub begins : (s : Space) → Begins (export_or_outer s) bytes (Tree.row 0 export) left

-- and where that begins
pub record OuterBegins (bytes : List ℕ) (kind : ComponentOuterAliasKind) (a : ComponentAlias) (left : List ℕ) : Type 0 where
  pub count : ℕ
  pub index : ℕ
  pub is : alias_tree a ≡ outer_alias kind count index
  pub begins : (s : Space) → Begins (export_or_outer s) bytes (Tree.row 1 (outer_tree s count index)) left

-- an alias of a sort of which there are both begins there
abbrev pub TargetBegins : List ℕ → ComponentExternalKind → ComponentOuterAliasKind → ComponentAlias → List ℕ → Type 0
TargetBegins bytes kind outer a left = EitherBegins bytes kind a left ⊎ OuterBegins bytes outer a left
