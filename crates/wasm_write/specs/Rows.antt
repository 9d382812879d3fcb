-- The trees that rows of sections stand for.
use Rattle.std.specs.Prelude.{ℕ, Bool, true, false, List, [], length, map, Option, All}
use Rattle.std.specs.Borrow.{Bor}
use Rattle.wasm_shapes.specs.declared.Space.{Space}
use Rattle.wasm_shapes.specs.declared.Space.TheVariants as space
use Rattle.wasm_shapes.specs.Tree.{Tree, normal}
use Rattle.wasm_shapes.specs.Types.{expression_of, null_table_of, table_with_init_of, global_with_init_of, import_of, item_import_of, compact_items_of, compact_names_of, item_of, Items, items_of, passive_of, declared_of, active_of, active_data_of}
pub use Rattle.wasm_shapes.specs.Types.{passive_data_tree}
use Rattle.wasm_shapes.specs.Shape.{Shape, Named}
use Rattle.wasm_shapes.specs.Spells.{Spells}
use Rattle.wasm_write.specs.declared.types.ExportKind.{ExportKind}
use Rattle.wasm_write.specs.declared.types.ExportKind.TheVariants as export
use Rattle.wasm_write.specs.declared.types.Import.{Import}
use Rattle.wasm_write.specs.declared.types.ImportCompact.{ImportCompact}
use Rattle.wasm_write.specs.declared.types.Imports.{Imports}
use Rattle.wasm_write.specs.declared.types.Imports.TheVariants as imported
use Rattle.wasm_write.specs.declared.types.TableType.{TableType}
use Rattle.wasm_write.specs.declared.types.GlobalType.{GlobalType}
pub use Rattle.wasm_types.specs.Types.{is_funcref}
use Rattle.wasm_write.specs.Types.{entity_tree, table_type_tree, global_type_tree, ref_type_tree}
use Rattle.wasm_write.specs.declared.types.Elements.{Elements}
use Rattle.wasm_write.specs.declared.types.Elements.TheVariants as elements

-- ---- imports

-- a module's name, a name in it, and the type of what is imported
abbrev pub single_tree : Import → Tree
single_tree row = import_of row.module.now row.name.now (entity_tree row.ty)

-- a name
abbrev pub name_tree : Bor (List ℕ) → Tree
name_tree name = Tree.name name.now

-- a name in a module that is known, and the type of what is imported under it
abbrev pub compact_tree : ImportCompact → Tree
compact_tree item = item_import_of item.name.now (entity_tree item.ty)

abbrev pub import_tree : Imports → Tree
import_tree (imported.Single row) = single_tree row
import_tree (imported.Compact1 «module» items) = compact_items_of «module».now (map compact_tree items)
import_tree (imported.Compact2 «module» ty names) = compact_names_of «module».now (entity_tree ty) (map name_tree names)

-- ---- tables and globals

-- a table that starts with null references
abbrev pub null_table_tree : TableType → Tree
null_table_tree ty = null_table_of (table_type_tree ty)

-- a table and the operators of the expression of its first value
abbrev pub table_with_init_tree : TableType → List Tree → Tree
table_with_init_tree ty init = table_with_init_of (table_type_tree ty) (expression_of init)

-- a global and the operators of the expression of its first value
abbrev pub global_tree : GlobalType → List Tree → Tree
global_tree ty init = global_with_init_of (global_type_tree ty) (expression_of init)

-- ---- exports

-- the space of what is exported
abbrev pub exported_space : ExportKind → Space
exported_space export.Func = space.Function
exported_space export.Table = space.Table
exported_space export.Memory = space.Memory
exported_space export.Global = space.Global
exported_space export.Tag = space.Tag

-- what is exported, of a kind and by its index
abbrev pub item_tree : ExportKind → ℕ → Tree
item_tree kind i = item_of (exported_space kind) i

-- a name and what is exported under it
abbrev pub export_tree : List ℕ → ExportKind → ℕ → Tree
export_tree name kind i = Tree.pair (Tree.name name) (item_tree kind i)

-- ---- element segments

-- what a segment lists; the expressions are seen as lists of their operators
abbrev pub listed_items : Elements → Items
listed_items (elements.Functions is) = Items.functions is
listed_items (elements.Expressions ty es) = Items.expressions (is_funcref ty) (ref_type_tree ty) (map expression_of es)

-- functions behind their number, or expressions behind their type and their number
abbrev pub elements_tree : Elements → Tree
elements_tree row = items_of (listed_items row)

-- how many functions or expressions
abbrev pub elements_len : Elements → ℕ
elements_len (elements.Functions is) = length is
elements_len (elements.Expressions ty es) = length es

-- a segment that is copied to a table, which may be left out, at an offset, by its operators
abbrev pub active_tree : Option ℕ → List Tree → Elements → Tree
active_tree table offset row = active_of table (expression_of offset) (listed_items row)

abbrev pub passive_tree : Elements → Tree
passive_tree row = passive_of (listed_items row)

abbrev pub declared_tree : Elements → Tree
declared_tree row = declared_of (listed_items row)

-- ---- data

-- a data segment that is placed in a memory, at the operators of its offset
abbrev pub active_data_tree : ℕ → List Tree → List ℕ → Tree
active_data_tree memory offset bytes = active_data_of memory (expression_of offset) bytes

-- one that goes to no table: declared or passive
abbrev pub unplaced_tree : Bool → Elements → Tree
unplaced_tree false row = passive_tree row
unplaced_tree true row = declared_tree row

-- the operators of an expression have a spelling with `end` behind them
abbrev pub HasSpelling : List Tree → Type 0
HasSpelling operators = ∥ Spells (Shape.ref Named.expression) (normal (expression_of operators)) (expression_of operators) ∥₁

-- each expression has one
abbrev pub HaveSpellings : Elements → Type 0
HaveSpellings (elements.Functions is) = Unit {0}
HaveSpellings (elements.Expressions ty es) = All HasSpelling es

-- ---- sections that are no rows

-- the function that starts the module
abbrev pub start_tree : ℕ → Tree
start_tree i = Tree.ix space.Function i

-- the number of data segments
abbrev pub data_count_tree : ℕ → Tree
data_count_tree n = Tree.ix space.DataCount n

-- a name, and bytes
abbrev pub custom_tree : List ℕ → List ℕ → Tree
custom_tree name contents = Tree.pair (Tree.name name) (Tree.raw contents)
