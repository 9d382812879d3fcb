-- The normal spelling of a row that is in range spells it.
use Rattle.std.proofs.Common.{ℕ, ◌<◌, ◌^◌, List, refl}
use Rattle.wasm_shapes.specs.Tree.{Tree, normal}
use Rattle.wasm_shapes.specs.Shape.{Shape, Named, memory_type, tag_type}
use Rattle.wasm_shapes.specs.Spells.{Is, Spells}
use Rattle.wasm_shapes.specs.Fits.{InRange}
use Rattle.wasm_shapes.specs.Module.{import_row, function_row, table_row, export_row}
use Rattle.wasm_shapes.specs.Types.{function_tree}
use Rattle.wasm_shapes.proofs.Frameless.{frameless_spells}
use Rattle.wasm_write.specs.declared.types.RecGroup.{RecGroup}
use Rattle.wasm_write.specs.declared.types.TableType.{TableType}
use Rattle.wasm_write.specs.declared.types.MemoryType.{MemoryType}
use Rattle.wasm_types.specs.declared.types.TagType.{TagType}
use Rattle.wasm_write.specs.declared.types.Imports.{Imports}
use Rattle.wasm_write.specs.declared.types.ExportKind.{ExportKind}
use Rattle.wasm_write.specs.declared.types.ExportKind.TheVariants as export
use Rattle.wasm_write.specs.Types.{group_tree, table_type_tree, memory_type_tree, tag_type_tree}
use Rattle.wasm_write.specs.Rows.{import_tree, null_table_tree, item_tree, export_tree}
use Rattle.wasm_write.proofs.TypeShapes.{group_is}
use Rattle.wasm_write.proofs.ExternalShapes.{table_type_is, memory_type_is, tag_type_is, import_is}

-- the normal spelling spells the tree
abbrev SpelledAs : Shape → Tree → Type 0
SpelledAs s t = ∥ Spells s (normal t) t ∥₁

pub group_spelled : (group : RecGroup) → InRange (group_tree group) → SpelledAs (Shape.ref Named.group) (group_tree group)
group_spelled group r = ∣ frameless_spells (Shape.ref Named.group) refl (group_is group) r ∣₁

pub import_spelled : (row : Imports) → InRange (import_tree row) → SpelledAs import_row (import_tree row)
import_spelled row r = ∣ frameless_spells import_row refl (import_is row) r ∣₁

pub function_spelled : (i : ℕ) → i < 2 ^ 32 → SpelledAs function_row (function_tree i)
function_spelled i small = ∣ frameless_spells function_row refl Is.ix small ∣₁

pub null_table_spelled : (ty : TableType) → InRange (table_type_tree ty) → SpelledAs table_row (null_table_tree ty)
null_table_spelled ty r = ∣ frameless_spells table_row refl (Is.first (table_type_is ty)) r ∣₁

pub memory_type_spelled : (ty : MemoryType) → InRange (memory_type_tree ty) → SpelledAs memory_type (memory_type_tree ty)
memory_type_spelled ty r = ∣ frameless_spells memory_type refl (memory_type_is ty) r ∣₁

pub tag_type_spelled : (ty : TagType) → InRange (tag_type_tree ty) → SpelledAs tag_type (tag_type_tree ty)
tag_type_spelled ty r = ∣ frameless_spells tag_type refl (tag_type_is ty) r ∣₁

pub item_is : (kind : ExportKind) (i : ℕ) → Is (Shape.ref Named.item) (item_tree kind i)
item_is export.Func i = Is.ref (Is.first (Is.seq Is.alike Is.ix))
item_is export.Table i = Is.ref (Is.later {k = 0} (Is.first (Is.seq Is.fixed Is.ix)))
item_is export.Memory i = Is.ref (Is.later {k = 1} (Is.later {k = 0} (Is.first (Is.seq Is.fixed Is.ix))))
item_is export.Global i = Is.ref (Is.later {k = 2} (Is.later {k = 1} (Is.later {k = 0} (Is.first (Is.seq Is.fixed Is.ix)))))
item_is export.Tag i = Is.ref (Is.later {k = 3} (Is.later {k = 2} (Is.later {k = 1} (Is.later {k = 0} (Is.first (Is.seq Is.fixed Is.ix))))))

pub export_spelled : (name : List ℕ) (kind : ExportKind) (i : ℕ) → InRange (Tree.name name) → InRange (item_tree kind i) →
    SpelledAs export_row (export_tree name kind i)
export_spelled name kind i text small = ∣ frameless_spells export_row refl (Is.seq Is.name (item_is kind i)) (text, small) ∣₁
