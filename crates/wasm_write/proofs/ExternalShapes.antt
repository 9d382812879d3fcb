-- The trees of tables, memories, globals, tags and of what is imported have the shapes of their tables.
use Rattle.std.specs.Option.{is_some}
use Rattle.std.proofs.Common.{◌≡◌, ℕ, zero, suc, Bool, true, false, List, [], ◌∷◌, map, get_or, Option, Some, None, refl, sym, subst}
use Rattle.std.specs.Borrow.{Bor}
use Rattle.wasm_shapes.specs.Tree.{Tree}
use Rattle.wasm_shapes.specs.Shape.{Shape, choice, lead, bounds, paged, four_limits, memory_type, table_type, global_type, tag_type, entity, entity_rows}
use Rattle.wasm_shapes.specs.Module.{import_row, unnamed, compact_item, compact_rows}
use Rattle.wasm_shapes.specs.Spells.{Is}
use Rattle.wasm_write.specs.declared.types.TableType.{TableType}
use Rattle.wasm_write.specs.declared.types.MemoryType.{MemoryType}
use Rattle.wasm_write.specs.declared.types.GlobalType.{GlobalType}
use Rattle.wasm_types.specs.declared.types.TagType.{TagType}
use Rattle.wasm_write.specs.declared.types.EntityType.{EntityType}
use Rattle.wasm_write.specs.declared.types.EntityType.TheVariants as variant
use Rattle.wasm_write.specs.declared.types.ImportCompact.{ImportCompact}
use Rattle.wasm_write.specs.declared.types.Imports.{Imports}
use Rattle.wasm_write.specs.declared.types.Imports.TheVariants as imported
use Rattle.wasm_shapes.specs.Types.{led, rows_tree, limits_flags, bounds_tree, paged_tree, limits_tree, global_flags}
use Rattle.wasm_write.specs.Types.{table_type_tree, memory_type_tree, global_type_tree, tag_type_tree, entity_tree}
use Rattle.wasm_shapes.proofs.Begins.{row_is}
use Rattle.wasm_shapes.proofs.Parts.{among}
use Rattle.wasm_write.specs.Rows.{import_tree, compact_tree, name_tree}
use Rattle.wasm_write.proofs.TypeShapes.{reference_is, value_is}

-- a row by its number
row_at : (rows : List Shape) (k : ℕ) {t : Tree} → Is (get_or rows k Shape.none) t → Is (choice rows) (Tree.row k t)
row_at [] k d = elim d [ ]
row_at (s ∷ rows) zero d = Is.first d
row_at (s ∷ rows) (suc k) d = Is.later (row_at rows k d)

-- ---- limits

bounds_is : (minimum : ℕ) (maximum : Option ℕ) → Is (bounds (is_some maximum)) (bounds_tree minimum maximum)
bounds_is minimum None = Is.u64
bounds_is minimum (Some maximum) = Is.seq Is.u64 Is.u64

paged_is : (page : Option ℕ) {s : Shape} {t : Tree} → Is s t → Is (paged (is_some page) s) (paged_tree page t)
paged_is None d = d
paged_is (Some page) d = Is.seq d Is.u32

-- limits in the row that their flags say
limits_are : (rows : List Shape) (flags : ℕ) {s : Shape} {t : Tree} → get_or rows flags Shape.none ≡ lead flags s → Is s t → Is (choice rows) (limits_tree flags t)
limits_are rows flags {s = s} {t = t} e d =
    let P : Shape → Type 0 = λ z. Is z (led flags t) in
    row_at rows flags (subst P (sym e) (Is.seq Is.fixed d))

abbrev table_rows : List Shape
table_rows = four_limits 0 false (four_limits 4 false [])

abbrev memory_rows : List Shape
memory_rows = four_limits 0 false (four_limits 4 false (four_limits 8 true (four_limits 12 true [])))

table_row : (m s w : Bool) → get_or table_rows (limits_flags m s w false) Shape.none ≡ lead (limits_flags m s w false) (bounds m)
table_row false false false = refl
table_row true false false = refl
table_row false true false = refl
table_row true true false = refl
table_row false false true = refl
table_row true false true = refl
table_row false true true = refl
table_row true true true = refl

memory_row : (m s w p : Bool) → get_or memory_rows (limits_flags m s w p) Shape.none ≡ lead (limits_flags m s w p) (paged p (bounds m))
memory_row false false false false = refl
memory_row true false false false = refl
memory_row false true false false = refl
memory_row true true false false = refl
memory_row false false true false = refl
memory_row true false true false = refl
memory_row false true true false = refl
memory_row true true true false = refl
memory_row false false false true = refl
memory_row true false false true = refl
memory_row false true false true = refl
memory_row true true false true = refl
memory_row false false true true = refl
memory_row true false true true = refl
memory_row false true true true = refl
memory_row true true true true = refl

-- ---- what is imported

pub table_type_is : (ty : TableType) → Is table_type (table_type_tree ty)
table_type_is ty =
    Is.seq (reference_is ty.element_type.nullable ty.element_type.heap_type)
    (limits_are table_rows _ (table_row (is_some ty.maximum) ty.shared ty.table64) (bounds_is ty.minimum ty.maximum))

pub memory_type_is : (ty : MemoryType) → Is memory_type (memory_type_tree ty)
memory_type_is ty =
    limits_are memory_rows _ (memory_row (is_some ty.maximum) ty.shared ty.memory64 (is_some ty.page_size_log2))
    (paged_is ty.page_size_log2 (bounds_is ty.minimum ty.maximum))

abbrev global_rows : List Shape
global_rows = Shape.fixed 0 ∷ Shape.fixed 1 ∷ Shape.fixed 2 ∷ Shape.fixed 3 ∷ []

global_row : (m s : Bool) → get_or global_rows (global_flags m s) Shape.none ≡ Shape.fixed (global_flags m s)
global_row false false = refl
global_row true false = refl
global_row false true = refl
global_row true true = refl

pub global_type_is : (ty : GlobalType) → Is global_type (global_type_tree ty)
global_type_is ty =
    let flags = global_flags ty.mutable ty.shared in
    let P : Shape → Type 0 = λ z. Is z (Tree.fixed flags) in
    Is.seq (value_is ty.val_type) (row_at global_rows flags (subst P (sym (global_row ty.mutable ty.shared)) Is.fixed))

pub tag_type_is : (ty : TagType) → Is tag_type (tag_type_tree ty)
tag_type_is ty = Is.seq Is.fixed Is.ix

pub entity_is : (ty : EntityType) → Is entity (entity_tree ty)
entity_is (variant.Function i) = Is.first (Is.seq Is.fixed Is.ix)
entity_is (variant.Table ty) = Is.later {k = 0} (Is.first (Is.seq Is.fixed (table_type_is ty)))
entity_is (variant.Memory ty) = Is.later {k = 1} (Is.later {k = 0} (Is.first (Is.seq Is.fixed (memory_type_is ty))))
entity_is (variant.Global ty) = Is.later {k = 2} (Is.later {k = 1} (Is.later {k = 0} (Is.first (Is.seq Is.fixed (global_type_is ty)))))
entity_is (variant.Tag ty) = Is.later {k = 3} (Is.later {k = 2} (Is.later {k = 1} (Is.later {k = 0} (Is.first (Is.seq Is.fixed (tag_type_is ty))))))
entity_is (variant.FunctionExact i) = Is.later {k = 4} (Is.later {k = 3} (Is.later {k = 2} (Is.later {k = 1} (Is.later {k = 0} (Is.first (Is.seq Is.fixed Is.ix))))))

-- a type behind a name, empty or not
single_is : (name : List ℕ) {t : Tree} → Is entity t → Is (Shape.by_name [] unnamed entity) (Tree.pair (Tree.name name) t)
single_is [] d = Is.named (among entity_rows compact_rows d)
single_is (b ∷ bs) d = Is.other (λ e. cc) d

items_are : (items : List ImportCompact) → Is (Shape.many compact_item) (rows_tree (map compact_tree items))
items_are [] = Is.nil
items_are (x ∷ xs) = Is.cons (Is.seq Is.name (entity_is x.ty)) (items_are xs)

names_are : (names : List (Bor (List ℕ))) → Is (Shape.many Shape.name) (rows_tree (map name_tree names))
names_are [] = Is.nil
names_are (x ∷ xs) = Is.cons Is.name (names_are xs)

pub import_is : (row : Imports) → Is import_row (import_tree row)
import_is (imported.Single row) = Is.seq Is.name (single_is row.name.now (entity_is row.ty))
import_is (imported.Compact1 «module» items) = Is.seq Is.name (Is.named (row_is unnamed 6 (Is.seq Is.fixed (Is.vec (items_are items)))))
import_is (imported.Compact2 «module» ty names) = Is.seq Is.name (Is.named (row_is unnamed 7 (Is.seq Is.fixed (Is.seq (entity_is ty) (Is.vec (names_are names))))))
