-- The spelling of types of components and core types.
use Rattle.std.proofs.Common.{◌≡◌, ℕ, zero, suc, ◌<◌, ◌^◌, List, [], ◌∷◌, ◌++◌, length, Bool, true, false, Option, Some, None, refl, sym, ap, ap₂, ◌∙◌, append_assoc}
use mathlib.Core.Logic.{∥∥₁_map}
use Rattle.std.specs.Borrow.{Bor}
use Rattle.wasm_leb.specs.Leb.{leb}
use Rattle.wasm_leb.proofs.Shortest.{leb_spells}
use Rattle.wasm_shapes.specs.declared.Space.TheVariants as space
use Rattle.wasm_shapes.specs.Tree.{Tree, count, normal}
use Rattle.wasm_shapes.specs.Shape.{Shape, Named, choice, entity, lead, group_rows}
use Rattle.wasm_shapes.specs.Sections.{import_row, single_import}
use Rattle.wasm_shapes.specs.NamedShapes.{shape_of}
use Rattle.wasm_shapes.specs.Spells.{Is}
use Rattle.wasm_shapes.specs.Fits.{InRange}
use Rattle.wasm_shapes.specs.Types.{led, rows_tree}
use Rattle.wasm_shapes.specs.Component.{component_type, component_type_rows, component_value, core_type, core_type_rows, defined_type, function_type, maybe_value, module_declaration, named_value, variant_case}
use Rattle.wasm_shapes.proofs.Begins.{row_at, row_is}
use Rattle.wasm_shapes.proofs.Frameless.{frameless_spells}
use Rattle.wasm_types.specs.declared.components.ComponentDefinedType.{ComponentDefinedType}
use Rattle.wasm_types.specs.declared.components.ComponentDefinedType.TheVariants as defined
use Rattle.wasm_types.specs.declared.components.ComponentFuncType.{ComponentFuncType}
use Rattle.wasm_types.specs.declared.components.ComponentValType.{ComponentValType}
use Rattle.wasm_types.specs.declared.components.VariantCase.{VariantCase}
use Rattle.wasm_types.specs.ComponentTrees.{component_defined_type_tree, component_func_type_tree, component_signature_tree, component_val_type_tree, core_group_tree, func_row, label_tree, maybe_value_tree, named_value_tree, resource_tree, variant_case_tree}
use Rattle.wasm_write.specs.declared.types.EntityType.{EntityType}
use Rattle.wasm_write.specs.declared.types.Import.{Import}
use Rattle.wasm_write.specs.declared.types.RecGroup.{RecGroup}
use Rattle.wasm_write.specs.Rows.{single_tree}
use Rattle.wasm_write.specs.Types.{ValType, entity_tree, group_tree, val_type_tree}
use Rattle.wasm_write.proofs.ExternalShapes.{entity_is}
use Rattle.wasm_write.proofs.Holding.{count_rows}
use Rattle.wasm_write.proofs.TypeShapes as core
use Rattle.wasm_write.proofs.TypeShapes.{group_is, items_are}
use Rattle.wasm_write_component.specs.TypeRows.{scope_tree}
use Rattle.wasm_write_component.proofs.ComponentCanonical.{result_is}
use Rattle.wasm_write_component.proofs.ExternRows.{SpelledAs, primitive_is, value_is}

-- ---- rows of choices

-- a tree behind a byte
led_spelled : {s : Shape} {t : Tree} (b : ℕ) → SpelledAs s t → SpelledAs (lead b s) (led b t)
led_spelled {t = t} b p = ∥∥₁_map p (λ q. record { shaped = Is.seq Is.fixed q.shaped; spelled = (b ∷ [], normal t, refl, refl, q.spelled) })

-- a row of a choice, by its number
row_spelled : {t : Tree} (rows : Shape) (k : ℕ) → SpelledAs (row_at rows k) t → SpelledAs rows (Tree.row k t)
row_spelled rows k p = ∥∥₁_map p (λ q. record { shaped = row_is rows k q.shaped; spelled = q.spelled })

-- behind its byte
pub choice_spelled : {s : Shape} {t : Tree} (rows : Shape) (k b : ℕ) → row_at rows k ≡ lead b s → SpelledAs s t → SpelledAs rows (Tree.row k (led b t))
choice_spelled rows k b e p = row_spelled rows k (rw e (led_spelled b p))

pub named_spelled : {t : Tree} (n : Named) → SpelledAs (shape_of n) t → SpelledAs (Shape.ref n) t
named_spelled n p = ∥∥₁_map p (λ q. record { shaped = Is.ref q.shaped; spelled = q.spelled })

-- ---- types of values

maybe_is : (t : Option ComponentValType) → Is maybe_value (maybe_value_tree t)
maybe_is None = Is.absent
maybe_is (Some t) = Is.present (value_is t)

named_value_is : (v : Bor (List ℕ) × ComponentValType) → Is named_value (named_value_tree v)
named_value_is v = Is.seq Is.name (value_is v.1)

variant_case_is : (c : VariantCase) → Is variant_case (variant_case_tree c)
variant_case_is c = Is.seq Is.name (Is.seq (maybe_is c.ty) Is.fixed)

label_is : (name : Bor (List ℕ)) → Is Shape.name (label_tree name)
label_is name = Is.name

defined_is : (t : ComponentDefinedType) → Is defined_type (component_defined_type_tree t)
defined_is (defined.Primitive t) = row_is defined_type 0 (primitive_is t)
defined_is (defined.Record fields) = row_is defined_type 1 (Is.seq Is.fixed (Is.vec (items_are named_value named_value_tree named_value_is fields)))
defined_is (defined.Variant cases) = row_is defined_type 2 (Is.seq Is.fixed (Is.vec (items_are variant_case variant_case_tree variant_case_is cases)))
defined_is (defined.List t) = row_is defined_type 3 (Is.seq Is.fixed (value_is t))
defined_is (defined.Tuple types) = row_is defined_type 4 (Is.seq Is.fixed (Is.vec (items_are component_value component_val_type_tree value_is types)))
defined_is (defined.Flags names) = row_is defined_type 5 (Is.seq Is.fixed (Is.vec (items_are Shape.name label_tree label_is names)))
defined_is (defined.Enum names) = row_is defined_type 6 (Is.seq Is.fixed (Is.vec (items_are Shape.name label_tree label_is names)))
defined_is (defined.Option t) = row_is defined_type 7 (Is.seq Is.fixed (value_is t))
defined_is (defined.Result ok err) = row_is defined_type 8 (Is.seq Is.fixed (Is.seq (maybe_is ok) (maybe_is err)))
defined_is (defined.Own i) = row_is defined_type 9 (Is.seq Is.fixed Is.ix)
defined_is (defined.Borrow i) = row_is defined_type 10 (Is.seq Is.fixed Is.ix)
defined_is (defined.FixedLengthList t n) = row_is defined_type 11 (Is.seq Is.fixed (Is.seq (value_is t) Is.u32))
defined_is (defined.Stream t) = row_is defined_type 12 (Is.seq Is.fixed (maybe_is t))
defined_is (defined.Future t) = row_is defined_type 13 (Is.seq Is.fixed (maybe_is t))
defined_is (defined.Map key value) = row_is defined_type 14 (Is.seq Is.fixed (Is.seq (value_is key) (value_is value)))

pub defined_spelled : (t : ComponentDefinedType) → InRange (component_defined_type_tree t) → SpelledAs component_type (Tree.row 0 (component_defined_type_tree t))
defined_spelled t h = ∣ frameless_spells component_type refl (Is.ref (row_is component_type_rows 0 (defined_is t))) h ∣₁

-- ---- types of functions and resources

func_row_is : (async : Bool) {t : Tree} → Is function_type t → Is component_type_rows (func_row async t)
func_row_is false d = row_is component_type_rows 1 (Is.seq Is.fixed d)
func_row_is true d = row_is component_type_rows 2 (Is.seq Is.fixed d)

signature_is : (f : ComponentFuncType) → Is function_type (component_signature_tree f)
signature_is f = Is.seq (Is.vec (items_are named_value named_value_tree named_value_is f.params)) (result_is f.result)

pub func_spelled : (f : ComponentFuncType) → InRange (component_func_type_tree f) → SpelledAs component_type (component_func_type_tree f)
func_spelled f h = ∣ frameless_spells component_type refl (Is.ref (func_row_is f.async_ (signature_is f))) h ∣₁

pub resource_spelled : (rep : ValType) (dtor : Option ℕ) → InRange (resource_tree (val_type_tree rep) dtor) → SpelledAs component_type (resource_tree (val_type_tree rep) dtor)
resource_spelled rep None h = ∣ frameless_spells component_type refl (Is.ref (row_is component_type_rows 5 (Is.seq Is.fixed (Is.seq (core.value_is rep) Is.absent)))) h ∣₁
resource_spelled rep (Some i) h = ∣ frameless_spells component_type refl (Is.ref (row_is component_type_rows 5 (Is.seq Is.fixed (Is.seq (core.value_is rep) (Is.present Is.ix))))) h ∣₁

-- ---- core types

core_rows_are : {t : Tree} → Is (choice group_rows) t → Is core_type_rows (core_group_tree t)
core_rows_are (Is.first d) = row_is core_type_rows 2 (Is.first d)
core_rows_are (Is.later (Is.first d)) = row_is core_type_rows 1 (Is.seq Is.fixed (Is.later (Is.first d)))
core_rows_are (Is.later (Is.later (Is.first d))) = row_is core_type_rows 2 (Is.later (Is.later (Is.first d)))
core_rows_are (Is.later (Is.later (Is.later d))) = elim d [ ]

core_group_is : {t : Tree} → Is (Shape.ref Named.group) t → Is core_type (core_group_tree t)
core_group_is (Is.ref d) = Is.ref (core_rows_are d)

core_in_range : (t : Tree) → InRange t → InRange (core_group_tree t)
core_in_range (Tree.row (suc zero) t) h = (tt, h)
core_in_range _ h = h

pub group_spelled : (group : RecGroup) → InRange (group_tree group) → SpelledAs core_type (core_group_tree (group_tree group))
group_spelled group h = ∣ frameless_spells core_type refl (core_group_is (group_is group)) (core_in_range (group_tree group) h) ∣₁

-- ---- scopes

-- a byte, a number and rows were appended one behind another
pub scope_written : (old : List ℕ) (b : ℕ) (rows : List Tree) {n : ℕ} {behind start out text : List ℕ} → behind ≡ old ++ b ∷ [] → n ≡ length rows → start ≡ behind ++ leb n →
    out ≡ start ++ text → text ≡ normal (rows_tree rows) → out ≡ old ++ normal (led b (scope_tree rows))
scope_written old b rows {n = n} e k f g h =
    let r = normal (rows_tree rows) in
    g ∙ ap₂ (λ (y z : List ℕ). y ++ z) (f ∙ ap (λ (z : List ℕ). z ++ leb n) e) h ∙ append_assoc (old ++ b ∷ []) (leb n) r ∙ append_assoc old (b ∷ []) (leb n ++ r)
    ∙ ap (λ (m : ℕ). old ++ b ∷ (leb m ++ r)) (k ∙ sym (count_rows rows))

-- their number and the rows spell what the scope declares
pub scope_spelled : {s : Shape} (rows : List Tree) → length rows < 2 ^ 32 → SpelledAs (Shape.many s) (rows_tree rows) → SpelledAs (Shape.scope (Shape.vec s)) (scope_tree rows)
scope_spelled rows small p =
    let r = rows_tree rows in
    let few : count r < 2 ^ 32 = rw (count_rows rows) small in
    ∥∥₁_map p (λ q. record { shaped = Is.scope (Is.vec q.shaped); spelled = (leb (count r), normal r, refl, leb_spells (count r) few, q.spelled) })

-- ---- an alias of a type further out

pub outer_spelled : (c i : ℕ) → c < 2 ^ 32 → i < 2 ^ 32 → SpelledAs module_declaration (Tree.row 2 (led 0x02 (led 0x10 (led 0x01 (Tree.outer space.Type_ c i)))))
outer_spelled c i h k = ∣ frameless_spells module_declaration refl (row_is module_declaration 2 (Is.seq Is.fixed (Is.seq Is.fixed (Is.seq Is.fixed Is.outer)))) (tt, (tt, (tt, (h, k)))) ∣₁

-- ---- what a module imports and exports

-- an import stands in a module type as it stands in a section, where it is a single one
pub single_spelled : (row : Import) → SpelledAs import_row (single_tree row) → SpelledAs single_import (single_tree row)
single_spelled row p = ∥∥₁_map p (λ q. record { shaped = Is.seq Is.name (Is.seq Is.name (entity_is row.ty)); spelled = q.spelled })

pub entity_spelled : (name : Bor (List ℕ)) (ty : EntityType) → InRange (Tree.pair (Tree.name name.now) (entity_tree ty)) →
    SpelledAs module_declaration (Tree.row 3 (led 0x03 (Tree.pair (Tree.name name.now) (entity_tree ty))))
entity_spelled name ty h = ∣ frameless_spells module_declaration refl (row_is module_declaration 3 (Is.seq Is.fixed (Is.seq Is.name (entity_is ty)))) (tt, h) ∣₁
