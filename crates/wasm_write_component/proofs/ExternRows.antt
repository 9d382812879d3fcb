-- The spelling of imports and exports of components.
use Rattle.std.proofs.Common.{ℕ, Option, Some, None, refl}
use Rattle.wasm_shapes.specs.Tree.{Tree, normal}
use Rattle.wasm_shapes.specs.Shape.{Shape}
use Rattle.wasm_shapes.specs.Spells.{Is, Spells}
use Rattle.wasm_shapes.specs.Fits.{InRange}
use Rattle.wasm_shapes.specs.Component.{component_export_row, component_value, extern_row, primitive, sorted_item, type_bounds, type_ref, type_ref_rows}
use Rattle.wasm_shapes.proofs.Begins.{row_is}
use Rattle.wasm_shapes.proofs.Frameless.{frameless_spells}
use Rattle.wasm_types.specs.declared.components.ComponentExport.{ComponentExport}
use Rattle.wasm_types.specs.declared.components.ComponentExternalKind.{ComponentExternalKind}
use Rattle.wasm_types.specs.declared.components.ComponentExternalKind.TheVariants as kind
use Rattle.wasm_types.specs.declared.components.ComponentImport.{ComponentImport}
use Rattle.wasm_types.specs.declared.components.ComponentTypeRef.{ComponentTypeRef}
use Rattle.wasm_types.specs.declared.components.ComponentTypeRef.TheVariants as ref
use Rattle.wasm_types.specs.declared.components.ComponentValType.{ComponentValType}
use Rattle.wasm_types.specs.declared.components.ComponentValType.TheVariants as value
use Rattle.wasm_types.specs.declared.components.PrimitiveValType.{PrimitiveValType}
use Rattle.wasm_types.specs.declared.components.PrimitiveValType.TheVariants as ty
use Rattle.wasm_types.specs.declared.components.TypeBounds.{TypeBounds}
use Rattle.wasm_types.specs.declared.components.TypeBounds.TheVariants as bounds
use Rattle.wasm_types.specs.ComponentTrees.{component_export_tree, component_import_tree, component_val_type_tree, maybe_type_ref, primitive_tree, sorted_tree, type_bounds_tree, type_ref_tree}

abbrev pub SpelledAs : Shape → Tree → Type 0
SpelledAs s t = ∥ Spells s (normal t) t ∥₁

pub primitive_is : (t : PrimitiveValType) → Is primitive (primitive_tree t)
primitive_is ty.Bool = row_is primitive 0 Is.fixed
primitive_is _ = row_is primitive _ Is.fixed

pub value_is : (t : ComponentValType) → Is component_value (component_val_type_tree t)
value_is (value.Primitive t) = Is.ref (Is.first (primitive_is t))
value_is (value.Type_ i) = Is.ref (Is.later {k = 0} (Is.first Is.sx))

bounds_is : (b : TypeBounds) → Is type_bounds (type_bounds_tree b)
bounds_is (bounds.Eq i) = Is.first (Is.seq Is.fixed Is.ix)
bounds_is bounds.SubResource = Is.later {k = 0} (Is.first Is.fixed)

ref_is : (t : ComponentTypeRef) → Is type_ref (type_ref_tree t)
ref_is (ref.Module i) = Is.ref (row_is type_ref_rows 0 (Is.seq Is.fixed (Is.seq Is.fixed Is.ix)))
ref_is (ref.Func i) = Is.ref (row_is type_ref_rows 1 (Is.seq Is.fixed Is.ix))
ref_is (ref.Value t) = Is.ref (row_is type_ref_rows 2 (Is.seq Is.fixed (value_is t)))
ref_is (ref.Type_ b) = Is.ref (row_is type_ref_rows 3 (Is.seq Is.fixed (bounds_is b)))
ref_is (ref.Component i) = Is.ref (row_is type_ref_rows 4 (Is.seq Is.fixed Is.ix))
ref_is (ref.Instance i) = Is.ref (row_is type_ref_rows 5 (Is.seq Is.fixed Is.ix))

pub sorted_is : (k : ComponentExternalKind) (i : ℕ) → Is sorted_item (sorted_tree k i)
sorted_is kind.Module i = row_is sorted_item 0 (Is.seq Is.fixed (Is.seq Is.fixed Is.ix))
sorted_is kind.Func i = row_is sorted_item 1 (Is.seq Is.fixed Is.ix)
sorted_is kind.Value i = row_is sorted_item 2 (Is.seq Is.fixed Is.ix)
sorted_is kind.Type_ i = row_is sorted_item 3 (Is.seq Is.fixed Is.ix)
sorted_is kind.Component i = row_is sorted_item 4 (Is.seq Is.fixed Is.ix)
sorted_is kind.Instance i = row_is sorted_item 5 (Is.seq Is.fixed Is.ix)

maybe_is : (t : Option ComponentTypeRef) → Is (Shape.opt type_ref) (maybe_type_ref t)
maybe_is None = Is.absent
maybe_is (Some t) = Is.present (ref_is t)

pub import_spelled : (r : ComponentImport) → InRange (component_import_tree r) → SpelledAs extern_row (component_import_tree r)
import_spelled r h = ∣ frameless_spells extern_row refl (Is.seq (Is.seq Is.alike Is.name) (ref_is r.ty)) h ∣₁

pub export_spelled : (r : ComponentExport) → InRange (component_export_tree r) → SpelledAs component_export_row (component_export_tree r)
export_spelled r h =
    ∣ frameless_spells component_export_row refl (Is.seq (Is.seq Is.alike Is.name) (Is.seq (sorted_is r.kind r.index) (maybe_is r.ty))) h ∣₁
