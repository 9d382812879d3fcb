-- The spelling of instances.
use Rattle.std.proofs.Common.{refl}
use Rattle.wasm_shapes.specs.Spells.{Is}
use Rattle.wasm_shapes.specs.Fits.{InRange}
use Rattle.wasm_shapes.specs.Sections.{export_row}
use Rattle.wasm_shapes.specs.Component.{component_arg, component_instance_row, inline_export, instance_row, instantiation_arg}
use Rattle.wasm_shapes.proofs.Begins.{row_is}
use Rattle.wasm_shapes.proofs.Frameless.{frameless_spells}
use Rattle.wasm_types.specs.declared.components.ComponentArg.{ComponentArg}
use Rattle.wasm_types.specs.declared.components.ComponentInstance.{ComponentInstance}
use Rattle.wasm_types.specs.declared.components.ComponentInstance.TheVariants as component
use Rattle.wasm_types.specs.declared.components.Instance.{Instance}
use Rattle.wasm_types.specs.declared.components.Instance.TheVariants as core
use Rattle.wasm_types.specs.declared.components.InstantiationArg.{InstantiationArg}
use Rattle.wasm_types.specs.ComponentTrees.{component_arg_tree, component_instance_tree, inline_export_tree, instantiation_arg_tree}
use Rattle.wasm_write.specs.declared.types.Export.{Export}
use Rattle.wasm_write.proofs.RowSpelling.{item_is}
use Rattle.wasm_write.proofs.TypeShapes.{items_are}
use Rattle.wasm_write_component.specs.ComponentRows.{export_row_tree, instance_tree}
use Rattle.wasm_write_component.proofs.ExternRows.{SpelledAs, sorted_is}

instantiation_arg_is : (a : InstantiationArg) → Is instantiation_arg (instantiation_arg_tree a)
instantiation_arg_is a = Is.seq Is.name (Is.seq Is.fixed Is.ix)

export_is : (e : Export) → Is export_row (export_row_tree e)
export_is e = Is.seq Is.name (item_is e.kind e.index)

component_arg_is : (a : ComponentArg) → Is component_arg (component_arg_tree a)
component_arg_is a = Is.seq Is.name (sorted_is a.kind a.index)

inline_export_is : (a : ComponentArg) → Is inline_export (inline_export_tree a)
inline_export_is a = Is.seq (Is.seq Is.alike Is.name) (sorted_is a.kind a.index)

instance_is : (i : Instance Export) → Is instance_row (instance_tree i)
instance_is (core.Instantiate m args) =
    row_is instance_row 0 (Is.seq Is.fixed (Is.seq Is.ix (Is.vec (items_are instantiation_arg instantiation_arg_tree instantiation_arg_is args))))
instance_is (core.FromExports exports) = row_is instance_row 1 (Is.seq Is.fixed (Is.vec (items_are export_row export_row_tree export_is exports)))

component_instance_is : (i : ComponentInstance) → Is component_instance_row (component_instance_tree i)
component_instance_is (component.Instantiate c args) =
    row_is component_instance_row 0 (Is.seq Is.fixed (Is.seq Is.ix (Is.vec (items_are component_arg component_arg_tree component_arg_is args))))
component_instance_is (component.FromExports exports) =
    row_is component_instance_row 1 (Is.seq Is.fixed (Is.vec (items_are inline_export inline_export_tree inline_export_is exports)))

pub instance_spelled : (i : Instance Export) → InRange (instance_tree i) → SpelledAs instance_row (instance_tree i)
instance_spelled i h = ∣ frameless_spells instance_row refl (instance_is i) h ∣₁

pub component_instance_spelled : (i : ComponentInstance) → InRange (component_instance_tree i) → SpelledAs component_instance_row (component_instance_tree i)
component_instance_spelled i h = ∣ frameless_spells component_instance_row refl (component_instance_is i) h ∣₁
