-- The shapes that others name.
use Rattle.std.specs.Prelude.{[], ◌∷◌, false}
use Rattle.wasm_shapes.specs.declared.Space.TheVariants as space
use Rattle.wasm_shapes.specs.Shape.{Shape, Named, choice, lead, reference, composite_rows, sub_rows, group_rows}
use Rattle.wasm_shapes.specs.Component.{component_value_rows, core_type_rows, component_type_rows, alias_rows, type_ref_rows, nested_rows}

abbrev pub shape_of : Named → Shape
shape_of Named.value = choice (Shape.fixed 0x7f ∷ Shape.fixed 0x7e ∷ Shape.fixed 0x7d ∷ Shape.fixed 0x7c ∷ Shape.fixed 0x7b ∷ reference ∷ [])
shape_of Named.composite = choice composite_rows
shape_of Named.sub = choice sub_rows
shape_of Named.group = choice group_rows
-- an item by its kind and its index: a function of exactly its type is read as a function
shape_of Named.item = choice (
    Shape.seq (Shape.alike 0x00 0x20) (Shape.ix space.Function) ∷ lead 0x01 (Shape.ix space.Table) ∷ lead 0x02 (Shape.ix space.Memory) ∷
    lead 0x03 (Shape.ix space.Global) ∷ lead 0x04 (Shape.ix space.Tag) ∷ [])
shape_of Named.expression = Shape.until 0x0b (Shape.op false)
shape_of Named.component_value = component_value_rows
shape_of Named.core_type = core_type_rows
shape_of Named.component_type = component_type_rows
shape_of Named.alias = alias_rows
shape_of Named.type_ref = type_ref_rows
shape_of Named.nested = nested_rows
