use Rattle.wasm_shapes.specs.declared.Space.TheVariants as space
use Rattle.wasm_shapes.specs.Shape.{Shape}
use Rattle.wasm_shapes.specs.Component.{component_value, type_bounds}
use Rattle.wasm_shapes.proofs.Begins.{begins_ix, begins_ref, none_ix, none_ref}
use Rattle.wasm_types.specs.declared.components.ComponentExternalKind.{ComponentExternalKind}
use Rattle.wasm_types.specs.declared.components.ComponentExternalKind.TheVariants as kind
use Rattle.wasm_read_component.proofs.ComponentValues.{no_sort, sort_begins, sort_none}
use Rattle.wasm_read_component.proofs.value_types.front_component_type_ref.Goals as goal

abbrev types : ComponentExternalKind → Shape
types kind.Module = Shape.ix space.Type_
types kind.Value = component_value
types kind.Type_ = type_bounds
types _ = Shape.ix space.ComponentType

pub returns-in_default-clause-none : goal.returns-in_default-clause-none
returns-in_default-clause-none c = none_ref (no_sort types _ c.in_default.ensures.none)

pub returns-in-Some-front_component_val_type-clause-some : goal.returns-in-Some-front_component_val_type-clause-some
returns-in-Some-front_component_val_type-clause-some c =
    begins_ref (sort_begins types kind.Value (rw c.in-Value.is at c.in-Some.ensures.some) c.in-Some-front_component_val_type.ensures.some)

pub returns-in-None-clause-none : goal.returns-in-None-clause-none
returns-in-None-clause-none c = none_ref (sort_none types kind.Value (rw c.in-Value.is at c.in-Some.ensures.some) c.in-None.ensures.none)

pub returns-in-Some-front_type_bounds-clause-some : goal.returns-in-Some-front_type_bounds-clause-some
returns-in-Some-front_type_bounds-clause-some c =
    begins_ref (sort_begins types kind.Type_ (rw c.in-Type_.is at c.in-Some.ensures.some) c.in-Some-front_type_bounds.ensures.some)

pub returns-in-None-front_type_bounds-clause-none : goal.returns-in-None-front_type_bounds-clause-none
returns-in-None-front_type_bounds-clause-none c = none_ref (sort_none types kind.Type_ (rw c.in-Type_.is at c.in-Some.ensures.some) c.in-None-front_type_bounds.ensures.none)

pub returns-in-Some-front_u32-clause-some : goal.returns-in-Some-front_u32-clause-some
returns-in-Some-front_u32-clause-some c = begins_ref (sort_begins types kind.Module (rw c.in-Module.is at c.in-Some.ensures.some) (begins_ix c.in-Some-front_u32.ensures.some))

pub returns-in-None-front_u32-clause-none : goal.returns-in-None-front_u32-clause-none
returns-in-None-front_u32-clause-none c = none_ref (sort_none types kind.Module (rw c.in-Module.is at c.in-Some.ensures.some) (none_ix c.in-None-front_u32.ensures.none))

pub returns-in-Some-front_u32-2-clause-some : goal.returns-in-Some-front_u32-2-clause-some
returns-in-Some-front_u32-2-clause-some c = begins_ref (sort_begins types kind.Func (rw c.in-Func.is at c.in-Some.ensures.some) (begins_ix c.in-Some-front_u32-2.ensures.some))

pub returns-in-None-front_u32-2-clause-none : goal.returns-in-None-front_u32-2-clause-none
returns-in-None-front_u32-2-clause-none c = none_ref (sort_none types kind.Func (rw c.in-Func.is at c.in-Some.ensures.some) (none_ix c.in-None-front_u32-2.ensures.none))

pub returns-in-Some-front_u32-3-clause-some : goal.returns-in-Some-front_u32-3-clause-some
returns-in-Some-front_u32-3-clause-some c = begins_ref (sort_begins types kind.Component (rw c.in-Component.is at c.in-Some.ensures.some) (begins_ix c.in-Some-front_u32-3.ensures.some))

pub returns-in-None-front_u32-3-clause-none : goal.returns-in-None-front_u32-3-clause-none
returns-in-None-front_u32-3-clause-none c = none_ref (sort_none types kind.Component (rw c.in-Component.is at c.in-Some.ensures.some) (none_ix c.in-None-front_u32-3.ensures.none))

pub returns-in-Some-front_u32-4-clause-some : goal.returns-in-Some-front_u32-4-clause-some
returns-in-Some-front_u32-4-clause-some c = begins_ref (sort_begins types kind.Instance (rw c.in-Instance.is at c.in-Some.ensures.some) (begins_ix c.in-Some-front_u32-4.ensures.some))

pub returns-in-None-front_u32-4-clause-none : goal.returns-in-None-front_u32-4-clause-none
returns-in-None-front_u32-4-clause-none c = none_ref (sort_none types kind.Instance (rw c.in-Instance.is at c.in-Some.ensures.some) (none_ix c.in-None-front_u32-4.ensures.none))
