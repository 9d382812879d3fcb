use Rattle.wasm_shapes.specs.Shape.{Shape}
use Rattle.wasm_shapes.proofs.Begins.{begins_ix, none_ix}
use Rattle.wasm_types.specs.declared.components.ComponentExternalKind.{ComponentExternalKind}
use Rattle.wasm_types.specs.ComponentTrees.{sort_space}
use Rattle.wasm_read_component.proofs.ComponentValues.{no_sort, sort_begins, sort_none}
use Rattle.wasm_read_component.proofs.value_types.front_sorted.Goals as goal

abbrev indices : ComponentExternalKind → Shape
indices k = Shape.ix (sort_space k)

pub returns-in_default-clause-none : goal.returns-in_default-clause-none
returns-in_default-clause-none c = no_sort indices _ c.in_default.ensures.none

pub returns-in-Some-front_u32-clause-some : goal.returns-in-Some-front_u32-clause-some
returns-in-Some-front_u32-clause-some c = sort_begins indices c.in-Some.kind c.in-Some.ensures.some (begins_ix c.in-Some-front_u32.ensures.some)

pub returns-in-None-clause-none : goal.returns-in-None-clause-none
returns-in-None-clause-none c = sort_none indices c.in-Some.kind c.in-Some.ensures.some (none_ix c.in-None.ensures.none)
