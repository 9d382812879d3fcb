use Rattle.wasm_shapes.specs.ComponentNames.{component_names_tree}
use Rattle.wasm_write.proofs.Holding.{OnOk-map}
use Rattle.wasm_write_component.proofs.ComponentNameRows.{map_had}
use Rattle.wasm_write_component.proofs.names.ComponentNameSection.names.Goals as goal

pub add-requires-clause-subsection : goal.add-requires-clause-subsection
add-requires-clause-subsection c =
    (component_names_tree c.args.space c.args.map.now, map_had c.args.space c.args.map.now _ c.requires c.in-Core.ensures c.as_parts-count.ensures.value c.as_parts-count.ensures.spells)

pub add-requires-in-Own-clause-subsection : goal.add-requires-in-Own-clause-subsection
add-requires-in-Own-clause-subsection c =
    (component_names_tree c.args.space c.args.map.now, map_had c.args.space c.args.map.now _ c.requires c.in-Own.ensures c.as_parts-count.ensures.value c.as_parts-count.ensures.spells)

pub returns-in-Core-clause-ok : goal.returns-in-Core-clause-ok
returns-in-Core-clause-ok c =
    rw (← c.self.view_is)
    (OnOk-map c.add.result c.add.ensures.ok (λ gains.
    gains (component_names_tree c.args.space c.args.map.now) (map_had c.args.space c.args.map.now _ c.requires c.in-Core.ensures c.as_parts-count.ensures.value c.as_parts-count.ensures.spells)))

pub returns-in-Own-clause-ok : goal.returns-in-Own-clause-ok
returns-in-Own-clause-ok c =
    rw (← c.self.view_is)
    (OnOk-map c.add-in-Own.result c.add-in-Own.ensures.ok (λ gains.
    gains (component_names_tree c.args.space c.args.map.now) (map_had c.args.space c.args.map.now _ c.requires c.in-Own.ensures c.as_parts-count.ensures.value c.as_parts-count.ensures.spells)))
