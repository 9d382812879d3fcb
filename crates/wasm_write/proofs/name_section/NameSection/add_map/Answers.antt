use Rattle.std.proofs.Common.{arith}
use Rattle.wasm_shapes.specs.Namings.{names_tree}
use Rattle.wasm_write.proofs.Holding.{OnOk-map}
use Rattle.wasm_write.proofs.NameRows.{map_had}
use Rattle.wasm_write.proofs.name_section.NameSection.add_map.Goals as goal

pub add-requires : goal.add-requires
add-requires g c = record {
  short = omega arith;
  subsection = (
    names_tree c.args.id c.args.space c.args.map.now,
    map_had c.args.id c.args.space g.K.MapKind.named c.args.map.now c.requires c.as_parts-count.ensures.value c.as_parts-count.ensures.spells,
  );
}

pub returns-clause-ok : goal.returns-clause-ok
returns-clause-ok g c =
    rw (← c.self.view_is)
    (OnOk-map c.add.result c.add.ensures.ok (λ gains.
    gains (names_tree c.args.id c.args.space c.args.map.now) (map_had c.args.id c.args.space g.K.MapKind.named c.args.map.now c.requires c.as_parts-count.ensures.value c.as_parts-count.ensures.spells)))
