use Rattle.std.proofs.Common.{arith}
use Rattle.wasm_shapes.specs.Namings.{raw_names_tree}
use Rattle.wasm_write.proofs.Holding.{OnOk-map}
use Rattle.wasm_write.proofs.NameRows.{raw_had}
use Rattle.wasm_write.proofs.name_section.NameSection.raw.Goals as goal

pub add-requires : goal.add-requires
add-requires c = record {
  short = omega arith;
  subsection = (raw_names_tree c.args.id c.args.contents.now, raw_had c.args.id c.args.contents.now c.requires (omega arith));
}

pub returns-clause-ok : goal.returns-clause-ok
returns-clause-ok c =
    rw (← c.self.view_is)
    (OnOk-map c.add.result c.add.ensures.ok (λ gains. gains (raw_names_tree c.args.id c.args.contents.now) (raw_had c.args.id c.args.contents.now c.requires (omega arith))))
