use Rattle.std.proofs.Common.{arith}
use Rattle.wasm_shapes.specs.Namings.{module_name_tree}
use Rattle.wasm_write.proofs.Holding.{OnOk-map}
use Rattle.wasm_write_component.proofs.ComponentNameRows.{name_had}
use Rattle.wasm_write_component.proofs.names.ComponentNameSection.component.Goals as goal

pub add-requires : goal.add-requires
add-requires c = record {
  short = omega arith;
  subsection = (module_name_tree c.args.name.now, rw c.as_bytes.ensures.value (name_had c.args.name.now (omega (arith, c.if-size.false), c.utf8.name)));
}

pub returns-clause-ok : goal.returns-clause-ok
returns-clause-ok c =
    rw (← c.self.view_is)
    (OnOk-map c.add.result c.add.ensures.ok (λ gains.
    gains (module_name_tree c.args.name.now) (rw c.as_bytes.ensures.value (name_had c.args.name.now (omega (arith, c.if-size.false), c.utf8.name)))))
