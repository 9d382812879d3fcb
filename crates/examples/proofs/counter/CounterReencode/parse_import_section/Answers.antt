use Rattle.wasm_shapes.specs.declared.SectionId.TheVariants as id
use Rattle.examples.specs.Counter.{entry_import}
use Rattle.examples.proofs.Counting.{kept_behind, rows_behind}
use Rattle.examples.proofs.counter.CounterReencode.parse_import_section.Goals as goal

pub returns-clause-kept : goal.returns-clause-kept
returns-clause-kept c = kept_behind id.Import entry_import c.args.imports.now c.parse_import_section.result c.in_ok-add_import.ensures.ok c.parse_import_section.ensures

pub returns-clause-behind : goal.returns-clause-behind
returns-clause-behind c = rows_behind id.Import entry_import c.args.imports.now c.parse_import_section.result c.in_ok-add_import.ensures.ok c.parse_import_section.ensures
