use Rattle.wasm_shapes.specs.declared.SectionId.TheVariants as id
use Rattle.examples.specs.Counter.{entry_type}
use Rattle.examples.proofs.Counting.{kept_behind, rows_behind}
use Rattle.examples.proofs.counter.CounterReencode.parse_type_section.Goals as goal

pub returns-clause-kept : goal.returns-clause-kept
returns-clause-kept c = kept_behind id.Type_ entry_type c.args.types.now c.parse_type_section.result c.in_ok-add_type.ensures.ok c.parse_type_section.ensures

pub returns-clause-behind : goal.returns-clause-behind
returns-clause-behind c = rows_behind id.Type_ entry_type c.args.types.now c.parse_type_section.result c.in_ok-add_type.ensures.ok c.parse_type_section.ensures
