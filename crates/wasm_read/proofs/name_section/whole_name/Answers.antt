use Rattle.wasm_read.proofs.Subsections.{name_short, name_none}
use Rattle.wasm_read.proofs.name_section.whole_name.Goals as goal

pub returns-in-Some-clause-none : goal.returns-in-Some-clause-none
returns-in-Some-clause-none c = name_short c.in-Some.ensures.some c.in-Some.len_at_least

pub returns-in-None-clause-none : goal.returns-in-None-clause-none
returns-in-None-clause-none c = name_none c.in-None.ensures.none
