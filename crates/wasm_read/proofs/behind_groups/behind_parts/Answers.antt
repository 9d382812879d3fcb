use Rattle.std.proofs.Common.{refl}
use Rattle.wasm_shapes.proofs.Begins.{none_seq_second}
use Rattle.wasm_read.proofs.BehindTypes.{behind_none, parts_behind}
use Rattle.wasm_read.proofs.behind_groups.behind_parts.Goals as goal

pub returns-clause-some : goal.returns-clause-some
returns-clause-some c = parts_behind c.in-Some.ensures.some.0 c.behind_composite.result c.in-Some.ensures.some.1 c.behind_composite.ensures.some

pub returns-clause-none : goal.returns-clause-none
returns-clause-none c = behind_none c.behind_composite.result (λ none. none_seq_second refl refl c.in-Some.ensures.some.1 none) c.behind_composite.ensures.none
