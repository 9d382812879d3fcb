use Rattle.std.proofs.Common.{refl}
use Rattle.wasm_shapes.specs.Tree.{Tree}
use Rattle.wasm_shapes.proofs.Begins.{begins_seq, none_seq_second}
use Rattle.wasm_read.proofs.BehindTypes.{behind_more, behind_none}
use Rattle.wasm_read.proofs.behind_groups.behind_func_type.Goals as goal

pub returns-clause-some : goal.returns-clause-some
returns-clause-some c = behind_more c.behind_vec-2.result (λ t l p. (Tree.pair c.in-Some.ensures.some.0 t, begins_seq c.in-Some.ensures.some.1 p)) c.behind_vec-2.ensures.some

pub returns-clause-none : goal.returns-clause-none
returns-clause-none c = behind_none c.behind_vec-2.result (λ none. none_seq_second refl refl c.in-Some.ensures.some.1 none) c.behind_vec-2.ensures.none
