use Rattle.wasm_reach.proofs.WithoutOthers.{told_of}
use Rattle.wasm_reach.proofs.graph.call_graph.Goals as goal

pub returns-in-None-clause-made : goal.returns-in-None-clause-made
returns-in-None-clause-made c = told_of c.args.bytes.now c.refusal.result c.refusal.ensures
