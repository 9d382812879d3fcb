use Rattle.std.proofs.Common.{ap, length, arith}
use Rattle.call_graph.proofs.Stretches.{stretches-length}
use Rattle.call_graph.proofs.graph.CallGraph.len.Goals as goal

pub returns-clause-len : goal.returns-clause-len
returns-clause-len c =
    let g = c.self.inside in
    omega (arith, c.len.ensures, ap length c.self.view_is, stretches-length g.calls.items 0 g.ends.items)
