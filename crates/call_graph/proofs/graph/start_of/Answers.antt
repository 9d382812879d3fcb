use Rattle.std.proofs.Common.{◌≡◌, suc, sym, ap, ◌∙◌, arith}
use Rattle.call_graph.specs.Graph.{start_of}
use Rattle.call_graph.proofs.Stretches.{starts-behind}
use Rattle.call_graph.proofs.graph.start_of.Goals as goal

pub returns-in-Some-get : goal.returns-in-Some-get
returns-in-Some-get c h =
    let found = c.in-Some-get.ensures.lookup in
    let place : c.args.place ≡ suc c.in-Some.before = omega (arith, c.in-Some.ensures) in
    found.3.1 0 ∙ sym (starts-behind 0 c.args.ends.now c.in-Some.before found.3.0) ∙ ap (start_of 0 c.args.ends.now) (sym place)

pub returns-in-None-get : goal.returns-in-None-get
returns-in-None-get c h = absurd (omega (arith, c.in-None-get.ensures.lookup.3, c.in-Some.ensures))
