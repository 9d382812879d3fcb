use Rattle.std.proofs.Common.{◌≡◌, ◌<◌, [], ℕ, List, length, get_or, sym, ap, ◌∙◌, arith}
use Rattle.std.proofs.lemmas.List.{get_or_past}
use Rattle.call_graph.specs.Graph.{start_of}
use Rattle.call_graph.proofs.Stretches.{stretch-at, stretch-within, stretches-length}
use Rattle.call_graph.proofs.graph.CallGraph.calls.Goals as goal

pub stretch-requires : goal.stretch-requires
stretch-requires c =
    let g = c.self.inside in
    let found = rw c.deref.ensures.value at c.in-Some.ensures.lookup in
    let there : c.args.place < length g.ends.items = found.3.0 in
    let end : c.in-Some.end.now ≡ get_or g.ends.items c.args.place 0 = found.3.1 0 in
    let start : c.start_of.result ≡ start_of 0 g.ends.items c.args.place = (rw c.deref-in-Some-2.ensures.value at c.start_of.ensures) there in
    let within = stretch-within (length g.calls.items) 0 g.ends.items c.args.place c.self.invariant there in
    record { start = omega (arith, within.0, start, end); end = rw c.deref-in-Some.ensures.value (omega (arith, within.1, end)) }

pub returns-in-Some : goal.returns-in-Some
returns-in-Some c =
    let g = c.self.inside in
    let found = rw c.deref.ensures.value at c.in-Some.ensures.lookup in
    let there : c.args.place < length g.ends.items = found.3.0 in
    let end : c.in-Some.end.now ≡ get_or g.ends.items c.args.place 0 = found.3.1 0 in
    let start : c.start_of.result ≡ start_of 0 g.ends.items c.args.place = (rw c.deref-in-Some-2.ensures.value at c.start_of.ensures) there in
    (rw (c.deref-in-Some.ensures.value, start, end) at c.stretch.ensures)
    ∙ sym (stretch-at g.calls.items 0 g.ends.items c.args.place there) ∙ ap (λ (lists : List (List ℕ)). get_or lists c.args.place []) c.self.view_is

pub returns-in-None : goal.returns-in-None
returns-in-None c =
    let g = c.self.inside in
    let past = (rw c.deref.ensures.value at c.in-None.ensures.lookup).3 in
    sym (get_or_past c.args.self.now c.args.place [] (omega (arith, past, ap length c.self.view_is, stretches-length g.calls.items 0 g.ends.items)))
