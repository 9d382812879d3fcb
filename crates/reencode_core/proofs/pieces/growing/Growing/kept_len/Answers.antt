use Rattle.std.proofs.Common.{◌∙◌, arith, drop}
use Rattle.std.proofs.lemmas.List.{length-drop}
use Rattle.reencode_core.proofs.kept_pieces.KeptLengths.{bytes_len}
use Rattle.reencode_core.proofs.pieces.growing.Growing.kept_len.Goals as goal

pub overflow_sub-result-2 : goal.overflow_sub-result-2
overflow_sub-result-2 c =
    let i = c.self.invariant in
    let d = length-drop c.self.inside.front c.self.inside.made.items in
    let all = i.sized ∙ bytes_len c.self.inside.input.now (drop c.self.inside.front c.self.inside.made.items) c.self.inside.cuts.items i.cuts_are (omega (arith, d, i.placed, i.shown)) in
    omega (arith, all, d, c.len.ensures)

pub returns : goal.returns
returns c =
    let i = c.self.invariant in
    let d = length-drop c.self.inside.front c.self.inside.made.items in
    let all = i.sized ∙ bytes_len c.self.inside.input.now (drop c.self.inside.front c.self.inside.made.items) c.self.inside.cuts.items i.cuts_are (omega (arith, d, i.placed, i.shown)) in
    rw (← c.self.view_is) (omega (arith, all, d, c.len.ensures))
