use Rattle.std.proofs.Common.{List, length, drop, ap, sym, ◌∙◌, arith, length-drop}
use Rattle.reencode_core.specs.Pieces.{cut_pieces, total}
use Rattle.reencode_core.specs.declared.pieces.cuts.Cut.{Cut}
use Rattle.reencode_core.proofs.kept_pieces.CutBytes.{alternate_pieces, joined_pieces, ranges_pieces, total_joined, within_pieces}
use Rattle.reencode_core.proofs.pieces.growing.Growing.finish.Goals as goal

pub of-requires-clause-size : goal.of-requires-clause-size
of-requires-clause-size c =
    let made = drop c.self.inside.front c.self.inside.made.items in
    let input = c.self.inside.input.now in
    let cs = c.self.inside.cuts.items in
    let p = c.self.invariant in
    let within = within_pieces (length input) made cs p.cuts_are in
    let items = c.in-Ok.ensures ∙ ap (λ (z : List Cut). cut_pieces made z) c.deref.ensures.value in
    p.sized ∙ ap length (sym (joined_pieces input made cs)) ∙ sym (total_joined input (cut_pieces made cs) within) ∙ ap total (sym items)

pub of-requires-clause-alternate : goal.of-requires-clause-alternate
of-requires-clause-alternate c =
    let made = drop c.self.inside.front c.self.inside.made.items in
    let p = c.self.invariant in
    let a = p.placed in
    let b = p.shown in
    let l = length-drop c.self.inside.front c.self.inside.made.items in
    let items = c.in-Ok.ensures ∙ ap (λ (z : List Cut). cut_pieces made z) c.deref.ensures.value in
    rw items (alternate_pieces (length c.self.inside.input.now) made c.self.inside.cuts.items p.cuts_are (omega (arith, a, b, l)))

pub returns-in-Ok : goal.returns-in-Ok
returns-in-Ok c =
    let made = drop c.self.inside.front c.self.inside.made.items in
    let input = c.self.inside.input.now in
    let cs = c.self.inside.cuts.items in
    let p = c.self.invariant in
    let a = p.placed in
    let b = p.shown in
    let l = length-drop c.self.inside.front c.self.inside.made.items in
    let within = within_pieces (length input) made cs p.cuts_are in
    let items = c.in-Ok.ensures ∙ ap (λ (z : List Cut). cut_pieces made z) c.deref.ensures.value in
    rw (c.of.ensures, items, ← c.self.view_is) (record {
      joins = joined_pieces input made cs;
      ranges = ranges_pieces made cs;
      within = within;
      alternate = alternate_pieces (length input) made cs p.cuts_are (omega (arith, a, b, l));
      size = total_joined input (cut_pieces made cs) within ∙ ap length (joined_pieces input made cs);
    })
