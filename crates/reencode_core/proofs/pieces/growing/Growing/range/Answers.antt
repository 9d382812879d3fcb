use Rattle.std.proofs.Common.{List, ap, sym, ◌∙◌, arith, length}
use Rattle.std.specs.Prelude.{Some, slice_get}
use Rattle.std.proofs.lemmas.Option.{gets, slice_get-get_or}
use Rattle.reencode_core.specs.declared.pieces.cuts.Cut.{Cut}
use Rattle.reencode_core.proofs.kept_pieces.KeptLengths.{range_at, ranges_len, within_at}
use Rattle.reencode_core.proofs.pieces.growing.Growing.range.Goals as goal

pub returns-in-Some-clause-some : goal.returns-in-Some-clause-some
returns-in-Some-clause-some c =
    let e = ap (λ (z : List Cut). slice_get z c.args.i) (sym c.deref.ensures.value) ∙ (slice_get-get_or c.deref.result.now c.args.i c.in-Some.cut.now c.in-Some.ensures.lookup.3.0 ∙ ap Some (sym (c.in-Some.ensures.lookup.3.1 c.in-Some.cut.now))) in
    rw (← c.self.view_is) (range_at c.self.inside.cuts.items c.args.i c.in-Some.cut.now e)

pub returns-in-Some-clause-within : goal.returns-in-Some-clause-within
returns-in-Some-clause-within c =
    let e = ap (λ (z : List Cut). slice_get z c.args.i) (sym c.deref.ensures.value) ∙ (slice_get-get_or c.deref.result.now c.args.i c.in-Some.cut.now c.in-Some.ensures.lookup.3.0 ∙ ap Some (sym (c.in-Some.ensures.lookup.3.1 c.in-Some.cut.now))) in
    rw (← c.self.view_is) (within_at _ c.self.inside.cuts.items c.args.i c.in-Some.cut.now c.self.invariant.cuts_are e)

pub returns-in-None-clause-none : goal.returns-in-None-clause-none
returns-in-None-clause-none c =
    let l = ranges_len c.self.inside.cuts.items in
    let k = ap (λ (z : List Cut). length z) c.deref.ensures.value in
    let e = c.in-None.ensures.lookup in
    rw (← c.self.view_is) (grind (arith, gets, l, k, e))
