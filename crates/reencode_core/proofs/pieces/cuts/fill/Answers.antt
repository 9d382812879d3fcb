use Rattle.std.proofs.Common.{◌≡◌, ◌+◌, ◌-◌, ℕ, List, length, take, drop, slice_range, ap, sym, subst, ◌∙◌, arith}
use Rattle.reencode_core.specs.Pieces.{cut_bytes}
use Rattle.reencode_core.specs.declared.pieces.cuts.Cut.{Cut}
use Rattle.reencode_core.proofs.kept_pieces.FilledRoom.{AreFilled, filled_more, put}
use Rattle.reencode_core.proofs.pieces.cuts.fill.Goals as goal

pub cuts-preserved : goal.cuts-preserved
cuts-preserved c =
    let input = c.args.input.now in
    let made = c.args.made.now in
    let whole = cut_bytes input made c.args.cuts.now in
    let cut : Cut = c.in-Some.cut.now in
    let from = c.cuts.from in
    let to = c.cuts.to in
    let P : List Cut → Type 0 = λ cs. AreFilled input made whole c.cuts.out from to cs in
    let here = subst P c.in-Some.ensures.cases.0 c.cuts.invariant in
    let count : (from + cut.made) - from ≡ cut.made = omega arith in
    let first : c.put_at.new.out ≡ put c.cuts.out to (take cut.made (drop from made)) = c.put_at.ensures ∙ ap (λ (n : ℕ). put c.cuts.out to (take n (drop from made))) count in
    let second : c.put_at-in-Some.new.out ≡ put (put c.cuts.out to (take cut.made (drop from made))) (to + cut.made) (slice_range input cut.start cut.end) =
    c.put_at-in-Some.ensures ∙ ap (λ (z : List ℕ). put z (to + cut.made) (slice_range input cut.start cut.end)) first in
    let Q : List ℕ → Type 0 = λ out. AreFilled input made whole out (from + cut.made) (to + (cut.made + length (slice_range input cut.start cut.end))) c.in-Some.behind.now in
    subst Q (sym second) (filled_more here)
