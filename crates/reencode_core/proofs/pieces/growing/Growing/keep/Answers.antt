use Rattle.std.proofs.Common.{◌≡◌, ◌+◌, ◌-◌, ℕ, List, [], ◌∷◌, ◌++◌, length, drop, refl, ap, ap₂, ◌∙◌, arith, length-append}
use Rattle.reencode_core.specs.Pieces.{Grown, Range, cut_bytes, cut_ranges}
use Rattle.reencode_core.specs.declared.pieces.cuts.Cut.{Cut}
use Rattle.reencode_core.proofs.kept_pieces.CutBytes.{kept_bytes, kept_is, ranges_both}
use Rattle.reencode_core.proofs.pieces.growing.Growing.keep.Goals as goal

pub invariant_of-self-2 : goal.invariant_of-self-2
invariant_of-self-2 c =
    let head = c.args.head.now in
    let cut : Cut = record { made = c.len.result - c.self.inside.last; start = c.args.start; end = c.args.end } in
    let made = c.in-Ok-extend_from_slice.ensures.items in
    let cuts : c.push_reserved.new.self.items ≡ c.self.inside.cuts.items ++ cut ∷ [] = c.push_reserved.ensures.items ∙ ap (λ (z : List Cut). z ++ cut ∷ []) c.reserve.ensures.items in
    let p = c.self.invariant in
    let b = p.shown in
    let l = ap length made in
    let h = length-append c.self.inside.made.items head in
    let stands : c.self.inside.last + cut.made ≡ length (c.self.inside.made.items ++ head) = omega (arith, b, l, h, c.len.ensures) in
    let inputs = ap Grown.input c.self.view_is in
    rw (cuts, made) (kept_is head cut (c.self.inside.last + cut.made) c.in-Some-checked_add.size p stands c.requires.some c.requires.ordered (rw inputs c.requires.within) refl (omega (arith, c.in-Some.ensures, c.in-Some-checked_add.ensures)))

pub returns-clause-ok : goal.returns-clause-ok
returns-clause-ok c =
    let head = c.args.head.now in
    let input = c.self.inside.input.now in
    let front = c.self.inside.front in
    let cut : Cut = record { made = c.len.result - c.self.inside.last; start = c.args.start; end = c.args.end } in
    let made = c.in-Ok-extend_from_slice.ensures.items in
    let cuts : c.push_reserved.new.self.items ≡ c.self.inside.cuts.items ++ cut ∷ [] = c.push_reserved.ensures.items ∙ ap (λ (z : List Cut). z ++ cut ∷ []) c.reserve.ensures.items in
    let p = c.self.invariant in
    let b = p.shown in
    let l = ap length made in
    let h = length-append c.self.inside.made.items head in
    let stands : c.self.inside.last + cut.made ≡ length (c.self.inside.made.items ++ head) = omega (arith, b, l, h, c.len.ensures) in
    let bytes = ap₂ (λ (m : List ℕ) (k : List Cut). cut_bytes input (drop front m) k) made cuts ∙ kept_bytes head cut p stands in
    let ranges = ap cut_ranges cuts ∙ ranges_both c.self.inside.cuts.items (cut ∷ []) in
    rw (← c.self.view_is) (ap₂ (λ (b : List ℕ) (r : List Range). record { input = input; bytes = b; kept = r }) bytes ranges)
