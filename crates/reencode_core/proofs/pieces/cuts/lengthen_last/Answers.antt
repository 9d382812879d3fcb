use Rattle.std.proofs.Common.{◌≡◌, ◌++◌, ◌∷◌, ◌-◌, [], List, ℕ, length, slice_index_or, slice_set, ap, ◌∙◌, length-append, arith}
use Rattle.std.proofs.Math.Seq.{get_or-append_seam, set-append_seam}
use Rattle.reencode_core.specs.declared.pieces.cuts.Cut.{Cut}
use Rattle.reencode_core.proofs.pieces.cuts.lengthen_last.Goals as goal

pub returns-then-count-gt0 : goal.returns-then-count-gt0
returns-then-count-gt0 c = λ front last e.
    let none : Cut = record { made = 0; start = 0; end = 0 } in
    let longer : Cut → Cut = λ (d : Cut). record d { end = c.args.end } in
    let with_longer : List Cut → ℕ → List Cut = λ (z : List Cut) (n : ℕ). slice_set z n (longer (slice_index_or z n none)) in
    let l = ap length e ∙ length-append front (last ∷ []) in
    let behind : length c.args.cuts.now - 1 ≡ length front = omega (arith, l) in
    ap (λ (z : List Cut). with_longer z (length c.args.cuts.now - 1)) e
    ∙ ap (with_longer (front ++ last ∷ [])) behind
    ∙ ap (λ (d : Cut). slice_set (front ++ last ∷ []) (length front) (longer d)) (get_or-append_seam front last [] none)
    ∙ set-append_seam front last [] (longer last)
