-- The lines of what is kept, body by body.
use Rattle.std.proofs.Common.{◌≡◌, ℕ, ◌+◌, ◌≤◌, List, [], ◌∷◌, ◌++◌, length, drop, sym, ap, ◌∙◌, append_assoc, arith}
use Rattle.std.proofs.lemmas.List.{append-nil, drop_all, drop_more}
use Rattle.std.specs.Prelude.{Some, slice_get}
use Rattle.std.proofs.lemmas.Option.{get_or_from_slice_get, slice_get_within}
use Rattle.reencode_core.specs.Pieces.{Range}
use Rattle.reencode_run.specs.Kept.{kept_lines, range_line}

drop_at : (rs : List Range) (i : ℕ) (r : Range) → slice_get rs i ≡ Some r → drop i rs ≡ r ∷ drop (i + 1) rs
drop_at rs i r e = drop_more rs i r (slice_get_within rs i r e) ∙ ap (λ (z : Range). z ∷ drop (i + 1) rs) (get_or_from_slice_get rs i r r e)

-- the lines so far, and those of the bodies that are left
pub lines_step : (rs : List Range) (i : ℕ) (r : Range) (line new : List ℕ) → slice_get rs i ≡ Some r → new ≡ line ++ range_line r →
    new ++ kept_lines (drop (i + 1) rs) ≡ line ++ kept_lines (drop i rs)
lines_step rs i r line new e is =
    ap (λ (z : List ℕ). z ++ kept_lines (drop (i + 1) rs)) is ∙ append_assoc line (range_line r) (kept_lines (drop (i + 1) rs))
    ∙ ap (λ (z : List Range). line ++ kept_lines z) (sym (drop_at rs i r e))

-- no body is left
pub lines_end : (rs : List Range) (i : ℕ) (line whole : List ℕ) → length rs ≤ i → line ++ kept_lines (drop i rs) ≡ whole → line ≡ whole
lines_end rs i line whole h e = sym (append-nil line) ∙ ap (λ (z : List Range). line ++ kept_lines z) (sym (drop_all i rs h)) ∙ e
