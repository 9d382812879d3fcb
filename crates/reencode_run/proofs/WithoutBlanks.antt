-- Texts without blanks.
use Rattle.std.proofs.Common.{◌≡◌, ℕ, ◌+◌, ◌<◌, List, [], ◌∷◌, ◌++◌, take, length, slice_index, Bool, true, false, ◌||◌, refl, ap₂, ◌∙◌, arith}
use Rattle.std.proofs.lemmas.List.{take_more}
use Rattle.std.proofs.lemmas.List.Elements.{filter-append}
use Rattle.reencode_run.specs.Hexadecimal.{without_blanks}

one_kept : (x : ℕ) → 32 < x → without_blanks (x ∷ []) ≡ x ∷ []
one_kept x h = grind (arith)

-- one byte more that is above a space
pub none_more : (xs : List ℕ) (i : ℕ) (low is : Bool) → i < length xs → (is ≡ false → 32 < slice_index xs i)
    → (low ≡ false → without_blanks (take i xs) ≡ take i xs)
    → (low || is) ≡ false → without_blanks (take (i + 1) xs) ≡ take (i + 1) xs
none_more xs i false false fits h inv e =
    let more = take_more xs i 0 fits in
    rw more (filter-append _ (take i xs) (slice_index xs i ∷ []) ∙ ap₂ (λ (a b : List ℕ). a ++ b) (inv refl) (one_kept (slice_index xs i) (h refl)))
none_more xs i false true fits h inv e = absurd cc
none_more xs i true _ fits h inv e = absurd cc
