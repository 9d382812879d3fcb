-- How many bytes and ranges are kept.
use Rattle.std.proofs.Common.{◌≡◌, ℕ, zero, suc, ◌+◌, ◌<◌, ◌≤◌, List, [], ◌∷◌, ◌++◌, length, take, drop, slice_range, refl, ap, ◌∙◌, arith, length-append, subst}
use Rattle.std.specs.Prelude.{Some, get_or, option_map, slice_get}
use Rattle.std.proofs.lemmas.List.{length-drop, length-take}
use Rattle.std.proofs.lemmas.Option.{get_or_from_slice_get, slice_get_within}
use Rattle.reencode_core.specs.declared.pieces.cuts.Cut.{Cut}
use Rattle.reencode_core.specs.Pieces.{AreCuts, Range, cut_bytes, cut_made, cut_ranges, kept_total, range}
use Rattle.reencode_core.proofs.kept_pieces.CutBytes.{range_len}

-- the bytes are those that were made, and those that are kept
pub bytes_len : (input made : List ℕ) (cs : List Cut) → AreCuts (length input) cs → cut_made cs ≤ length made →
    length (cut_bytes input made cs) ≡ length made + kept_total (cut_ranges cs)
bytes_len input made [] within shown = omega arith
bytes_len input made (c ∷ cs) within shown =
    let kept = slice_range input c.start c.end in
    let a = length-append (take c.made made) (kept ++ cut_bytes input (drop c.made made) cs) in
    let b = length-append kept (cut_bytes input (drop c.made made) cs) in
    let d = length-drop c.made made in
    let t = length-take c.made made in
    let r = range_len input c.start c.end (omega (arith, within.0.1.0)) within.0.1.1 in
    let rest = bytes_len input (drop c.made made) cs within.1 (omega (arith, d, shown)) in
    omega (arith, a, b, d, t, r, rest, shown, within.0.1.0)

-- there are as many ranges as cuts
pub ranges_len : (cs : List Cut) → length (cut_ranges cs) ≡ length cs
ranges_len [] = refl
ranges_len (c ∷ cs) = ap suc (ranges_len cs)

abbrev range_of : Cut → Range
range_of c = range c.start c.end

ranges_get : (cs : List Cut) (i : ℕ) → slice_get (cut_ranges cs) i ≡ option_map range_of (slice_get cs i)
ranges_get [] i = refl
ranges_get (c ∷ cs) zero = refl
ranges_get (c ∷ cs) (suc i) = ranges_get cs i

-- the range of a cut
pub range_at : (cs : List Cut) (i : ℕ) (c : Cut) → slice_get cs i ≡ Some c → slice_get (cut_ranges cs) i ≡ Some (range c.start c.end)
range_at cs i c e = ranges_get cs i ∙ ap (option_map range_of) e

within_get : (n : ℕ) (cs : List Cut) (i : ℕ) (d : Cut) → i < length cs → AreCuts n cs → ((get_or cs i d).start < (get_or cs i d).end) × ((get_or cs i d).end ≤ n)
within_get n [] i d less h = absurd (omega (arith, less))
within_get n (c ∷ cs) zero d less h = h.0.1
within_get n (c ∷ cs) (suc i) d less h = within_get n cs i d (omega (arith, less)) h.1

-- it is not empty, and within
pub within_at : (n : ℕ) (cs : List Cut) (i : ℕ) (c : Cut) → AreCuts n cs → slice_get cs i ≡ Some c → (c.start < c.end) × (c.end ≤ n)
within_at n cs i c h e =
    let P : Cut → Type 0 = λ z. (z.start < z.end) × (z.end ≤ n) in
    subst P (get_or_from_slice_get cs i c c e) (within_get n cs i c (slice_get_within cs i c e) h)
