-- The pieces of some bytes, as they are cut one behind another.
use Rattle.std.proofs.Common.{◌≡◌, ◌+◌, ◌-◌, ◌<◌, ◌≤◌, ℕ, zero, suc, List, [], ◌∷◌, ◌++◌, length, get_or, drop, refl, sym, ap, ◌∙◌, arith, length-append, append_assoc, slice_range}
use Rattle.std.proofs.Math.Seq.{drop-append_seam, take-append_seam}
use Rattle.module_spaces.specs.Texts.{pieces}

-- the last bound
abbrev pub last : List ℕ → ℕ
last [] = 0
last (a ∷ []) = a
last (a ∷ b ∷ bounds) = last (b ∷ bounds)

last-push : (bounds : List ℕ) (b : ℕ) → last (bounds ++ b ∷ []) ≡ b
last-push [] b = refl
last-push (a ∷ []) b = refl
last-push (a ∷ c ∷ bounds) b = last-push (c ∷ bounds) b

-- a bound more is a piece more
pieces-push : (bytes : List ℕ) (a : ℕ) (bounds : List ℕ) (b : ℕ) → pieces bytes ((a ∷ bounds) ++ b ∷ []) ≡ pieces bytes (a ∷ bounds) ++ slice_range bytes (last (a ∷ bounds)) b ∷ []
pieces-push bytes a [] b = refl
pieces-push bytes a (c ∷ bounds) b = ap (λ (xs : List (List ℕ)). slice_range bytes a c ∷ xs) (pieces-push bytes c bounds b)

-- The bytes as far as the last bound are cut, and these are left.
pub record CutSoFar (bytes rest bounds : List ℕ) : Type 0 where
  pub front : List ℕ
  pub whole : bytes ≡ front ++ rest
  pub first : ℕ
  pub others : List ℕ
  pub some : bounds ≡ first ∷ others
  pub reached : length front ≡ last bounds

pub cut_begins : (bytes bounds : List ℕ) → bounds ≡ 0 ∷ [] → CutSoFar bytes bytes bounds
cut_begins bytes bounds e = record { front = []; whole = refl; first = 0; others = []; some = e; reached = ap last (sym e) }

module _ {bytes rest bounds : List ℕ} (c : CutSoFar bytes rest bounds) (text behind : List ℕ) (front : rest ≡ text ++ behind) where
  whole : bytes ≡ (c.front ++ text) ++ behind
  whole = c.whole ∙ ap (λ (z : List ℕ). c.front ++ z) front ∙ sym (append_assoc c.front text behind)

  -- so far the next piece reaches
  reach : length bytes ≡ length c.front + length text + length behind
  reach = omega (arith, ap length whole, length-append (c.front ++ text) behind, length-append c.front text)

  pub not_past : length behind ≤ length bytes
  not_past = omega (arith, reach)

  pub cut_more : (bound : ℕ) → bound ≡ length bytes - length behind → CutSoFar bytes behind (bounds ++ bound ∷ [])
  cut_more bound is = record {
    front = c.front ++ text;
    whole = whole;
    first = c.first;
    others = c.others ++ bound ∷ [];
    some = ap (λ (z : List ℕ). z ++ bound ∷ []) c.some;
    reached = omega (arith, length-append c.front text, reach, is, last-push bounds bound);
  }

  -- which is the text
  piece : (bound : ℕ) → bound ≡ length bytes - length behind → slice_range bytes (last bounds) bound ≡ text
  piece bound is =
      let start : last bounds ≡ length c.front = sym c.reached in
      let count : bound - length c.front ≡ length text = omega (arith, is, reach) in
      let tail : drop (length c.front) bytes ≡ text ++ behind =
      ap (λ (z : List ℕ). drop (length c.front) z) (whole ∙ append_assoc c.front text behind) ∙ drop-append_seam c.front (text ++ behind) in
      rw (start, count, tail) (take-append_seam text behind)

  pub piece_more : (bound : ℕ) → bound ≡ length bytes - length behind → pieces bytes (bounds ++ bound ∷ []) ≡ pieces bytes bounds ++ text ∷ []
  piece_more bound is =
      ap (λ (z : List ℕ). pieces bytes (z ++ bound ∷ [])) c.some ∙ pieces-push bytes c.first c.others bound
      ∙ ap (λ (z : List ℕ). pieces bytes z ++ slice_range bytes (last z) bound ∷ []) (sym c.some) ∙ ap (λ (z : List ℕ). pieces bytes bounds ++ z ∷ []) (piece bound is)

-- the piece at a place
pub piece_there : (bytes bounds : List ℕ) (place : ℕ) → suc place < length bounds →
    (place < length (pieces bytes bounds)) × (get_or (pieces bytes bounds) place [] ≡ slice_range bytes (get_or bounds place 0) (get_or bounds (suc place) 0))
piece_there bytes [] place h = absurd (omega (arith, h))
piece_there bytes (a ∷ []) place h = absurd (omega (arith, h))
piece_there bytes (a ∷ b ∷ bounds) zero h = (omega arith, refl)
piece_there bytes (a ∷ b ∷ bounds) (suc place) h =
    let there = piece_there bytes (b ∷ bounds) place (omega (arith, h)) in
    (omega (arith, there.0), there.1)
