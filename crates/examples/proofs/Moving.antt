-- Kept function bodies, piece by piece.
use Rattle.std.proofs.Common.{◌≡◌, ℕ, ◌+◌, ◌≤◌, List, ◌∷◌, ◌++◌, length, drop, sym, ap, ◌∙◌, append_assoc, arith}
use Rattle.std.proofs.lemmas.List.{append-nil, drop_all, drop_more}
use Rattle.std.specs.Prelude.{Some, slice_get}
use Rattle.std.proofs.lemmas.Option.{get_or_from_slice_get, slice_get_within}
use Rattle.reencode_core.specs.declared.pieces.piece.Piece.{Piece}
use Rattle.examples.specs.declared.moves.Moved.{Moved}
use Rattle.reencode_core.specs.Pieces.{piece_len, total}
use Rattle.examples.specs.Moves.{moved_at, moves_from}

-- so much was told and stands in front of the pieces from a place on
abbrev pub Told : List Piece → ℕ → List Moved → ℕ → Type 0
Told ps i moves to = (moves ++ moves_from to (drop i ps) ≡ moves_from 0 ps) × (to + total (drop i ps) ≡ total ps)

-- the piece at a place stands in front of those behind it
pub drop_at : (ps : List Piece) (i : ℕ) (p : Piece) → slice_get ps i ≡ Some p → drop i ps ≡ p ∷ drop (i + 1) ps
drop_at ps i p e = drop_more ps i p (slice_get_within ps i p e) ∙ ap (λ (z : Piece). z ∷ drop (i + 1) ps) (get_or_from_slice_get ps i p p e)

module _ (ps : List Piece) (i : ℕ) (p : Piece) (moves : List Moved) (to : ℕ) (e : slice_get ps i ≡ Some p) (told : Told ps i moves to) where
  -- the bytes up to behind a piece are no more than all
  pub piece_fits : to + piece_len p ≤ total ps
  piece_fits = let here : total (drop i ps) ≡ piece_len p + total (drop (i + 1) ps) = ap total (drop_at ps i p e) in omega (arith, here, told.1)

  -- one piece more
  pub told_more : {more : List Moved} {n : ℕ} → more ≡ moves ++ moved_at to p → n ≡ to + piece_len p → Told ps (i + 1) more n
  told_more {more = more} {n = n} is so =
      let here : total (drop i ps) ≡ piece_len p + total (drop (i + 1) ps) = ap total (drop_at ps i p e) in
      let rest : List Moved = moves_from (to + piece_len p) (drop (i + 1) ps) in (
        rw (is, so) (append_assoc moves (moved_at to p) rest ∙ ap (λ (z : List Piece). moves ++ moves_from to z) (sym (drop_at ps i p e)) ∙ told.0),
        omega (arith, here, so, told.1),
      )

-- no piece is left
pub told_all : (ps : List Piece) (i : ℕ) (moves : List Moved) (to : ℕ) → length ps ≤ i → Told ps i moves to → moves ≡ moves_from 0 ps
told_all ps i moves to h told = sym (append-nil moves) ∙ ap (λ (z : List Piece). moves ++ moves_from to z) (sym (drop_all i ps h)) ∙ told.0
