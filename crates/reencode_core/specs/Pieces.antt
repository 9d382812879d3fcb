-- Pieces of an output: kept ranges of the input, and made bytes.
use Rattle.std.specs.Prelude.{◌≡◌, ◌≢◌, ℕ, ◌+◌, ◌-◌, ◌<◌, ◌≤◌, List, [], ◌∷◌, ◌++◌, length, take, drop, slice_range}
use Rattle.reencode_core.specs.declared.pieces.cuts.Cut.{Cut}
use Rattle.reencode_core.specs.declared.pieces.piece.Piece.{Piece}
use Rattle.reencode_core.specs.declared.pieces.piece.Piece.TheVariants.{Kept, Made}

-- a range of an input: the place of its first byte, and the place behind its last
pub record Range : Type 0 where
  pub start : ℕ
  pub end : ℕ

abbrev pub range : ℕ → ℕ → Range
range start end = record { start = start; end = end }

-- the bytes of a piece, over the input
abbrev pub piece_bytes : List ℕ → Piece → List ℕ
piece_bytes input (Kept start end) = slice_range input start end
piece_bytes input (Made bytes) = bytes

-- the bytes of the pieces one behind another
abbrev pub joined : List ℕ → List Piece → List ℕ
joined input [] = []
joined input (p ∷ ps) = piece_bytes input p ++ joined input ps

-- the kept ranges, in order
abbrev pub kept_ranges : List Piece → List Range
kept_ranges [] = []
kept_ranges (Kept start end ∷ ps) = range start end ∷ kept_ranges ps
kept_ranges (Made bytes ∷ ps) = kept_ranges ps

-- how many bytes the ranges have
abbrev pub kept_total : List Range → ℕ
kept_total [] = 0
kept_total (r ∷ rs) = r.end - r.start + kept_total rs

-- a kept range lies within an input of so many bytes
abbrev pub IsWithin : ℕ → Piece → Type 0
IsWithin len (Kept start end) = (start ≤ end) × (end ≤ len)
IsWithin len (Made bytes) = Unit {0}

-- each kept range lies within an input of so many bytes
abbrev pub AreWithin : ℕ → List Piece → Type 0
AreWithin len [] = Unit {0}
AreWithin len (p ∷ ps) = IsWithin len p × AreWithin len ps

-- how many bytes a piece has
abbrev pub piece_len : Piece → ℕ
piece_len (Kept start end) = end - start
piece_len (Made bytes) = length bytes

-- how many bytes some pieces have
abbrev pub total : List Piece → ℕ
total [] = 0
total (p ∷ ps) = piece_len p + total ps

-- Made bytes and kept ranges alternate, made ones begin, and none are empty.
abbrev pub Alternate : List Piece → Type 0
Alternate [] = Unit {0}
Alternate (Kept start end ∷ ps) = ⊥
Alternate (Made bytes ∷ []) = bytes ≢ []
Alternate (Made bytes ∷ Made more ∷ ps) = ⊥
Alternate (Made bytes ∷ Kept start end ∷ ps) = (bytes ≢ []) × (start < end) × Alternate ps

-- ---- pieces under construction

-- the input, the bytes so far, and which ranges of the input are kept in them
pub record Grown : Type 0 where
  pub input : List ℕ
  pub bytes : List ℕ
  pub kept : List Range

-- with these bytes more
abbrev pub with_bytes : Grown → List ℕ → Grown
with_bytes g more = record g { bytes = g.bytes ++ more }

-- with a range more, behind some bytes
abbrev pub with_kept : Grown → List ℕ → ℕ → ℕ → Grown
with_kept g head start end = record g {
  bytes = g.bytes ++ (head ++ slice_range g.input start end);
  kept = g.kept ++ range start end ∷ [];
}

-- with others more
abbrev pub with_grown : Grown → Grown → Grown
with_grown g h = record g { bytes = g.bytes ++ h.bytes; kept = g.kept ++ h.kept }

-- ---- made bytes, and kept ranges that are cut into them

-- the bytes: in front of each range stand so many made ones as it says, and behind the last those that are left
abbrev pub cut_bytes : List ℕ → List ℕ → List Cut → List ℕ
cut_bytes input made [] = made
cut_bytes input made (c ∷ cs) = take c.made made ++ (slice_range input c.start c.end ++ cut_bytes input (drop c.made made) cs)

-- the kept ranges
abbrev pub cut_ranges : List Cut → List Range
cut_ranges [] = []
cut_ranges (c ∷ cs) = range c.start c.end ∷ cut_ranges cs

-- how many made bytes stand in front of the ranges, and between them
abbrev pub cut_made : List Cut → ℕ
cut_made [] = 0
cut_made (c ∷ cs) = c.made + cut_made cs

-- Each range lies within an input of so many bytes, is not empty, and has made bytes in front of it.
abbrev pub AreCuts : ℕ → List Cut → Type 0
AreCuts len [] = Unit {0}
AreCuts len (c ∷ cs) = ((0 < c.made) × ((c.start < c.end) × (c.end ≤ len))) × AreCuts len cs

-- with so many made bytes more in front of the first range
abbrev pub raised : ℕ → List Cut → List Cut
raised more [] = []
raised more (c ∷ cs) = record c { made = more + c.made } ∷ cs

-- where the last range stands, with these behind one at a place, and so many bytes in front of them
abbrev pub last_of : List Cut → ℕ → ℕ → ℕ
last_of [] last begun = last
last_of (c ∷ cs) last begun = begun + cut_made (c ∷ cs)

-- the bytes behind the last range are the last piece, where there are any
abbrev pub last_made : List ℕ → List Piece
last_made [] = []
last_made (b ∷ bytes) = Made (b ∷ bytes) ∷ []

-- the pieces
abbrev pub cut_pieces : List ℕ → List Cut → List Piece
cut_pieces made [] = last_made made
cut_pieces made (c ∷ cs) = Made (take c.made made) ∷ Kept c.start c.end ∷ cut_pieces (drop c.made made) cs

-- Ranges are cut into made bytes, of which the first are room: the last range stands at a place, and all have so many bytes.
pub record AreCut (input made : List ℕ) (front last size : ℕ) (cuts : List Cut) : Type 0 where
  pub placed : front + cut_made cuts ≡ last
  pub shown : last ≤ length made
  pub cuts_are : AreCuts (length input) cuts
  pub sized : size ≡ length (cut_bytes input (drop front made) cuts)

-- the pieces are those of what was grown
pub record AreGrown (g : Grown) (pieces : List Piece) : Type 0 where
  pub joins : joined g.input pieces ≡ g.bytes
  pub ranges : kept_ranges pieces ≡ g.kept
  pub within : AreWithin (length g.input) pieces
  pub alternate : Alternate pieces
  pub size : total pieces ≡ length g.bytes
