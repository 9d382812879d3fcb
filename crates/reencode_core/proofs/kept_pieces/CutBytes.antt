-- Made bytes, and kept ranges that are cut into them.
use Rattle.std.proofs.Common.{◌≡◌, ◌≢◌, ◌≤◌, ◌<◌, ℕ, ◌+◌, ◌-◌, List, [], ◌∷◌, ◌++◌, length, take, drop, slice_range, refl, ap, sym, ◌∙◌, append_assoc, append-nil, length-append, length-take, length-drop, subst, arith}
use Rattle.std.proofs.lemmas.List.{drop-append-le, drop_all, drop_at, length-take-le, take-append-le, take_all, take-take}
use Rattle.std.proofs.Math.Seq.{drop-append-add, take-add, take-append-add}
use lib.Seq.{drop-drop, paste}
use Rattle.reencode_core.specs.Pieces.{Alternate, AreCut, AreCuts, AreWithin, Range, cut_bytes, cut_made, cut_pieces, cut_ranges, joined, kept_ranges, last_made, last_of, raised, range, total}
use Rattle.reencode_core.specs.declared.pieces.cuts.Cut.{Cut}
use Rattle.reencode_core.specs.declared.pieces.piece.Piece.{Piece}
use Rattle.reencode_core.specs.declared.pieces.piece.Piece.TheVariants.{Kept, Made}

pub range_len : (input : List ℕ) (start end : ℕ) → start ≤ end → end ≤ length input → length (slice_range input start end) ≡ end - start
range_len input start end ordered within = grind (arith, length-take, length-drop)

-- ---- the bytes

-- three parts, and bytes behind them
behind_three : (a b c d : List ℕ) → a ++ (b ++ (c ++ d)) ≡ (a ++ (b ++ c)) ++ d
behind_three a b c d = sym (append_assoc a (b ++ c) d ∙ ap (λ (z : List ℕ). a ++ z) (append_assoc b c d))

-- bytes more at the end
pub bytes_more : (input made more : List ℕ) (cs : List Cut) → cut_made cs ≤ length made → cut_bytes input (made ++ more) cs ≡ cut_bytes input made cs ++ more
bytes_more input made more [] short = refl
bytes_more input made more (c ∷ cs) short =
    let here : c.made ≤ length made = omega (arith, short) in
    let l = length-drop c.made made in
    let rest : cut_made cs ≤ length (drop c.made made) = omega (arith, short, l) in
    rw (take-append-le c.made made more here, drop-append-le c.made made more here, bytes_more input (drop c.made made) more cs rest)
    (behind_three (take c.made made) (slice_range input c.start c.end) (cut_bytes input (drop c.made made) cs) more)

-- others at the end
pub bytes_both : (input made more : List ℕ) (cs ds : List Cut) (m : ℕ) → cut_made cs + m ≡ length made →
    cut_bytes input (made ++ more) (cs ++ raised m ds) ≡ cut_bytes input made cs ++ cut_bytes input more ds
bytes_both input made more [] [] m e = refl
bytes_both input made more [] (d ∷ ds) m e =
    let len : m ≡ length made = omega (arith, e) in
    rw (len, take-append-add made more d.made, drop-append-add made more d.made)
    (append_assoc made (take d.made more) (slice_range input d.start d.end ++ cut_bytes input (drop d.made more) ds))
bytes_both input made more (c ∷ cs) ds m e =
    let here : c.made ≤ length made = omega (arith, e) in
    let l = length-drop c.made made in
    let rest : cut_made cs + m ≡ length (drop c.made made) = omega (arith, e, l) in
    rw (take-append-le c.made made more here, drop-append-le c.made made more here, bytes_both input (drop c.made made) more cs ds m rest)
    (behind_three (take c.made made) (slice_range input c.start c.end) (cut_bytes input (drop c.made made) cs) (cut_bytes input more ds))

-- a range more at the end
pub bytes_kept : (input made : List ℕ) (cs : List Cut) (c : Cut) → cut_made cs + c.made ≡ length made →
    cut_bytes input made (cs ++ c ∷ []) ≡ cut_bytes input made cs ++ slice_range input c.start c.end
bytes_kept input made [] c e =
    rw (take_all c.made made (omega (arith, e)), drop_all c.made made (omega (arith, e)))
    (ap (λ (z : List ℕ). made ++ z) (append-nil (slice_range input c.start c.end)))
bytes_kept input made (d ∷ cs) c e =
    let l = length-drop d.made made in
    let rest : cut_made cs + c.made ≡ length (drop d.made made) = omega (arith, e, l) in
    rw (bytes_kept input (drop d.made made) cs c rest)
    (behind_three (take d.made made) (slice_range input d.start d.end) (cut_bytes input (drop d.made made) cs) (slice_range input c.start c.end))

-- ---- the rest

pub ranges_both : (cs ds : List Cut) → cut_ranges (cs ++ ds) ≡ cut_ranges cs ++ cut_ranges ds
ranges_both [] ds = refl
ranges_both (c ∷ cs) ds = ap (λ z. range c.start c.end ∷ z) (ranges_both cs ds)

ranges_raised : (m : ℕ) (ds : List Cut) → cut_ranges (raised m ds) ≡ cut_ranges ds
ranges_raised m [] = refl
ranges_raised m (d ∷ ds) = refl

made_both : (cs ds : List Cut) → cut_made (cs ++ ds) ≡ cut_made cs + cut_made ds
made_both [] ds = omega arith
made_both (c ∷ cs) ds = let r = made_both cs ds in omega (arith, r)

cuts_both : (n : ℕ) (cs ds : List Cut) → AreCuts n cs → AreCuts n ds → AreCuts n (cs ++ ds)
cuts_both n [] ds p q = q
cuts_both n (c ∷ cs) ds p q = (p.0, cuts_both n cs ds p.1 q)

cuts_raised : (n m : ℕ) (ds : List Cut) → AreCuts n ds → AreCuts n (raised m ds)
cuts_raised n m [] p = tt
cuts_raised n m (d ∷ ds) p = ((omega (arith, p.0.0), p.0.1), p.1)

-- ---- what is seen behind the room

-- bytes more
pub added_bytes : {input made : List ℕ} {front last size : ℕ} {cs : List Cut} (more : List ℕ) → AreCut input made front last size cs →
    cut_bytes input (drop front (made ++ more)) cs ≡ cut_bytes input (drop front made) cs ++ more
added_bytes {input} {made} {front} {last} {size} {cs} more p =
    let a = p.placed in
    let b = p.shown in
    let l = length-drop front made in
    let short : cut_made cs ≤ length (drop front made) = omega (arith, a, b, l) in
    ap (λ (z : List ℕ). cut_bytes input z cs) (drop-append-le front made more (omega (arith, a, b))) ∙ bytes_more input (drop front made) more cs short

pub added_is : {input made : List ℕ} {front last size : ℕ} {cs : List Cut} (more : List ℕ) (size' : ℕ) → AreCut input made front last size cs → size' ≡ size + length more →
    AreCut input (made ++ more) front last size' cs
added_is {input} {made} {front} {last} {size} {cs} more size' p e =
    let b = p.shown in
    let l = length-append made more in
    let s = p.sized in
    let whole = ap length (added_bytes more p) ∙ length-append (cut_bytes input (drop front made) cs) more in
    record { placed = p.placed; shown = omega (arith, b, l); cuts_are = p.cuts_are; sized = omega (arith, e, s, whole) }

-- a range more, behind some bytes
pub kept_bytes : {input made : List ℕ} {front last size : ℕ} {cs : List Cut} (head : List ℕ) (c : Cut) → AreCut input made front last size cs → last + c.made ≡ length (made ++ head) →
    cut_bytes input (drop front (made ++ head)) (cs ++ c ∷ []) ≡ cut_bytes input (drop front made) cs ++ (head ++ slice_range input c.start c.end)
kept_bytes {input} {made} {front} {last} {size} {cs} head c p e =
    let a = p.placed in
    let b = p.shown in
    let l = length-drop front (made ++ head) in
    bytes_kept input (drop front (made ++ head)) cs c (omega (arith, a, e, l))
    ∙ ap (λ (z : List ℕ). z ++ slice_range input c.start c.end) (added_bytes head p)
    ∙ append_assoc (cut_bytes input (drop front made) cs) head (slice_range input c.start c.end)

pub kept_is : {input made : List ℕ} {front last size : ℕ} {cs : List Cut} (head : List ℕ) (c : Cut) (last' size' : ℕ) → AreCut input made front last size cs →
    last + c.made ≡ length (made ++ head) → 0 < length head → c.start < c.end → c.end ≤ length input → last' ≡ last + c.made → size' ≡ (size + length head) + (c.end - c.start) →
    AreCut input (made ++ head) front last' size' (cs ++ c ∷ [])
kept_is {input} {made} {front} {last} {size} {cs} head c last' size' p e some ordered within f g =
    let a = p.placed in
    let b = p.shown in
    let s = p.sized in
    let h = length-append made head in
    let m = made_both cs (c ∷ []) in
    let r = range_len input c.start c.end (omega (arith, ordered)) within in
    let whole = ap length (kept_bytes head c p e) ∙ length-append (cut_bytes input (drop front made) cs) (head ++ slice_range input c.start c.end) in
    let more = length-append head (slice_range input c.start c.end) in
    record {
      placed = omega (arith, a, f, m);
      shown = omega (arith, e, f);
      cuts_are = cuts_both (length input) cs (c ∷ []) p.cuts_are ((omega (arith, b, e, h, some), (ordered, within)), tt);
      sized = omega (arith, s, g, r, whole, more);
    }

-- ---- the last range lengthened

-- a range up to a place, and on from there
pub range_on : (input : List ℕ) (a m b : ℕ) → a ≤ m → m ≤ b → slice_range input a b ≡ slice_range input a m ++ slice_range input m b
range_on input a m b p q =
    let whole : b - a ≡ (m - a) + (b - m) = omega (arith, p, q) in
    let at : a + (m - a) ≡ m = omega (arith, p) in
    ap (λ (n : ℕ). take n (drop a input)) whole ∙ take-add (m - a) (b - m) (drop a input)
    ∙ ap (λ (z : List ℕ). slice_range input a m ++ take (b - m) z) (drop-drop (m - a) a input ∙ ap (λ (n : ℕ). drop n input) at)

module _ {input made : List ℕ} {front last size : ℕ} {cs : List Cut} (before : List Cut) (c : Cut) (head : List ℕ) (start end : ℕ)
    (p : AreCut input made front last size cs) (is : cs ≡ before ++ c ∷ []) (full : length made ≤ last) (apart : c.end ≤ start) (between : slice_range input c.end start ≡ head)
    (ordered : start < end) (within : end ≤ length input) where
  last_cuts : AreCuts (length input) before × AreCuts (length input) (c ∷ [])
  last_cuts = cuts_parts before (subst (λ (z : List Cut). AreCuts (length input) z) is p.cuts_are)
    where
      cuts_parts : (ds : List Cut) → AreCuts (length input) (ds ++ c ∷ []) → AreCuts (length input) ds × AreCuts (length input) (c ∷ [])
      cuts_parts [] q = (tt, q)
      cuts_parts (d ∷ ds) q = let r = cuts_parts ds q.1 in ((q.0, r.0), r.1)

  abbrev pub longer : Cut
  longer = record c { end = end }

  made_same : cut_made (before ++ longer ∷ []) ≡ cut_made cs
  made_same = let a = made_both before (longer ∷ []) in let b = made_both before (c ∷ []) in let d = ap cut_made is in omega (arith, a, b, d)

  filled : cut_made before + c.made ≡ length (drop front made)
  filled =
      let a = p.placed in
      let b = p.shown in
      let l = length-drop front made in
      let m = made_both before (c ∷ []) in
      let d = ap cut_made is in
      omega (arith, a, b, l, m, d, full)

  pub longer_bytes : cut_bytes input (drop front made) (before ++ longer ∷ []) ≡ cut_bytes input (drop front made) cs ++ (head ++ slice_range input start end)
  longer_bytes =
      let rest = drop front made in
      let some = last_cuts.1.0.1.0 in
      let whole : slice_range input c.start end ≡ slice_range input c.start c.end ++ (head ++ slice_range input start end) =
      range_on input c.start c.end end (omega (arith, some)) (omega (arith, apart, ordered))
      ∙ ap (λ (z : List ℕ). slice_range input c.start c.end ++ z) (range_on input c.end start end apart (omega (arith, ordered)) ∙ ap (λ (z : List ℕ). z ++ slice_range input start end) between) in
      bytes_kept input rest before longer filled
      ∙ ap (λ (z : List ℕ). cut_bytes input rest before ++ z) whole
      ∙ sym (append_assoc (cut_bytes input rest before) (slice_range input c.start c.end) (head ++ slice_range input start end))
      ∙ ap (λ (z : List ℕ). z ++ (head ++ slice_range input start end)) (sym (bytes_kept input rest before c filled) ∙ ap (cut_bytes input rest) (sym is))

  pub longer_is : (size' : ℕ) → size' ≡ (size + length head) + (end - start) → AreCut input made front last size' (before ++ longer ∷ [])
  longer_is size' e =
      let a = p.placed in
      let s = p.sized in
      let m = made_same in
      let r = range_len input start end (omega (arith, ordered)) within in
      let whole = ap length longer_bytes ∙ length-append (cut_bytes input (drop front made) cs) (head ++ slice_range input start end) in
      let more = length-append head (slice_range input start end) in
      let q = last_cuts in
      let o = q.1.0.1.0 in
      record {
        placed = omega (arith, a, m);
        shown = p.shown;
        cuts_are = cuts_both (length input) before (longer ∷ []) q.0 ((q.1.0.0, (omega (arith, o, apart, ordered), within)), tt);
        sized = omega (arith, s, e, r, whole, more);
      }

-- others more, behind some bytes
pub grown_bytes : {input made : List ℕ} {front last size : ℕ} {cs : List Cut} (head : List ℕ) (rest : List ℕ) (ds : List Cut) (m : ℕ) → AreCut input made front last size cs →
    last + m ≡ length made + length head →
    cut_bytes input (drop front (made ++ (head ++ rest))) (cs ++ raised m ds) ≡ (cut_bytes input (drop front made) cs ++ head) ++ cut_bytes input rest ds
grown_bytes {input} {made} {front} {last} {size} {cs} head rest ds m p e =
    let a = p.placed in
    let b = p.shown in
    let h = length-append made head in
    let l = length-drop front (made ++ head) in
    let parts : drop front (made ++ (head ++ rest)) ≡ drop front (made ++ head) ++ rest = ap (drop front) (sym (append_assoc made head rest)) ∙ drop-append-le front (made ++ head) rest (omega (arith, a, b, h)) in
    ap (λ (z : List ℕ). cut_bytes input z (cs ++ raised m ds)) parts
    ∙ bytes_both input (drop front (made ++ head)) rest cs ds m (omega (arith, a, b, e, h, l))
    ∙ ap (λ (z : List ℕ). z ++ cut_bytes input rest ds) (added_bytes head p)

pub grown_ranges : (cs ds : List Cut) (m : ℕ) → cut_ranges (cs ++ raised m ds) ≡ cut_ranges cs ++ cut_ranges ds
grown_ranges cs ds m = ranges_both cs (raised m ds) ∙ ap (λ (z : List Range). cut_ranges cs ++ z) (ranges_raised m ds)

pub grown_is : {input made : List ℕ} {front last size : ℕ} {cs : List Cut} (head : List ℕ) (rest : List ℕ) (ds : List Cut) (m size' n : ℕ) → AreCut input made front last size cs →
    AreCuts (length input) ds → cut_made ds ≤ length rest → last + m ≡ length made + length head → n ≡ length (cut_bytes input rest ds) → size' ≡ (size + length head) + n →
    AreCut input (made ++ (head ++ rest)) front (last_of ds last (length made + length head)) size' (cs ++ raised m ds)
grown_is {input} {made} {front} {last} {size} {cs} head rest ds m size' n p q short e f g =
    record {
      placed = placed_in ds;
      shown = shown_in ds short;
      cuts_are = cuts_both (length input) cs (raised m ds) p.cuts_are (cuts_raised (length input) m ds q);
      sized = sizes;
    }
  where
    placed_in : (ds : List Cut) → front + cut_made (cs ++ raised m ds) ≡ last_of ds last (length made + length head)
    placed_in [] = ap (λ (z : List Cut). front + cut_made z) (append-nil cs) ∙ p.placed
    placed_in (d ∷ ds) = let a = p.placed in let b = made_both cs (raised m (d ∷ ds)) in omega (arith, a, b, e)

    shown_in : (ds : List Cut) → cut_made ds ≤ length rest → last_of ds last (length made + length head) ≤ length (made ++ (head ++ rest))
    shown_in [] k = let a = p.shown in let b = length-append made (head ++ rest) in omega (arith, a, b)
    shown_in (d ∷ ds) k = let b = length-append made (head ++ rest) in let c = length-append head rest in omega (arith, b, c, k)

    sizes : size' ≡ length (cut_bytes input (drop front (made ++ (head ++ rest))) (cs ++ raised m ds))
    sizes =
        let s = p.sized in
        let whole = ap length (grown_bytes head rest ds m p e) ∙ length-append (cut_bytes input (drop front made) cs ++ head) (cut_bytes input rest ds) in
        let more = length-append (cut_bytes input (drop front made) cs) head in
        omega (arith, s, f, g, whole, more)

-- ---- the pieces

joined_last : (input made : List ℕ) → joined input (last_made made) ≡ made
joined_last input [] = refl
joined_last input (b ∷ made) = append-nil (b ∷ made)

pub joined_pieces : (input made : List ℕ) (cs : List Cut) → joined input (cut_pieces made cs) ≡ cut_bytes input made cs
joined_pieces input made [] = joined_last input made
joined_pieces input made (c ∷ cs) = ap (λ (z : List ℕ). take c.made made ++ (slice_range input c.start c.end ++ z)) (joined_pieces input (drop c.made made) cs)

ranges_last : (made : List ℕ) → kept_ranges (last_made made) ≡ []
ranges_last [] = refl
ranges_last (b ∷ made) = refl

pub ranges_pieces : (made : List ℕ) (cs : List Cut) → kept_ranges (cut_pieces made cs) ≡ cut_ranges cs
ranges_pieces made [] = ranges_last made
ranges_pieces made (c ∷ cs) = ap (λ z. range c.start c.end ∷ z) (ranges_pieces (drop c.made made) cs)

within_last : (n : ℕ) (made : List ℕ) → AreWithin n (last_made made)
within_last n [] = tt
within_last n (b ∷ made) = (tt, tt)

pub within_pieces : (n : ℕ) (made : List ℕ) (cs : List Cut) → AreCuts n cs → AreWithin n (cut_pieces made cs)
within_pieces n made [] p = within_last n made
within_pieces n made (c ∷ cs) p = let some = p.0.1.0 in (tt, ((omega (arith, some), p.0.1.1), within_pieces n (drop c.made made) cs p.1))

alternate_last : (made : List ℕ) → Alternate (last_made made)
alternate_last [] = tt
alternate_last (b ∷ made) = λ e. cc

some_taken : (made : List ℕ) (n : ℕ) → 0 < n → n ≤ length made → take n made ≢ []
some_taken made n some short e =
    let a = length-take n made in
    let b : length (take n made) ≡ 0 = ap length e in
    absurd (omega (arith, a, b, some, short))

pub alternate_pieces : (n : ℕ) (made : List ℕ) (cs : List Cut) → AreCuts n cs → cut_made cs ≤ length made → Alternate (cut_pieces made cs)
alternate_pieces n made [] p short = alternate_last made
alternate_pieces n made (c ∷ cs) p short =
    let l = length-drop c.made made in
    (some_taken made c.made p.0.0 (omega (arith, short)), p.0.1.0, alternate_pieces n (drop c.made made) cs p.1 (omega (arith, short, l)))

-- how many bytes pieces within an input have
pub total_joined : (input : List ℕ) (ps : List Piece) → AreWithin (length input) ps → total ps ≡ length (joined input ps)
total_joined input [] p = refl
total_joined input (Kept start end ∷ ps) p =
    let r = range_len input start end p.0.0 p.0.1 in
    let rest = total_joined input ps p.1 in
    let a = length-append (slice_range input start end) (joined input ps) in
    omega (arith, r, rest, a)
total_joined input (Made bytes ∷ ps) p =
    let rest = total_joined input ps p.1 in
    let a = length-append bytes (joined input ps) in
    omega (arith, rest, a)

-- ---- the ranges cut in from the last on

cuts_split : (n : ℕ) (cs : List Cut) (c : Cut) → AreCuts n (cs ++ c ∷ []) → AreCuts n cs × ((0 < c.made) × ((c.start < c.end) × (c.end ≤ n)))
cuts_split n [] c p = (tt, p.0)
cuts_split n (d ∷ cs) c p = let r = cuts_split n cs c p.1 in ((p.0, r.0), r.1)

-- there are no fewer than made ones
pub made_in_bytes : (input made : List ℕ) (cs : List Cut) → cut_made cs ≤ length made → length made ≤ length (cut_bytes input made cs)
made_in_bytes input made [] short = omega arith
made_in_bytes input made (c ∷ cs) short =
    let l = length-drop c.made made in
    let t = length-take c.made made in
    let rest = made_in_bytes input (drop c.made made) cs (omega (arith, short, l)) in
    let a = length-append (take c.made made) (slice_range input c.start c.end ++ cut_bytes input (drop c.made made) cs) in
    let b = length-append (slice_range input c.start c.end) (cut_bytes input (drop c.made made) cs) in
    omega (arith, short, l, t, rest, a, b)

-- made bytes more behind the last range
bytes_behind : (input out : List ℕ) (from more : ℕ) (cs : List Cut) → cut_made cs ≤ from → from ≤ length out →
    cut_bytes input (take (from + more) out) cs ≡ cut_bytes input (take from out) cs ++ take more (drop from out)
bytes_behind input out from more cs short within =
    let l = length-take-le from out within in
    ap (λ (z : List ℕ). cut_bytes input z cs) (take-add from more out) ∙ bytes_more input (take from out) (take more (drop from out)) cs (omega (arith, short, l))

-- Ranges are left to be cut into the bytes up to a place: what they become ends at another, and what stands behind that is in
-- its place already, so that all are the given bytes in the end.
pub record AreLeft (input out whole : List ℕ) (from to : ℕ) (cuts : List Cut) : Type 0 where
  pub cuts_are : AreCuts (length input) cuts
  pub placed : from ≡ cut_made cuts
  pub shown : from ≤ to
  pub short : to ≤ length out
  pub ends : to ≡ length (cut_bytes input (take from out) cuts)
  pub joined : cut_bytes input (take from out) cuts ++ drop to out ≡ whole

-- with what stands behind
left_with : (input out behind whole : List ℕ) (from to : ℕ) (cs : List Cut) → AreCuts (length input) cs → from ≡ cut_made cs → from ≤ length out → to ≤ length out →
    to ≡ length (cut_bytes input (take from out) cs) → cut_bytes input (take from out) cs ++ behind ≡ whole →
    AreLeft input (take to out ++ behind) whole from to cs
left_with input out behind whole from to cs are placed within short ends joined =
    let f = length-take-le from out within in
    let t = length-take-le to out short in
    let least = made_in_bytes input (take from out) cs (omega (arith, placed, f)) in
    let shown : from ≤ to = omega (arith, least, f, ends) in
    let first : take from (take to out ++ behind) ≡ take from out = take-append-le from (take to out) behind (omega (arith, t, shown)) ∙ take-take from to out shown in
    let last : drop to (take to out ++ behind) ≡ behind = drop_at (take to out) behind to t in
    let l = length-append (take to out) behind in
    record {
      cuts_are = are;
      placed = placed;
      shown = shown;
      short = omega (arith, l, t);
      ends = rw first ends;
      joined = rw (first, last) joined;
    }

-- the made bytes behind the last range are at the end
pub left_first : (input out : List ℕ) (made last to : ℕ) (cs : List Cut) → AreCuts (length input) cs → last ≡ cut_made cs → last ≤ made → made ≤ length out → length out ≡ length (cut_bytes input (take made out) cs) →
    to + (made - last) ≡ length out →
    AreLeft input (paste out to (drop last out) (made - last)) (cut_bytes input (take made out) cs) last to cs
left_first input out made last to cs are placed shown within sized e =
    let behind = take (made - last) (drop last out) in
    let all : last + (made - last) ≡ made = omega (arith, shown) in
    let bytes : cut_bytes input (take made out) cs ≡ cut_bytes input (take last out) cs ++ behind =
    ap (λ (n : ℕ). cut_bytes input (take n out) cs) (sym all) ∙ bytes_behind input out last (made - last) cs (omega (arith, placed)) (omega (arith, shown, within)) in
    let d = length-drop last out in
    let b = length-take-le (made - last) (drop last out) (omega (arith, d, within)) in
    let l = ap length bytes ∙ length-append (cut_bytes input (take last out) cs) behind in
    let none : paste out to (drop last out) (made - last) ≡ take to out ++ behind =
    ap (λ (z : List ℕ). (take to out ++ behind) ++ z) (drop_all (to + (made - last)) out (omega (arith, e))) ∙ append-nil (take to out ++ behind) in
    rw none (left_with input out behind (cut_bytes input (take made out) cs) last to cs are placed (omega (arith, shown, within)) (omega (arith, e)) (omega (arith, sized, e, l, b)) (sym bytes))

-- what the last range of those that are left needs
pub record LastFits (input : List ℕ) (from to : ℕ) (c : Cut) : Type 0 where
  pub made : c.made ≤ from
  pub ordered : c.start ≤ c.end
  pub within : c.end ≤ length input
  pub apart : from + length (slice_range input c.start c.end) ≤ to

-- the made bytes in front of it, and its own
last_bytes : (input out : List ℕ) (from : ℕ) (cs : List Cut) (c : Cut) → from ≡ cut_made (cs ++ c ∷ []) → from ≤ length out →
    cut_bytes input (take from out) (cs ++ c ∷ []) ≡ cut_bytes input (take (from - c.made) out) cs ++ (take c.made (drop (from - c.made) out) ++ slice_range input c.start c.end)
last_bytes input out from cs c placed within =
    let m = made_both cs (c ∷ []) in
    let l = length-take-le from out within in
    let all : (from - c.made) + c.made ≡ from = omega (arith, placed, m) in
    bytes_kept input (take from out) cs c (omega (arith, placed, m, l))
    ∙ ap (λ (n : ℕ). cut_bytes input (take n out) cs ++ slice_range input c.start c.end) (sym all)
    ∙ ap (λ (z : List ℕ). z ++ slice_range input c.start c.end) (bytes_behind input out (from - c.made) c.made cs (omega (arith, placed, m)) (omega (arith, within)))
    ∙ append_assoc (cut_bytes input (take (from - c.made) out) cs) (take c.made (drop (from - c.made) out)) (slice_range input c.start c.end)

last_len : {input out whole : List ℕ} {from to : ℕ} (cs : List Cut) (c : Cut) → AreLeft input out whole from to (cs ++ c ∷ []) →
    (c.made ≤ from) × (to ≡ length (cut_bytes input (take (from - c.made) out) cs) + (c.made + length (slice_range input c.start c.end))) × (from - c.made ≤ length (cut_bytes input (take (from - c.made) out) cs))
last_len {input} {out} {whole} {from} {to} cs c p =
    let placed = p.placed in
    let shown = p.shown in
    let short = p.short in
    let m = made_both cs (c ∷ []) in
    let mid = take c.made (drop (from - c.made) out) in
    let e = p.ends ∙ ap length (last_bytes input out from cs c placed (omega (arith, shown, short)))
    ∙ length-append (cut_bytes input (take (from - c.made) out) cs) (mid ++ slice_range input c.start c.end) in
    let d = length-drop (from - c.made) out in
    let b = length-take-le c.made (drop (from - c.made) out) (omega (arith, d, placed, m, shown, short)) in
    let a = length-append mid (slice_range input c.start c.end) in
    let l = length-take-le (from - c.made) out (omega (arith, shown, short)) in
    let least = made_in_bytes input (take (from - c.made) out) cs (omega (arith, placed, m, l)) in
    (omega (arith, placed, m), omega (arith, e, b, a), omega (arith, least, l))

pub last_fits : {input out whole : List ℕ} {from to : ℕ} (cs : List Cut) (c : Cut) → AreLeft input out whole from to (cs ++ c ∷ []) → LastFits input from to c
last_fits {input} {out} {whole} {from} {to} cs c p =
    let q = cuts_split (length input) cs c p.cuts_are in
    let s = last_len cs c p in
    let some = q.1.1.0 in
    record { made = s.0; ordered = omega (arith, some); within = q.1.1.1; apart = omega (arith, s.0, s.1, s.2) }

-- the last range is in its place, and the made bytes in front of it
pub left_more : {input out whole : List ℕ} {from to : ℕ} (cs : List Cut) (c : Cut) → AreLeft input out whole from to (cs ++ c ∷ []) →
    AreLeft input (take (to - (length (slice_range input c.start c.end) + c.made)) out ++ (take c.made (drop (from - c.made) out) ++ (slice_range input c.start c.end ++ drop to out)))
    whole (from - c.made) (to - (length (slice_range input c.start c.end) + c.made)) cs
left_more {input} {out} {whole} {from} {to} cs c p =
    let kept = slice_range input c.start c.end in
    let mid = take c.made (drop (from - c.made) out) in
    let first = cut_bytes input (take (from - c.made) out) cs in
    let placed = p.placed in
    let shown = p.shown in
    let short = p.short in
    let m = made_both cs (c ∷ []) in
    let s = last_len cs c p in
    let joined : first ++ (mid ++ (kept ++ drop to out)) ≡ whole =
    behind_three first mid kept (drop to out)
    ∙ ap (λ (z : List ℕ). z ++ drop to out) (sym (last_bytes input out from cs c placed (omega (arith, shown, short))))
    ∙ p.joined in
    left_with input out (mid ++ (kept ++ drop to out)) whole (from - c.made) (to - (length kept + c.made)) cs (cuts_split (length input) cs c p.cuts_are).0
    (omega (arith, placed, m)) (omega (arith, shown, short)) (omega (arith, short)) (omega (arith, s.1)) joined
