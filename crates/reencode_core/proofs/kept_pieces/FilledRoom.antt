-- Room that is filled from the front by made bytes and the ranges that are cut into them.
use Rattle.std.proofs.Common.{◌≡◌, ◌≤◌, ℕ, ◌+◌, ◌-◌, List, [], ◌∷◌, ◌++◌, length, take, drop, slice_range, refl, sym, ap, ◌∙◌, append_assoc, append-nil, length-append, length-drop, length-take, arith}
use Rattle.std.proofs.lemmas.List.{drop-drop, drop_all, length-take-le}
use Rattle.std.proofs.Math.Seq.{take-append_seam}
use Rattle.reencode_core.specs.Pieces.{AreCuts, cut_bytes, cut_made}
use Rattle.reencode_core.specs.declared.pieces.cuts.Cut.{Cut}
use Rattle.reencode_core.proofs.kept_pieces.CutBytes.{range_len}

-- the room is filled up to a place, and what is left of the whole is what the made bytes from another on become
pub record AreFilled (input made whole out : List ℕ) (from to : ℕ) (left : List Cut) : Type 0 where
  pub done : List ℕ
  pub so_far : take to out ≡ done
  pub placed : length done ≡ to
  pub rest : whole ≡ done ++ cut_bytes input (drop from made) left
  pub sized : length out ≡ length whole
  pub within : AreCuts (length input) left
  pub shown : from + cut_made left ≤ length made

pub filled_none : (input made out : List ℕ) (cuts : List Cut) → AreCuts (length input) cuts → cut_made cuts ≤ length made → length out ≡ length (cut_bytes input made cuts) →
    AreFilled input made (cut_bytes input made cuts) out 0 0 cuts
filled_none input made out cuts within shown sized = record { done = []; so_far = refl; placed = refl; rest = refl; sized = sized; within = within; shown = omega (arith, shown) }

-- bytes at a place, and what stands behind them
abbrev pub put : List ℕ → ℕ → List ℕ → List ℕ
put out to bytes = take to out ++ (bytes ++ drop (to + length bytes) out)

put_length : (out : List ℕ) (to : ℕ) (bytes : List ℕ) → to + length bytes ≤ length out → length (put out to bytes) ≡ length out
put_length out to bytes fits =
    let t = length-take-le to out (omega (arith, fits)) in
    let l = length-drop (to + length bytes) out in
    let a = length-append (take to out) (bytes ++ drop (to + length bytes) out) in
    let b = length-append bytes (drop (to + length bytes) out) in
    omega (arith, fits, t, l, a, b)

put_front : (out : List ℕ) (to : ℕ) (bytes done : List ℕ) → to + length bytes ≤ length out → take to out ≡ done → take (to + length bytes) (put out to bytes) ≡ done ++ bytes
put_front out to bytes done fits e =
    let t = length-take-le to out (omega (arith, fits)) in
    let l = length-append (take to out) bytes in
    let count : to + length bytes ≡ length (take to out ++ bytes) = omega (arith, t, l) in
    let rest = drop (to + length bytes) out in
    ap (λ (z : List ℕ). take (to + length bytes) z) (sym (append_assoc (take to out) bytes rest)) ∙ ap (λ (n : ℕ). take n ((take to out ++ bytes) ++ rest)) count
    ∙ take-append_seam (take to out ++ bytes) rest ∙ ap (λ (z : List ℕ). z ++ bytes) e

module _ {input made whole out : List ℕ} {from to : ℕ} where
  -- the last made bytes
  pub last_fits : AreFilled input made whole out from to [] → to + length (drop from made) ≡ length out
  last_fits p =
      let a = p.placed in
      let s = p.sized in
      let r = ap length p.rest ∙ length-append p.done (drop from made) in
      omega (arith, a, s, r)

  pub filled_all : AreFilled input made whole out from to [] → put out to (drop from made) ≡ whole
  filled_all p =
      let f = last_fits p in
      let none : drop (to + length (drop from made)) out ≡ [] = drop_all (to + length (drop from made)) out (omega (arith, f)) in
      rw (none, append-nil (drop from made), p.so_far) (sym p.rest)

  module _ {c : Cut} {rest : List Cut} (p : AreFilled input made whole out from to (c ∷ rest)) where
    abbrev part : List ℕ
    part = take c.made (drop from made)

    abbrev kept : List ℕ
    kept = slice_range input c.start c.end

    pub part_length : length part ≡ c.made
    part_length =
        let s = p.shown in
        let l = length-drop from made in
        length-take-le c.made (drop from made) (omega (arith, s, l))

    pub next_fits : to + (c.made + length kept) ≤ length out
    next_fits =
        let a = p.placed in
        let s = p.sized in
        let r = ap length p.rest ∙ length-append p.done (part ++ (kept ++ cut_bytes input (drop c.made (drop from made)) rest)) in
        let m = length-append part (kept ++ cut_bytes input (drop c.made (drop from made)) rest) in
        let k = length-append kept (cut_bytes input (drop c.made (drop from made)) rest) in
        let l = part_length in
        omega (arith, a, s, r, m, k, l)

    pub filled_more : AreFilled input made whole (put (put out to part) (to + c.made) kept) (from + c.made) (to + (c.made + length kept)) rest
    filled_more =
        let l = part_length in
        let f = next_fits in
        let first_fits : to + length part ≤ length out = omega (arith, l, f) in
        let one = put out to part in
        let one_length = put_length out to part first_fits in
        let second_fits : (to + c.made) + length kept ≤ length one = omega (arith, f, one_length) in
        let one_front : take (to + c.made) one ≡ p.done ++ part = ap (λ (n : ℕ). take (to + n) one) (sym l) ∙ put_front out to part p.done first_fits p.so_far in
        let place : to + (c.made + length kept) ≡ (to + c.made) + length kept = omega arith in
        let a = p.placed in
        let d = length-append p.done part in
        let e = length-append (p.done ++ part) kept in
        let behind : drop c.made (drop from made) ≡ drop (from + c.made) made = drop-drop c.made from made in
        let s = p.shown in
        record {
          done = (p.done ++ part) ++ kept;
          so_far = ap (λ (n : ℕ). take n (put one (to + c.made) kept)) place ∙ put_front one (to + c.made) kept (p.done ++ part) second_fits one_front;
          placed = omega (arith, a, d, e, l);
          rest =
              p.rest ∙ sym (append_assoc p.done part (kept ++ cut_bytes input (drop c.made (drop from made)) rest)) ∙ sym (append_assoc (p.done ++ part) kept (cut_bytes input (drop c.made (drop from made)) rest))
              ∙ ap (λ (z : List ℕ). ((p.done ++ part) ++ kept) ++ cut_bytes input z rest) behind;
          sized = put_length one (to + c.made) kept second_fits ∙ one_length ∙ p.sized;
          within = p.within.1;
          shown = omega (arith, s);
        }
