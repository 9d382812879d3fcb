-- What stood before stands there still.
use Rattle.std.proofs.Common.{◌≡◌, ℕ, ◌-◌, ◌≤◌, List, ◌++◌, length, take, drop, Result, Ok, Err, OnErr, sym, ap, ◌∙◌, arith, append_assoc, length-append}
use Rattle.std.specs.List.{remove_range, slice_range}
use Rattle.std.proofs.Math.Seq.{take-append_seam, drop-append_seam}
use Rattle.std.proofs.lemmas.List.{take-take}

module _ (old text new : List ℕ) {n m : ℕ} {mid : List ℕ} (k : n ≡ length old) (l : m ≡ length mid) (e : mid ≡ old ++ text) where
  -- some bytes were added, and more was written behind them, and of all that the front is what stood before
  pub front_stays : take m new ≡ mid → take n new ≡ old
  front_stays f =
      let longer : n ≤ m = omega (arith, ap length e, length-append old text) in
      sym (take-take n m new longer) ∙ ap (take n) (f ∙ e) ∙ rw k (take-append_seam old text)

  -- the same where the second was refused
  pub front_stays_on : {A E : Type 0} (r : Result A E) → OnErr r (take m new ≡ mid) → OnErr r (take n new ≡ old)
  front_stays_on (Ok a) f = tt
  front_stays_on (Err d) f = front_stays f

-- what stands between two places was moved behind all
pub moved_behind : (front body last : List ℕ) {all : List ℕ} {n m : ℕ} → all ≡ (front ++ body) ++ last → n ≡ length front → m ≡ length (front ++ body) →
    remove_range all n m ++ slice_range all n m ≡ front ++ (last ++ body)
moved_behind front body last {all = all} {n = n} {m = m} e k l =
    let same : all ≡ front ++ (body ++ last) = e ∙ append_assoc front body last in
    let some : m - n ≡ length body = omega (arith, k, l, length-append front body) in
    let first : take n all ≡ front = rw (k, same) (take-append_seam front (body ++ last)) in
    let behind : drop n all ≡ body ++ last = rw (k, same) (drop-append_seam front (body ++ last)) in
    let rest : drop m all ≡ last = rw (l, e) (drop-append_seam (front ++ body) last) in
    let between : take (m - n) (drop n all) ≡ body = rw (some, behind) (take-append_seam body last) in
    rw (first, rest, between) (append_assoc front last body)
