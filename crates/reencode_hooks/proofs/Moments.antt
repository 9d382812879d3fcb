-- What happens on a walk: visits, frames and lost indices.
use Rattle.std.proofs.Common.{◌≡◌, ◌≤◌, ℕ, zero, suc, List, [], ◌∷◌, ◌++◌, length, drop, get_or, Option, None, Bool, true, false, nat_le, if◌then◌else◌, refl, sym, ap, ◌∙◌, append-nil, arith, All, inl, inr}
use Rattle.std.specs.Prelude.{map}
use Rattle.std.proofs.lemmas.Bool.{leb-true, leb-false}
use Rattle.std.proofs.lemmas.List.Elements.{All-nil, All-cons, All-head, All-tail, All-append}
use Rattle.wasm_shapes.specs.declared.SectionId.{SectionId}
use Rattle.wasm_shapes.specs.declared.Visit.{Visit}
use Rattle.wasm_shapes.specs.Tree.{Tree, normal, frames, before, behind, kind, fill, after, past, aimed_at, typed, Listed}
use Rattle.wasm_shapes.specs.Spells.{Spelled}
use Rattle.wasm_shapes.specs.Fits.{Fits}
use Rattle.reencode_hooks.specs.declared.error.Error.{Error}
use Rattle.reencode_hooks.specs.declared.error.Error.TheVariants.{TooLarge, CanonicalizedHeapTypeReference}
use Rattle.reencode_hooks.specs.Run.{Step, accepted, refused, and_then, run}
use Rattle.reencode_hooks.specs.Moments.{Moment, asks, closes, lost, moments_from, asked_in, closed_in, closings, NoneLost, passed, Ends, Stops}
use Rattle.reencode_hooks.proofs.Agrees.{inv, passed-append}

-- ---- frames

closed_in-append : (xs ys : List Moment) → closed_in (xs ++ ys) ≡ closed_in xs ++ closed_in ys
closed_in-append [] ys = refl
closed_in-append (asks v ∷ xs) ys = closed_in-append xs ys
closed_in-append (closes n ∷ xs) ys = ap (λ (z : List ℕ). n ∷ z) (closed_in-append xs ys)
closed_in-append (lost ∷ xs) ys = closed_in-append xs ys

closed_in-map : (vs : List Visit) → closed_in (map asks vs) ≡ []
closed_in-map [] = refl
closed_in-map (v ∷ vs) = closed_in-map vs

-- these frames close
record Closes (ms : List Moment) (ns : List ℕ) : Type 0 where
  is : closed_in ms ≡ ns

side : {xs ys : List Moment} {a b : List ℕ} → Closes xs a → Closes ys b → Closes (xs ++ ys) (a ++ b)
side {xs} {ys} p q = record { is = rw (closed_in-append xs ys, p.is, q.is) refl }

visited : {v : Visit} {xs : List Moment} {a : List ℕ} → Closes xs a → Closes (asks v ∷ xs) a
visited p = record { is = p.is }

none : Closes [] []
none = record { is = refl }

closing : (n : ℕ) → Closes (closes n ∷ []) (n ∷ [])
closing n = record { is = refl }

told : (vs : List Visit) → Closes (map asks vs) []
told vs = record { is = closed_in-map vs }

closes_as : {xs : List Moment} {a b : List ℕ} → a ≡ b → Closes xs a → Closes xs b
closes_as e p = record { is = p.is ∙ e }

closings-typed : (w : Listed) (t : Tree) → closings (typed w t) ≡ closings t
closings-typed Listed.functions t = refl
closings-typed Listed.expressions t = append-nil (closings t)

closings-aimed_at : (w : Listed) (i : ℕ) (o t : Tree) → closings (aimed_at w i o t) ≡ closings t ++ closings o
closings-aimed_at w zero o t = refl
closings-aimed_at w (suc i) o t = ap (λ (z : List ℕ). z ++ closings o) (closings-typed w t)

before_count : (last : Option SectionId) (t : Tree) → length (before last t) ≡ length (before None t)
before_count last (Tree.row k t) = before_count last t
before_count last (Tree.told k t) = refl
before_count last _ = refl

closed_from : (last : Option SectionId) (t : Tree) (b : List ℕ) → Closes (moments_from last t b) (closings (fill t b))
closed_from last (Tree.ix s i) b = visited none
closed_from last (Tree.sx s i) b = visited none
closed_from last (Tree.outer s k i) b = visited none
closed_from last (Tree.mem a i o) b = visited none
closed_from last (Tree.canonical i) b = record { is = refl }
closed_from last (Tree.pair t u) b = side (closed_from None t b) (closed_from None u (after t b))
closed_from last (Tree.swap t u) b = side (closed_from None u b) (closed_from None t (after u b))
closed_from last (Tree.cons t u) b = side (closed_from None t b) (closed_from None u (after t b))
closed_from last (Tree.vec t) b = closed_from None t b
closed_from last (Tree.present t) b = closed_from None t b
closed_from last (Tree.sized t) b = side (closed_from None t b) (closing (length (normal (fill t b))))
closed_from last (Tree.row k t) b = closed_from None t b
closed_from last (Tree.scope t) b = closes_as (append-nil (closings (fill t (drop 1 b)))) (visited (side (closed_from None t (drop 1 b)) (visited none)))
closed_from last (Tree.spare c t) b = closed_from None t b
closed_from last (Tree.kept c t) b = closed_from None t b
closed_from last (Tree.final t u) b = side (closed_from None t b) (closed_from None u (after t b))
closed_from last (Tree.until c t) b = closed_from None t b
closed_from last (Tree.op k t) b = closed_from None t b
closed_from last (Tree.left w o t) b =
    closes_as (sym (closings-aimed_at w (get_or (after t b) 0 0) (fill o (drop 1 (after t b))) (fill t b)))
    (side (closed_from None t b) (visited (closed_from None o (drop 1 (after t b)))))
closed_from last (Tree.aimed w i o t) b = side (closed_from None t b) (visited (closed_from None o (drop 1 (after t b))))
closed_from last (Tree.placed i o t) b = visited (side (closed_from None o (drop 1 b)) (closed_from None t (after o (drop 1 b))))
closed_from last (Tree.told k t) b = closed_from None t b
closed_from last Tree.finish b = visited none
closed_from last (Tree.also t u) b =
    let own = drop (length (before last t)) b in
    closes_as (rw (before_count last t) refl) (side (told (before last t)) (side (closed_from None t own) (side (told (behind t)) (closed_from (kind last t) u (past t own)))))
closed_from last _ b = none

pub closed : (t : Tree) (b : List ℕ) → closed_in (moments_from None t b) ≡ closings (fill t b)
closed t b = (closed_from None t b).is

-- ---- the same frames in the order of the bytes

abbrev Below : ℕ → List ℕ → Type 0
Below c xs = All (λ n. n ≤ c) xs

below_both : (c : ℕ) (xs ys : List ℕ) → Below c xs → Below c ys → Below c (xs ++ ys)
below_both c xs ys p q = All-append (λ n. n ≤ c) xs ys p q

pub below_parts : (c : ℕ) (xs ys : List ℕ) → Below c (xs ++ ys) → Below c xs × Below c ys
below_parts c [] ys h = (All-nil (λ n. n ≤ c), h)
below_parts c (x ∷ xs) ys h =
    let rest = below_parts c xs ys (All-tail (λ n. n ≤ c) x (xs ++ ys) h) in
    (All-cons (λ n. n ≤ c) x xs (All-head (λ n. n ≤ c) x (xs ++ ys) h) rest.0, rest.1)

-- some numbers are within a bound where these are, and the other way round
record Alike (c : ℕ) (xs ys : List ℕ) : Type 0 where
  forth : Below c xs → Below c ys
  back : Below c ys → Below c xs

alike_same : {c : ℕ} (xs : List ℕ) → Alike c xs xs
alike_same xs = record { forth = λ h. h; back = λ h. h }

alike_side : {c : ℕ} {a b x y : List ℕ} → Alike c a x → Alike c b y → Alike c (a ++ b) (x ++ y)
alike_side {c} {a} {b} {x} {y} p q = record {
  forth = λ h. let k = below_parts c a b h in below_both c x y (p.forth k.0) (q.forth k.1);
  back = λ h. let k = below_parts c x y h in below_both c a b (p.back k.0) (q.back k.1);
}

alike_swap : {c : ℕ} {a b x y : List ℕ} → Alike c a x → Alike c b y → Alike c (b ++ a) (x ++ y)
alike_swap {c} {a} {b} {x} {y} p q = record {
  forth = λ h. let k = below_parts c b a h in below_both c x y (p.forth k.1) (q.forth k.0);
  back = λ h. let k = below_parts c x y h in below_both c b a (q.back k.1) (p.back k.0);
}

alike_from : (c : ℕ) (t : Tree) → Alike c (closings t) (frames t)
alike_from c (Tree.pair t u) = alike_side (alike_from c t) (alike_from c u)
alike_from c (Tree.swap t u) = alike_swap (alike_from c t) (alike_from c u)
alike_from c (Tree.cons t u) = alike_side (alike_from c t) (alike_from c u)
alike_from c (Tree.vec t) = alike_from c t
alike_from c (Tree.present t) = alike_from c t
alike_from c (Tree.sized t) = alike_side (alike_from c t) (alike_same (length (normal t) ∷ []))
alike_from c (Tree.row k t) = alike_from c t
alike_from c (Tree.scope t) = alike_from c t
alike_from c (Tree.spare b t) = alike_from c t
alike_from c (Tree.kept b t) = alike_from c t
alike_from c (Tree.final t u) = alike_side (alike_from c t) (alike_from c u)
alike_from c (Tree.until b t) = alike_from c t
alike_from c (Tree.op k t) = alike_from c t
alike_from c (Tree.left w o t) = alike_swap (alike_from c o) (alike_from c t)
alike_from c (Tree.aimed w i o t) = alike_swap (alike_from c o) (alike_from c t)
alike_from c (Tree.placed i o t) = alike_side (alike_from c o) (alike_from c t)
alike_from c (Tree.told k t) = alike_from c t
alike_from c (Tree.also t u) = alike_side (alike_from c t) (alike_from c u)
alike_from c _ = alike_same []

pub closings_fit : (t : Tree) (c : ℕ) → Below c (closings t) → Fits t c
closings_fit t c h = (alike_from c t).forth h

pub fit_closings : (t : Tree) (c : ℕ) → Fits t c → Below c (closings t)
fit_closings t c h = (alike_from c t).back h

-- ---- no index is lost in what bytes spell

record Kept (ms : List Moment) : Type 0 where
  is : NoneLost ms

none_lost-append : (xs ys : List Moment) → NoneLost xs → NoneLost ys → NoneLost (xs ++ ys)
none_lost-append [] ys p q = q
none_lost-append (asks v ∷ xs) ys p q = none_lost-append xs ys p q
none_lost-append (closes n ∷ xs) ys p q = none_lost-append xs ys p q
none_lost-append (lost ∷ xs) ys p q = p

none_lost-map : (vs : List Visit) → NoneLost (map asks vs)
none_lost-map [] = tt
none_lost-map (v ∷ vs) = none_lost-map vs

kept_side : {xs ys : List Moment} → Kept xs → Kept ys → Kept (xs ++ ys)
kept_side {xs} {ys} p q = record { is = none_lost-append xs ys p.is q.is }

kept_visit : {v : Visit} {xs : List Moment} → Kept xs → Kept (asks v ∷ xs)
kept_visit p = record { is = p.is }

kept_none : Kept []
kept_none = record { is = tt }

known_from : (last : Option SectionId) (t : Tree) (x b : List ℕ) → Spelled t x → Kept (moments_from last t b)
known_from last (Tree.ix s i) x b p = kept_visit kept_none
known_from last (Tree.sx s i) x b p = kept_visit kept_none
known_from last (Tree.outer s k i) x b p = kept_visit kept_none
known_from last (Tree.mem a i o) x b p = kept_visit kept_none
known_from last (Tree.canonical i) x b p = absurd p
known_from last (Tree.pair t u) x b p = kept_side (known_from None t p.0 b p.3) (known_from None u p.1 (after t b) p.4)
known_from last (Tree.swap t u) x b p = kept_side (known_from None u p.1 b p.4) (known_from None t p.0 (after u b) p.3)
known_from last (Tree.cons t u) x b p = kept_side (known_from None t p.0 b p.3) (known_from None u p.1 (after t b) p.4)
known_from last (Tree.vec t) x b p = known_from None t p.1 b p.4
known_from last (Tree.present t) x b p = known_from None t p.0 b p.2
known_from last (Tree.sized t) x b p = kept_side (known_from None t p.1 b p.4) (record { is = tt })
known_from last (Tree.row k t) x b p = known_from None t x b p
known_from last (Tree.scope t) x b p = kept_visit (kept_side (known_from None t x (drop 1 b) p) (kept_visit kept_none))
known_from last (Tree.spare c t) x b (inl p) = known_from None t x b p
known_from last (Tree.spare c t) x b (inr p) = known_from None t p.0 b p.2
known_from last (Tree.kept c t) x b p = known_from None t p.0 b p.2
known_from last (Tree.final t u) x b (inl p) = kept_side (known_from None t p.0 b p.4) (known_from None u p.1 (after t b) p.5)
known_from last (Tree.final t u) x b (inr p) = kept_side (known_from None t p.1 b p.5) (known_from None u p.2 (after t b) p.6)
known_from last (Tree.until c t) x b p = known_from None t p.0 b p.2
known_from last (Tree.op k t) x b p = known_from None t p.1 b p.4
known_from last (Tree.left w o t) x b p = kept_side (known_from None t p.2 b p.6) (kept_visit (known_from None o p.1 (drop 1 (after t b)) p.5))
known_from last (Tree.aimed w i o t) x b p = kept_side (known_from None t p.3 b p.8) (kept_visit (known_from None o p.2 (drop 1 (after t b)) p.7))
known_from last (Tree.placed i o t) x b p = kept_visit (kept_side (known_from None o p.1 (drop 1 b) p.5) (known_from None t p.2 (after o (drop 1 b)) p.6))
known_from last (Tree.told k t) x b p = known_from None t x b p
known_from last Tree.finish x b p = kept_visit kept_none
known_from last (Tree.also t u) x b p =
    let own = drop (length (before last t)) b in
    kept_side (record { is = none_lost-map (before last t) }) (kept_side (known_from None t p.0 own p.3)
    (kept_side (record { is = none_lost-map (behind t) }) (known_from (kind last t) u p.1 (past t own) p.4)))
known_from last _ x b p = kept_none

pub known : (t : Tree) (x b : List ℕ) → Spelled t x → NoneLost (moments_from None t b)
known t x b p = (known_from None t x b p).is

-- ---- where a list of moments is passed, and where it stops

module _ {S E : Type 0} (asked : S → Visit → Step S (Error E) ℕ) (c : ℕ) where
  within : (b : Bool) (n : ℕ) → nat_le n c ≡ b → n ≤ c → b ≡ true
  within true n e h = refl
  within false n e h = absurd (omega (arith, leb-false n c e))

  pass_closing : (n : ℕ) (s : S) (r : Step S (Error E) (List ℕ)) → n ≤ c → (if nat_le n c then r else refused (TooLarge n) s) ≡ r
  pass_closing n s r h = rw (within (nat_le n c) n refl h) refl

  -- a run that is accepted passes, where the frames fit and no index is lost
  pub pass : (s : S) (ms : List Moment) (a : List ℕ) (m : S) → run asked s (asked_in ms) ≡ accepted a m → Below c (closed_in ms) → NoneLost ms → passed asked c s ms ≡ accepted a m
  pass s [] a m h f k = h
  pass s (asks v ∷ ms) a m h f k =
      let i = inv (asked s v) (λ n m. and_then (run asked m (asked_in ms)) (λ ns k. accepted (n ∷ ns) k)) h in
      let j = inv (run asked i.1 (asked_in ms)) (λ ns k. accepted (i.0 ∷ ns) k) i.3 in
      rw (i.2, pass i.1 ms j.0 j.1 j.2 f k) j.3
  pass s (closes n ∷ ms) a m h f k =
      pass_closing n s (passed asked c s ms) (All-head (λ n. n ≤ c) n (closed_in ms) f) ∙ pass s ms a m h (All-tail (λ n. n ≤ c) n (closed_in ms) f) k
  pass s (lost ∷ ms) a m h f k = absurd k

  closing_passed : (b : Bool) (n : ℕ) (s : S) (r : Step S (Error E) (List ℕ)) {a : List ℕ} {m : S} → nat_le n c ≡ b → (if b then r else refused (TooLarge n) s) ≡ accepted a m → (n ≤ c) × (r ≡ accepted a m)
  closing_passed true n s r e h = (leb-true n c e, h)
  closing_passed false n s r e h = absurd cc

  -- what was passed fits
  pub passed_fits : (s : S) (ms : List Moment) (a : List ℕ) (m : S) → passed asked c s ms ≡ accepted a m → Below c (closed_in ms) × NoneLost ms
  passed_fits s [] a m h = (All-nil (λ n. n ≤ c), tt)
  passed_fits s (asks v ∷ ms) a m h =
      let i = inv (asked s v) (λ n m. and_then (passed asked c m ms) (λ ns k. accepted (n ∷ ns) k)) h in
      let j = inv (passed asked c i.1 ms) (λ ns k. accepted (i.0 ∷ ns) k) i.3 in
      passed_fits i.1 ms j.0 j.1 j.2
  passed_fits s (closes n ∷ ms) a m h =
      let i = closing_passed (nat_le n c) n s (passed asked c s ms) refl h in
      let r = passed_fits s ms a m i.1 in
      (All-cons (λ n. n ≤ c) n (closed_in ms) i.0 r.0, r.1)
  passed_fits s (lost ∷ ms) a m h = absurd cc

  -- a moment in front of those that stop
  stop_visit : {s k m : S} {e : Error E} (v : Visit) (n : ℕ) (ms : List Moment) → asked s v ≡ accepted n k → Stops asked c k ms e m → Stops asked c s (asks v ∷ ms) e m
  stop_visit v n ms h p = record {
    front = asks v ∷ p.front;
    moment = p.moment;
    rest = p.rest;
    parts = ap (λ (z : List Moment). asks v ∷ z) p.parts;
    so_far = n ∷ p.so_far;
    state = p.state;
    ran = rw (h, p.ran) refl;
    fits = p.fits;
    known = p.known;
    ends = p.ends;
  }

  stop_closing : {s m : S} {e : Error E} (n : ℕ) (ms : List Moment) → n ≤ c → Stops asked c s ms e m → Stops asked c s (closes n ∷ ms) e m
  stop_closing n ms h p = record {
    front = closes n ∷ p.front;
    moment = p.moment;
    rest = p.rest;
    parts = ap (λ (z : List Moment). closes n ∷ z) p.parts;
    so_far = p.so_far;
    state = p.state;
    ran = p.ran;
    fits = All-cons (λ n. n ≤ c) n (closed_in p.front) h p.fits;
    known = p.known;
    ends = p.ends;
  }

  stop_here : {s m : S} {e : Error E} (x : Moment) (ms : List Moment) → Ends asked c s x e m → Stops asked c s (x ∷ ms) e m
  stop_here {s} x ms h = record {
    front = [];
    moment = x;
    rest = ms;
    parts = refl;
    so_far = [];
    state = s;
    ran = refl;
    fits = All-nil (λ n. n ≤ c);
    known = tt;
    ends = h;
  }

  visit_stops : {s m : S} {e : Error E} (v : Visit) (ms : List Moment) (r : Step S (Error E) ℕ) → asked s v ≡ r →
      ((k : S) → passed asked c k ms ≡ refused e m → Stops asked c k ms e m) →
      and_then r (λ n k. and_then (passed asked c k ms) (λ ns j. accepted (n ∷ ns) j)) ≡ refused e m → Stops asked c s (asks v ∷ ms) e m
  visit_stops v ms (refused d k) q rest h = stop_here (asks v) ms (q ∙ h_as h)
    where
      h_as : {d e : Error E} {k m : S} → ◌≡◌ {A = Step S (Error E) (List ℕ)} (refused d k) (refused e m) → ◌≡◌ {A = Step S (Error E) ℕ} (refused d k) (refused e m)
      h_as {d} {e} {k} {m} h = let x : d ≡ e = cc in let y : k ≡ m = cc in rw (x, y) refl
  visit_stops {m = m} {e = e} v ms (accepted n k) q rest h = stop_visit v n ms q (rest k (go (passed asked c k ms) h))
    where
      go : (r : Step S (Error E) (List ℕ)) → and_then r (λ ns j. accepted (n ∷ ns) j) ≡ refused e m → r ≡ refused e m
      go (accepted ns j) h = absurd cc
      go (refused d j) h = h

  closing_stops : {s m : S} {e : Error E} (n : ℕ) (ms : List Moment) (b : Bool) → nat_le n c ≡ b →
      (passed asked c s ms ≡ refused e m → Stops asked c s ms e m) →
      (if b then passed asked c s ms else refused (TooLarge n) s) ≡ refused e m → Stops asked c s (closes n ∷ ms) e m
  closing_stops n ms true q rest h = stop_closing n ms (leb-true n c q) (rest h)
  closing_stops {s} {m} {e} n ms false q rest h =
      let x : TooLarge n ≡ e = cc in let y : s ≡ m = cc in stop_here (closes n) ms (omega (arith, leb-false n c q), sym x, sym y)

  pub refused_stops : (s : S) (ms : List Moment) (e : Error E) (m : S) → passed asked c s ms ≡ refused e m → Stops asked c s ms e m
  refused_stops s [] e m h = absurd cc
  refused_stops s (asks v ∷ ms) e m h = visit_stops v ms (asked s v) refl (λ k p. refused_stops k ms e m p) h
  refused_stops s (closes n ∷ ms) e m h = closing_stops n ms (nat_le n c) refl (λ p. refused_stops s ms e m p) h
  refused_stops s (lost ∷ ms) e m h = let x : CanonicalizedHeapTypeReference ≡ e = cc in let y : s ≡ m = cc in stop_here lost ms (sym x, sym y)

  ends_refused : (s : S) (x : Moment) (ms : List Moment) (e : Error E) (m : S) → Ends asked c s x e m → passed asked c s (x ∷ ms) ≡ refused e m
  ends_refused s (asks v) ms e m h = rw h refl
  ends_refused s (closes n) ms e m h = go (nat_le n c) refl
    where
      go : (b : Bool) → nat_le n c ≡ b → (if b then passed asked c s ms else refused (TooLarge n) s) ≡ refused e m
      go true q = absurd (omega (arith, leb-true n c q, h.0))
      go false q = rw (h.1, h.2) refl
  ends_refused s lost ms e m h = rw (h.0, h.1) refl

  pub stops_refused : (s : S) (ms : List Moment) (e : Error E) (m : S) → Stops asked c s ms e m → passed asked c s ms ≡ refused e m
  stops_refused s ms e m p =
      rw (p.parts, passed-append asked c s p.front (p.moment ∷ p.rest), pass s p.front p.so_far p.state p.ran p.fits p.known, ends_refused p.state p.moment p.rest e m p.ends) refl
