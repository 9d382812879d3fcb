-- The laws of `specs/Laws.antt`.
use Rattle.std.proofs.Common.{◌≡◌, ◌≤◌, ℕ, List, [], ◌∷◌, ◌++◌, append_assoc, inl, inr, ◌⊎◌, None, refl, sym, ap, ◌∙◌, subst, append-nil, All}
use Rattle.wasm_shapes.specs.declared.Visit.{Visit}
use Rattle.wasm_shapes.specs.Tree.{Tree, visits, fill}
use Rattle.wasm_shapes.specs.Spells.{Spelled}
use Rattle.wasm_shapes.specs.Fits.{Fits}
use Rattle.reencode_hooks.specs.declared.error.Error.{Error}
use Rattle.reencode_hooks.specs.declared.error.Error.TheVariants.{UserError, TooLarge, CanonicalizedHeapTypeReference}
use Rattle.reencode_hooks.specs.Run.{Step, accepted, refused, and_then, run, answers, state_after, Visited}
use Rattle.reencode_hooks.specs.Walk.{walk}
use Rattle.reencode_hooks.specs.Moments.{Moment, asks, closes, lost, NoneLost, Ends, moments, asked_in, passed}
use Rattle.reencode_hooks.specs.Laws as statements
use Rattle.reencode_hooks.proofs.Agrees.{asked_in-append, agrees, inv, given, passed-run, answers_all}
use Rattle.reencode_hooks.proofs.Moments as moment

module _ {S E : Type 0} (asked : S → Visit → Step S (Error E) ℕ) where
  pub walk_is_passed : statements.WalkIsPassed asked
  walk_is_passed c s t =
      (agrees asked c None t).same s []
      ∙ ap (λ (z : List ℕ). and_then (passed asked c s (moments t z)) (λ a m. accepted (fill t a) m)) (append-nil (answers asked s (visits t)))

  asked_are : (c : ℕ) (t : Tree) (b : List ℕ) → asked_in (moments t b) ≡ visits t
  asked_are c t b = (agrees asked c None t).visits_are b

  forth : (c : ℕ) (s m : S) (t u : Tree) → walk asked c s t ≡ accepted u m → statements.Accepts asked c s t u m
  forth c s m t u h =
      let b = answers asked s (visits t) in
      let i = inv (passed asked c s (moments t b)) (λ a m. accepted (fill t a) m) (sym (walk_is_passed c s t) ∙ h) in
      let g = given i.3 in
      let ran : run asked s (visits t) ≡ accepted i.0 i.1 = ap (run asked s) (sym (asked_are c t b)) ∙ passed-run asked c s (moments t b) i.0 i.1 i.2 in
      let same : b ≡ i.0 = answers_all asked c s (visits t) i.0 i.1 ran in
      let fits = (moment.passed_fits asked c s (moments t b) i.0 i.1 i.2).0 in
      let P : List ℕ → Type 0 = λ z. All (λ n. n ≤ c) z in
      let Q : Tree → Type 0 = λ z. Fits z c in record {
        given = i.0;
        ran = ran ∙ ap (λ (z : S). accepted i.0 z) g.1;
        filled = g.0;
        fits = subst Q (ap (fill t) same ∙ g.0) (moment.closings_fit (fill t b) c (subst P (moment.closed t b) fits));
      }

  back : (c : ℕ) (s m : S) (t u : Tree) (bytes : List ℕ) → Spelled t bytes → statements.Accepts asked c s t u m → walk asked c s t ≡ accepted u m
  back c s m t u bytes p h =
      let ran : run asked s (asked_in (moments t h.given)) ≡ accepted h.given m = ap (run asked s) (asked_are c t h.given) ∙ h.ran in
      let P : List ℕ → Type 0 = λ z. All (λ n. n ≤ c) z in
      let Q : Tree → Type 0 = λ z. Fits z c in
      let fits = subst P (sym (moment.closed t h.given)) (moment.fit_closings (fill t h.given) c (subst Q (sym h.filled) h.fits)) in
      let passes = moment.pass asked c s (moments t h.given) h.given m ran fits (moment.known t bytes h.given p) in
      walk_is_passed c s t ∙ rw (answers_all asked c s (visits t) h.given m h.ran, passes) (ap (λ (z : Tree). accepted z m) h.filled)

  pub walk_is_run : statements.WalkIsRun asked
  walk_is_run = record { forth = forth; back = back }

  only_passed : (r : Step S (Error E) (List ℕ)) (f : List ℕ → Tree) {e : Error E} {m : S} → and_then r (λ a k. accepted (f a) k) ≡ refused e m → r ≡ refused e m
  only_passed (accepted a k) f h = absurd cc
  only_passed (refused d k) f {e} {m} h = let x : d ≡ e = cc in let y : k ≡ m = cc in rw (x, y) refl

  pub walk_stops : statements.WalkStops asked
  walk_stops c s m t e =
      let ms = moments t (answers asked s (visits t)) in (
        λ h. moment.refused_stops asked c s ms e m (only_passed (passed asked c s ms) (fill t) (sym (walk_is_passed c s t) ∙ h)),
        λ p. walk_is_passed c s t ∙ ap (λ r. and_then r (λ a k. accepted (fill t a) k)) (moment.stops_refused asked c s ms e m p),
      )

  run-append : (s k : S) (xs ys : List Visit) (a : List ℕ) → run asked s xs ≡ accepted a k → state_after (run asked s (xs ++ ys)) ≡ state_after (run asked k ys)
  run-append s k [] ys a h = let g = given h in rw g.1 refl
  run-append s k (v ∷ xs) ys a h =
      let i = inv (asked s v) (λ n m. and_then (run asked m xs) (λ ns j. accepted (n ∷ ns) j)) h in
      let j = inv (run asked i.1 xs) (λ ns j. accepted (i.0 ∷ ns) j) i.3 in
      let g = given j.3 in
      rw i.2 (kept (run asked i.1 (xs ++ ys)) i.0 ∙ run-append i.1 k xs ys j.0 (j.2 ∙ ap (λ (z : S). accepted j.0 z) g.1))
    where
      kept : (r : Step S (Error E) (List ℕ)) (n : ℕ) → state_after (and_then r (λ ns j. accepted (n ∷ ns) j)) ≡ state_after r
      kept (accepted ns j) n = refl
      kept (refused e j) n = refl

  -- what was visited of the first of two lists, and of the second where the first was accepted
  pub visited_first : {s m : S} {xs : List Visit} (ys : List Visit) → Visited asked s xs m → Visited asked s (xs ++ ys) m
  visited_first ys v = record { front = v.front; rest = v.rest ++ ys; parts = ap (λ (z : List Visit). z ++ ys) v.parts ∙ append_assoc v.front v.rest ys; state = v.state }

  pub visited_then : {s k m : S} {a : List ℕ} (xs : List Visit) {ys : List Visit} → run asked s xs ≡ accepted a k → Visited asked k ys m → Visited asked s (xs ++ ys) m
  visited_then {s = s} {k = k} {a = a} xs h v = record {
    front = xs ++ v.front;
    rest = v.rest;
    parts = ap (λ (z : List Visit). xs ++ z) v.parts ∙ sym (append_assoc xs v.front v.rest);
    state = run-append s k xs v.front a h ∙ v.state;
  }

  pub visited_all : {s k : S} {a : List ℕ} (xs : List Visit) → run asked s xs ≡ accepted a k → Visited asked s xs k
  visited_all xs h = record { front = xs; rest = []; parts = sym (append-nil xs); state = rw h refl }

  stopped_visits : (s k m : S) (e : Error E) (c : ℕ) (x : Moment) (front rest : List Moment) (a : List ℕ) → run asked s (asked_in front) ≡ accepted a k → Ends asked c k x e m →
      Visited asked s (asked_in front ++ asked_in (x ∷ rest)) m
  stopped_visits s k m e c (asks v) front rest a h d = visited_then (asked_in front) h (record { front = v ∷ []; rest = asked_in rest; parts = refl; state = rw d refl })
  stopped_visits s k m e c (closes n) front rest a h d = visited_first (asked_in rest) (rw d.2 (visited_all (asked_in front) h))
  stopped_visits s k m e c lost front rest a h d = visited_first (asked_in rest) (rw d.1 (visited_all (asked_in front) h))

  pub walk_visits : statements.WalkVisits asked
  walk_visits c s t = go (walk asked c s t) refl
    where
      go : (r : Step S (Error E) Tree) → walk asked c s t ≡ r → Visited asked s (visits t) (state_after r)
      go (accepted u m) h = visited_all (visits t) (forth c s m t u h).ran
      go (refused e m) h =
          let b = answers asked s (visits t) in
          let p = (walk_stops c s m t e).0 h in
          let all : asked_in p.front ++ asked_in (p.moment ∷ p.rest) ≡ visits t =
          sym (asked_in-append p.front (p.moment ∷ p.rest)) ∙ ap asked_in (sym p.parts) ∙ asked_are c t b in
          let P : List Visit → Type 0 = λ z. Visited asked s z m in
          subst P all (stopped_visits s p.state m e c p.moment p.front p.rest p.so_far p.ran p.ends)

  run-refused : (s k m : S) (xs ys : List Visit) (v : Visit) (a : List ℕ) (e : Error E) → run asked s xs ≡ accepted a k → asked k v ≡ refused e m → run asked s (xs ++ v ∷ ys) ≡ refused e m
  run-refused s k m [] ys v a e h d = let g = given h in let there : asked s v ≡ refused e m = ap (λ (z : S). asked z v) g.1 ∙ d in rw there refl
  run-refused s k m (w ∷ xs) ys v a e h d =
      let i = inv (asked s w) (λ n m. and_then (run asked m xs) (λ ns j. accepted (n ∷ ns) j)) h in
      let j = inv (run asked i.1 xs) (λ ns j. accepted (i.0 ∷ ns) j) i.3 in
      let g = given j.3 in
      rw (i.2, run-refused i.1 k m xs ys v j.0 e (j.2 ∙ ap (λ (z : S). accepted j.0 z) g.1) d) refl

  -- a walk that a visit ends is refused as the run is
  visit_refused : (c : ℕ) (s k m : S) (t : Tree) (b a : List ℕ) (front rest : List Moment) (v : Visit) (e : Error E) → moments t b ≡ front ++ asks v ∷ rest →
      run asked s (asked_in front) ≡ accepted a k → asked k v ≡ refused e m → run asked s (visits t) ≡ refused e m
  visit_refused c s k m t b a front rest v e parts h d =
      let all : visits t ≡ asked_in front ++ v ∷ asked_in rest = sym (asked_are c t b) ∙ ap asked_in parts ∙ asked_in-append front (asks v ∷ rest) in
      ap (run asked s) all ∙ run-refused s k m (asked_in front) (asked_in rest) v a e h d

  refusal_of : (c : ℕ) (s k m : S) (t : Tree) (b a : List ℕ) (front rest : List Moment) (x : Moment) (y : E) → moments t b ≡ front ++ x ∷ rest →
      run asked s (asked_in front) ≡ accepted a k → Ends asked c k x (UserError y) m → run asked s (visits t) ≡ refused (UserError y) m
  refusal_of c s k m t b a front rest (asks v) y parts h d = visit_refused c s k m t b a front rest v (UserError y) parts h d
  refusal_of c s k m t b a front rest (closes n) y parts h d = let never : ◌≡◌ {A = Error E} (UserError y) (TooLarge n) = d.1 in absurd cc
  refusal_of c s k m t b a front rest lost y parts h d = let never : ◌≡◌ {A = Error E} (UserError y) CanonicalizedHeapTypeReference = d.0 in absurd cc

  never_lost : (front rest : List Moment) → NoneLost (front ++ lost ∷ rest) → ⊥
  never_lost [] rest h = h
  never_lost (asks v ∷ front) rest h = never_lost front rest h
  never_lost (closes n ∷ front) rest h = never_lost front rest h
  never_lost (lost ∷ front) rest h = h

  -- where the run is refused, and the walk was ended by this moment
  refused_by : (c : ℕ) (s k m j : S) (t : Tree) (b a : List ℕ) (front rest : List Moment) (x : Moment) (d e : Error E) → moments t b ≡ front ++ x ∷ rest →
      run asked s (asked_in front) ≡ accepted a k → Ends asked c k x d j → NoneLost (moments t b) → run asked s (visits t) ≡ refused e m → walk asked c s t ≡ refused d j →
      (walk asked c s t ≡ refused e m) ⊎ statements.FrameRefused asked c s t
  refused_by c s k m j t b a front rest (asks v) d e parts h ends whole r w =
      let same : ◌≡◌ {A = Step S (Error E) (List ℕ)} (refused d j) (refused e m) = sym (visit_refused c s k j t b a front rest v d parts h ends) ∙ r in
      let x : d ≡ e = cc in let y : j ≡ m = cc in inl (w ∙ rw (x, y) refl)
  refused_by c s k m j t b a front rest (closes n) d e parts h ends whole r w =
      inr (record { size = n; state = j; above = ends.0; is = w ∙ ap (λ (z : Error E). refused z j) ends.1 })
  refused_by c s k m j t b a front rest lost d e parts h ends whole r w =
      let P : List Moment → Type 0 = NoneLost in absurd (never_lost front rest (subst P parts whole))

  refuses : (c : ℕ) (s m : S) (t : Tree) (e : Error E) (bytes : List ℕ) → Spelled t bytes → run asked s (visits t) ≡ refused e m → (r : Step S (Error E) Tree) → walk asked c s t ≡ r →
      (walk asked c s t ≡ refused e m) ⊎ statements.FrameRefused asked c s t
  refuses c s m t e bytes p h (accepted u k) w =
      let ran = (forth c s k t u w).ran in
      let never : ◌≡◌ {A = Step S (Error E) (List ℕ)} (accepted (forth c s k t u w).given k) (refused e m) = sym ran ∙ h in absurd cc
  refuses c s m t e bytes p h (refused d j) w =
      let b = answers asked s (visits t) in
      let q = (walk_stops c s j t d).0 w in
      refused_by c s q.state m j t b q.so_far q.front q.rest q.moment d e q.parts q.ran q.ends (moment.known t bytes b p) h w

  pub walk_refuses : statements.WalkRefuses asked
  walk_refuses = record {
    forth = λ c s m t x h. let q = (walk_stops c s m t (UserError x)).0 h in
        refusal_of c s q.state m t (answers asked s (visits t)) q.so_far q.front q.rest q.moment x q.parts q.ran q.ends;
    back = λ c s m t e bytes p h. refuses c s m t e bytes p h (walk asked c s t) refl;
  }

pub moments_asked : (t : Tree) (b : List ℕ) → asked_in (moments t b) ≡ visits t
moments_asked t b = asked_are {S = ℕ} {E = ℕ} (λ s v. accepted 0 s) 0 t b
