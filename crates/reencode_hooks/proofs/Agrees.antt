-- A walk is what happens on it, one moment after another, with the answers filled in.
use Rattle.std.proofs.Common.{◌≡◌, ℕ, suc, ◌+◌, ◌≤◌, List, [], ◌∷◌, ◌++◌, length, length-append, drop, get_or, Option, Some, None, Bool, true, false, nat_le, if◌then◌else◌, refl, sym, ap, ◌∙◌, append_assoc, append-nil, arith}
use Rattle.std.specs.Prelude.{map}
use Rattle.std.specs.Prelude.{take}
use Rattle.std.proofs.Math.Seq.{drop-append_seam}
use Rattle.std.proofs.lemmas.List.{drop-append-le, take-append-drop, length-drop, length-take-le}
use Rattle.wasm_shapes.specs.declared.SectionId.{SectionId}
use Rattle.wasm_shapes.specs.declared.Space.TheVariants as space
use Rattle.wasm_shapes.specs.declared.Visit.{Visit}
use Rattle.wasm_shapes.specs.declared.Visit.TheVariants.{Index, Outer, Section, Closed, Push, Pop}
use Rattle.wasm_shapes.specs.Tree.{Tree, normal, before, behind, kind, visits_from, fill, aimed_at}
use Rattle.reencode_hooks.specs.declared.error.Error.{Error}
use Rattle.reencode_hooks.specs.declared.error.Error.TheVariants.{TooLarge, CanonicalizedHeapTypeReference}
use Rattle.reencode_hooks.specs.Run.{Step, accepted, refused, and_then, run, answers, then_answers}
use Rattle.reencode_hooks.specs.Walk.{walk_from, closed, announced, followed}
use Rattle.reencode_hooks.specs.Moments.{Moment, asks, closes, lost, moments_from, asked_in, passed}

-- ---- steps

pub inv : {S E A B : Type 0} (r : Step S E A) (next : A → S → Step S E B) {u : B} {m : S} → and_then r next ≡ accepted u m →
    (a : A) × (n : S) × (r ≡ accepted a n) × (next a n ≡ accepted u m)
inv (accepted a n) next h = (a, n, refl, h)
inv (refused e n) next h = absurd cc

pub given : {S E A : Type 0} {a b : A} {m n : S} → ◌≡◌ {A = Step S E A} (accepted a m) (accepted b n) → (a ≡ b) × (m ≡ n)
given h = (cc, cc)

pub and_then-and_then : {S E A B C : Type 0} (r : Step S E A) (f : A → S → Step S E B) (g : B → S → Step S E C) →
    and_then (and_then r f) g ≡ and_then r (λ a s. and_then (f a s) g)
and_then-and_then (accepted a s) f g = refl
and_then-and_then (refused e s) f g = refl

-- ---- moments side by side

pub asked_in-append : (xs ys : List Moment) → asked_in (xs ++ ys) ≡ asked_in xs ++ asked_in ys
asked_in-append [] ys = refl
asked_in-append (asks v ∷ xs) ys = ap (λ (z : List Visit). v ∷ z) (asked_in-append xs ys)
asked_in-append (closes n ∷ xs) ys = asked_in-append xs ys
asked_in-append (lost ∷ xs) ys = asked_in-append xs ys

asked_in-map : (vs : List Visit) → asked_in (map asks vs) ≡ vs
asked_in-map [] = refl
asked_in-map (v ∷ vs) = ap (λ (z : List Visit). v ∷ z) (asked_in-map vs)

module _ {S E : Type 0} (asked : S → Visit → Step S (Error E) ℕ) (c : ℕ) where
  -- two steps side by side, as one
  joined : Step S (Error E) (List ℕ) → (S → Step S (Error E) (List ℕ)) → Step S (Error E) (List ℕ)
  joined r next = and_then r (λ a m. and_then (next m) (λ b n. accepted (a ++ b) n))

  passed-first : (r : Step S (Error E) ℕ) (f : S → Step S (Error E) (List ℕ)) (g : S → Step S (Error E) (List ℕ)) (whole : S → Step S (Error E) (List ℕ)) →
      ((m : S) → whole m ≡ and_then (f m) (λ a m. and_then (g m) (λ b n. accepted (a ++ b) n))) →
      and_then r (λ n m. and_then (whole m) (λ ns k. accepted (n ∷ ns) k))
      ≡ and_then (and_then r (λ n m. and_then (f m) (λ ns k. accepted (n ∷ ns) k))) (λ a m. and_then (g m) (λ b n. accepted (a ++ b) n))
  passed-first (refused e m) f g whole h = refl
  passed-first (accepted n m) f g whole h = rw (h m) (go (f m))
    where
      go : (r : Step S (Error E) (List ℕ)) → and_then (and_then r (λ a m. and_then (g m) (λ b n. accepted (a ++ b) n))) (λ ns k. accepted (n ∷ ns) k)
          ≡ and_then (and_then r (λ ns k. accepted (n ∷ ns) k)) (λ a m. and_then (g m) (λ b n. accepted (a ++ b) n))
      go (refused e m) = refl
      go (accepted a m) = and_then-and_then (g m) (λ b n. accepted (a ++ b) n) (λ ns k. accepted (n ∷ ns) k)

  and_then-accepted : (r : Step S (Error E) (List ℕ)) → r ≡ and_then r (λ a m. accepted a m)
  and_then-accepted (accepted a m) = refl
  and_then-accepted (refused e m) = refl

  passed-closes : (b : Bool) (n : ℕ) (s : S) (r : Step S (Error E) (List ℕ)) (g : S → Step S (Error E) (List ℕ)) (whole : Step S (Error E) (List ℕ)) →
      whole ≡ and_then r (λ a m. and_then (g m) (λ b n. accepted (a ++ b) n)) →
      (if b then whole else refused (TooLarge n) s) ≡ and_then (if b then r else refused (TooLarge n) s) (λ a m. and_then (g m) (λ b n. accepted (a ++ b) n))
  passed-closes true n s r g whole h = h
  passed-closes false n s r g whole h = refl

  pub passed-append : (s : S) (xs ys : List Moment) → passed asked c s (xs ++ ys) ≡ and_then (passed asked c s xs) (λ a m. and_then (passed asked c m ys) (λ b n. accepted (a ++ b) n))
  passed-append s [] ys = and_then-accepted (passed asked c s ys)
  passed-append s (asks v ∷ xs) ys =
      passed-first (asked s v) (λ m. passed asked c m xs) (λ m. passed asked c m ys) (λ m. passed asked c m (xs ++ ys)) (λ m. passed-append m xs ys)
  passed-append s (closes n ∷ xs) ys =
      passed-closes (nat_le n c) n s (passed asked c s xs) (λ m. passed asked c m ys) (passed asked c s (xs ++ ys)) (passed-append s xs ys)
  passed-append s (lost ∷ xs) ys = refl

  -- ---- runs

  pub run_length : (s : S) (vs : List Visit) {a : List ℕ} {m : S} → run asked s vs ≡ accepted a m → length a ≡ length vs
  run_length s [] {a} h = let g : [] ≡ a = (given h).0 in ap length (sym g)
  run_length s (v ∷ vs) {a} h =
      let i = inv (asked s v) (λ n m. and_then (run asked m vs) (λ ns k. accepted (n ∷ ns) k)) h in
      let j = inv (run asked i.1 vs) (λ ns k. accepted (i.0 ∷ ns) k) i.3 in
      let g : i.0 ∷ j.0 ≡ a = (given j.3).0 in
      ap length (sym g) ∙ ap suc (run_length i.1 vs j.2)

  pub answers-accepted : (s : S) (xs ys : List Visit) (a : List ℕ) (m : S) → run asked s xs ≡ accepted a m → answers asked s (xs ++ ys) ≡ a ++ answers asked m ys
  answers-accepted s [] ys a m h = let g = given h in rw (← g.0, g.1) refl
  answers-accepted s (v ∷ xs) ys a m h =
      let i = inv (asked s v) (λ n m. and_then (run asked m xs) (λ ns k. accepted (n ∷ ns) k)) h in
      let j = inv (run asked i.1 xs) (λ ns k. accepted (i.0 ∷ ns) k) i.3 in
      let g = given j.3 in
      let rest : answers asked i.1 (xs ++ ys) ≡ j.0 ++ answers asked m ys = answers-accepted i.1 xs ys j.0 m (j.2 ∙ ap (λ (z : S). accepted j.0 z) g.1) in
      rw (i.2, rest) (ap (λ (z : List ℕ). z ++ answers asked m ys) g.0)

  pub answers_all : (s : S) (xs : List Visit) (a : List ℕ) (m : S) → run asked s xs ≡ accepted a m → answers asked s xs ≡ a
  answers_all s xs a m h = ap (answers asked s) (sym (append-nil xs)) ∙ answers-accepted s xs [] a m h ∙ append-nil a

  answers_first : (r : Step S (Error E) ℕ) (xs : S → List ℕ) (whole : S → List ℕ) (more : S → Step S (Error E) (List ℕ)) {e : Error E} {k : S} →
      and_then r (λ n m. and_then (more m) (λ ns k. accepted (n ∷ ns) k)) ≡ refused e k → ((m : S) (d : Error E) (j : S) → more m ≡ refused d j → whole m ≡ xs m) →
      then_answers r whole ≡ then_answers r xs
  answers_first (refused d m) xs whole more h same = refl
  answers_first (accepted n m) xs whole more {e} {k} h same = ap (λ (z : List ℕ). n ∷ z) (go (more m) refl h)
    where
      go : (r : Step S (Error E) (List ℕ)) → more m ≡ r → and_then r (λ ns k. accepted (n ∷ ns) k) ≡ refused e k → whole m ≡ xs m
      go (accepted ns j) p h = absurd cc
      go (refused d j) p h = same m d j p

  pub answers-refused : (s : S) (xs ys : List Visit) (e : Error E) (m : S) → run asked s xs ≡ refused e m → answers asked s (xs ++ ys) ≡ answers asked s xs
  answers-refused s [] ys e m h = absurd cc
  answers-refused s (v ∷ xs) ys e m h =
      answers_first (asked s v) (λ m. answers asked m xs) (λ m. answers asked m (xs ++ ys)) (λ m. run asked m xs) h (λ m d j p. answers-refused m xs ys d j p)

  unclosed : (b : Bool) (n : ℕ) (s : S) (r : Step S (Error E) (List ℕ)) {a : List ℕ} {m : S} → (if b then r else refused (TooLarge n) s) ≡ accepted a m → (b ≡ true) × (r ≡ accepted a m)
  unclosed true n s r h = (refl, h)
  unclosed false n s r h = absurd cc

  -- what was passed is a run over the visits
  pub passed-run : (s : S) (ms : List Moment) (a : List ℕ) (m : S) → passed asked c s ms ≡ accepted a m → run asked s (asked_in ms) ≡ accepted a m
  passed-run s [] a m h = h
  passed-run s (asks v ∷ ms) a m h =
      let i = inv (asked s v) (λ n m. and_then (passed asked c m ms) (λ ns k. accepted (n ∷ ns) k)) h in
      let j = inv (passed asked c i.1 ms) (λ ns k. accepted (i.0 ∷ ns) k) i.3 in
      rw (i.2, passed-run i.1 ms j.0 j.1 j.2) j.3
  passed-run s (closes n ∷ ms) a m h = passed-run s ms a m (unclosed (nat_le n c) n s (passed asked c s ms) h).1
  passed-run s (lost ∷ ms) a m h = absurd cc

  -- ---- walks that agree with their moments

  -- the step W asks these visits, and gives what F makes of their answers
  pub record Agrees {X : Type 0} (V : List Visit) (W : S → Step S (Error E) X) (M : List ℕ → List Moment) (F : List ℕ → X) : Type 0 where
    pub same : (s : S) (more : List ℕ) → W s ≡ and_then (passed asked c s (M (answers asked s V ++ more))) (λ a m. accepted (F a) m)
    pub visits_are : (b : List ℕ) → asked_in (M b) ≡ V
    pub steady : (a more : List ℕ) → length a ≡ length V → F (a ++ more) ≡ F a

  -- where the moments were passed, so was the run, to the same answers
  same_run : {V : List Visit} (ms : List Moment) {a b : List ℕ} {k m : S} (s : S) → asked_in ms ≡ V → run asked s V ≡ accepted a k → passed asked c s ms ≡ accepted b m → (b ≡ a) × (m ≡ k)
  same_run ms {a} {b} {k} {m} s v h p =
      let q : run asked s (asked_in ms) ≡ accepted b m = passed-run s ms b m p in given (sym q ∙ ap (run asked s) v ∙ h)

  never_passed : {V : List Visit} (ms : List Moment) {b : List ℕ} {k m : S} {e : Error E} (s : S) → asked_in ms ≡ V → run asked s V ≡ refused e k → passed asked c s ms ≡ accepted b m → ⊥
  never_passed ms {b} {k} {m} {e} s v h p =
      let q : ◌≡◌ {A = Step S (Error E) (List ℕ)} (accepted b m) (refused e k) = sym (passed-run s ms b m p) ∙ ap (run asked s) v ∙ h in cc

  both_refused : {X Y : Type 0} (r : Step S (Error E) (List ℕ)) (f : List ℕ → X) (w : X → S → Step S (Error E) Y) (g : List ℕ → S → Step S (Error E) Y) →
      ((b : List ℕ) (m : S) → r ≡ accepted b m → w (f b) m ≡ g b m) → and_then (and_then r (λ a m. accepted (f a) m)) w ≡ and_then r g
  both_refused (accepted b m) f w g h = h b m refl
  both_refused (refused e m) f w g h = refl

  alike : {X : Type 0} (r : Step S (Error E) (List ℕ)) (f g : List ℕ → S → Step S (Error E) X) → ((b : List ℕ) (m : S) → f b m ≡ g b m) → and_then r f ≡ and_then r g
  alike (accepted b m) f g h = h b m
  alike (refused e m) f g h = refl

  -- a list that is as long as two parts, in two parts
  steady_both : {X Y : Type 0} (V1 V2 : List Visit) (F1 : List ℕ → X) (F2 : X → List ℕ → Y) →
      ((a more : List ℕ) → length a ≡ length V1 → F1 (a ++ more) ≡ F1 a) → ((x : X) (a more : List ℕ) → length a ≡ length V2 → F2 x (a ++ more) ≡ F2 x a) →
      (a more : List ℕ) → length a ≡ length (V1 ++ V2) → F2 (F1 (a ++ more)) (drop (length V1) (a ++ more)) ≡ F2 (F1 a) (drop (length V1) a)
  steady_both V1 V2 F1 F2 p q a more h =
      let n = length V1 in
      let long : length a ≡ length V1 + length V2 = h ∙ length-append V1 V2 in
      let fits : length V1 ≤ length a = omega arith in
      let front : length (take (length V1) a) ≡ length V1 = length-take-le (length V1) a fits in
      let back : length (drop (length V1) a) ≡ length V2 = rw (length-drop (length V1) a) (omega arith) in
      let whole = take-append-drop (length V1) a in
      let first : F1 (a ++ more) ≡ F1 a =
      ap (λ (z : List ℕ). F1 (z ++ more)) (sym whole)
      ∙ ap F1 (append_assoc (take n a) (drop n a) more)
      ∙ p (take n a) (drop n a ++ more) front
      ∙ sym (p (take n a) (drop n a) front)
      ∙ ap F1 whole in
      rw (first, drop-append-le (length V1) a more fits) (q (F1 a) (drop (length V1) a) more back)

  agrees_bind : {X Y : Type 0} {V1 V2 : List Visit} {W1 : S → Step S (Error E) X} {M1 : List ℕ → List Moment} {F1 : List ℕ → X}
      {W2 : X → S → Step S (Error E) Y} {M2 : List ℕ → List Moment} {F2 : X → List ℕ → Y} →
      Agrees V1 W1 M1 F1 → ((x : X) → Agrees V2 (W2 x) M2 (F2 x)) →
      Agrees (V1 ++ V2) (λ s. and_then (W1 s) W2) (λ b. M1 b ++ M2 (drop (length V1) b)) (λ b. F2 (F1 b) (drop (length V1) b))
  agrees_bind {X = X} {Y = Y} {V1 = V1} {V2 = V2} {W1 = W1} {M1 = M1} {F1 = F1} {W2 = W2} {M2 = M2} {F2 = F2} p q = record {
    same = λ s more. go s more (run asked s V1) refl;
    visits_are = λ b. asked_in-append (M1 b) (M2 (drop (length V1) b)) ∙ rw (p.visits_are b, (q (F1 b)).visits_are (drop (length V1) b)) refl;
    steady = λ a more h. steady_both V1 V2 F1 F2 p.steady (λ x. (q x).steady) a more h;
  }
    where
      fin : List ℕ → S → Step S (Error E) Y
      fin a m = accepted (F2 (F1 a) (drop (length V1) a)) m

      after_first : (s k : S) (more a : List ℕ) → run asked s V1 ≡ accepted a k → length a ≡ length V1 → (b : List ℕ) (m : S) → (b ≡ a) × (m ≡ k) →
          W2 (F1 b) m ≡ and_then (and_then (passed asked c m (M2 (answers asked k V2 ++ more))) (λ b' n. accepted (b ++ b') n)) fin
      after_first s k more a h counted b m e =
          rw (e.0, e.1, (q (F1 a)).same k more)
          (alike (passed asked c k (M2 (answers asked k V2 ++ more))) _ _ (λ b' n. rw (p.steady a b' counted, ← counted, drop-append_seam a b') refl)
          ∙ sym (and_then-and_then (passed asked c k (M2 (answers asked k V2 ++ more))) (λ b' n. accepted (a ++ b') n) fin))

      go : (s : S) (more : List ℕ) (r : Step S (Error E) (List ℕ)) → run asked s V1 ≡ r →
          and_then (W1 s) W2 ≡ and_then (passed asked c s (M1 (answers asked s (V1 ++ V2) ++ more) ++ M2 (drop (length V1) (answers asked s (V1 ++ V2) ++ more)))) fin
      go s more (accepted a k) h =
          let rest = answers asked k V2 ++ more in
          let all : answers asked s (V1 ++ V2) ++ more ≡ a ++ rest = ap (λ (z : List ℕ). z ++ more) (answers-accepted s V1 V2 a k h) ∙ append_assoc a (answers asked k V2) more in
          let counted : length a ≡ length V1 = run_length s V1 h in
          let own : drop (length V1) (a ++ rest) ≡ rest = rw (← counted) (drop-append_seam a rest) in
          let first : W1 s ≡ and_then (passed asked c s (M1 (a ++ rest))) (λ a m. accepted (F1 a) m) =
          p.same s rest ∙ rw (answers_all s V1 a k h) refl in
          let P = passed asked c s (M1 (a ++ rest)) in
          rw (all, own, first, passed-append s (M1 (a ++ rest)) (M2 rest))
          (both_refused P F1 W2 _ (λ b m hp. after_first s k more a h counted b m (same_run (M1 (a ++ rest)) s (p.visits_are (a ++ rest)) h hp))
          ∙ sym (and_then-and_then P (λ a m. and_then (passed asked c m (M2 rest)) (λ b n. accepted (a ++ b) n)) fin))
      go s more (refused e k) h =
          let B = answers asked s V1 ++ more in
          let P = passed asked c s (M1 B) in
          rw (answers-refused s V1 V2 e k h, p.same s more, passed-append s (M1 B) (M2 (drop (length V1) B)))
          (both_refused P F1 W2 _ (λ b m hp. absurd (never_passed (M1 B) s (p.visits_are B) h hp))
          ∙ sym (and_then-and_then P (λ a m. and_then (passed asked c m (M2 (drop (length V1) B))) (λ b n. accepted (a ++ b) n)) fin))

  agrees_map : {X Y : Type 0} {V : List Visit} {W : S → Step S (Error E) X} {M : List ℕ → List Moment} {F : List ℕ → X} (w : X → Y) →
      Agrees V W M F → Agrees V (λ s. and_then (W s) (λ x m. accepted (w x) m)) M (λ b. w (F b))
  agrees_map {V = V} {M = M} {F = F} w p = record {
    same = λ s more. let B = answers asked s V ++ more in
        rw (p.same s more) (and_then-and_then (passed asked c s (M B)) (λ a m. accepted (F a) m) (λ x m. accepted (w x) m));
    visits_are = p.visits_are;
    steady = λ a more h. ap w (p.steady a more h);
  }

  one_answer : (a more : List ℕ) → length a ≡ 1 → get_or (a ++ more) 0 0 ≡ get_or a 0 0
  one_answer [] more h = absurd (omega arith)
  one_answer (x ∷ a) more h = refl

  agrees_ask : (v : Visit) → Agrees (v ∷ []) (λ s. asked s v) (λ b. asks v ∷ []) (λ b. get_or b 0 0)
  agrees_ask v = record {
    same = λ s more. one (asked s v);
    visits_are = λ b. refl;
    steady = one_answer;
  }
    where
      one : (r : Step S (Error E) ℕ) → r ≡ and_then (and_then r (λ n m. and_then (accepted [] m) (λ ns k. accepted (n ∷ ns) k))) (λ a m. accepted (get_or a 0 0) m)
      one (accepted n m) = refl
      one (refused e m) = refl

  agrees_done : {X : Type 0} (x : X) → Agrees [] (λ s. accepted x s) (λ b. []) (λ b. x)
  agrees_done x = record { same = λ s more. refl; visits_are = λ b. refl; steady = λ a more h. refl }

  agrees_lost : {X : Type 0} (x : X) → Agrees [] (λ s. refused CanonicalizedHeapTypeReference s) (λ b. lost ∷ []) (λ b. x)
  agrees_lost x = record { same = λ s more. refl; visits_are = λ b. refl; steady = λ a more h. refl }

  agrees_close : {V : List Visit} {W : S → Step S (Error E) Tree} {M : List ℕ → List Moment} {F : List ℕ → Tree} → Agrees V W M F →
      Agrees V (λ s. and_then (W s) (λ u m. closed c u m)) (λ b. M b ++ (closes (length (normal (F b))) ∷ [])) (λ b. Tree.sized (F b))
  agrees_close {V = V} {W = W} {M = M} {F = F} p = record {
    same = λ s more. go s more (run asked s V) refl;
    visits_are = λ b. asked_in-append (M b) (closes (length (normal (F b))) ∷ []) ∙ append-nil (asked_in (M b)) ∙ p.visits_are b;
    steady = λ a more h. ap Tree.sized (p.steady a more h);
  }
    where
      last : (n : ℕ) (a : List ℕ) (m : S) → Step S (Error E) (List ℕ)
      last n a m = and_then (if nat_le n c then accepted [] m else refused (TooLarge n) m) (λ b k. accepted (a ++ b) k)

      fin : List ℕ → S → Step S (Error E) Tree
      fin a m = accepted (Tree.sized (F a)) m

      tested : (b : Bool) (n : ℕ) (a : List ℕ) (m : S) →
          ◌≡◌ {A = Step S (Error E) Tree} (if b then accepted (Tree.sized (F a)) m else refused (TooLarge n) m)
          (and_then (and_then {A = List ℕ} (if b then accepted [] m else refused (TooLarge n) m) (λ b k. accepted (a ++ b) k)) fin)
      tested true n a m = rw (append-nil a) refl
      tested false n a m = refl

      go : (s : S) (more : List ℕ) (r : Step S (Error E) (List ℕ)) → run asked s V ≡ r →
          and_then (W s) (λ u m. closed c u m)
          ≡ and_then (passed asked c s (M (answers asked s V ++ more) ++ (closes (length (normal (F (answers asked s V ++ more)))) ∷ []))) fin
      go s more (accepted a k) h =
          let B = answers asked s V ++ more in
          let P = passed asked c s (M B) in
          let counted : length a ≡ length V = run_length s V h in
          let filled : F B ≡ F a = ap (λ (z : List ℕ). F (z ++ more)) (answers_all s V a k h) ∙ p.steady a more counted in
          rw (p.same s more, passed-append s (M B) (closes (length (normal (F B))) ∷ []))
          (both_refused P F (λ u m. closed c u m) _ (λ b m hp.
          let e = same_run (M B) s (p.visits_are B) h hp in
          rw (filled, e.0) (tested (nat_le (length (normal (F a))) c) (length (normal (F a))) a m))
          ∙ sym (and_then-and_then P (λ a m. last (length (normal (F B))) a m) fin))
      go s more (refused e k) h =
          let B = answers asked s V ++ more in
          let P = passed asked c s (M B) in
          rw (p.same s more, passed-append s (M B) (closes (length (normal (F B))) ∷ []))
          (both_refused P F (λ u m. closed c u m) _ (λ b m hp. absurd (never_passed (M B) s (p.visits_are B) h hp))
          ∙ sym (and_then-and_then P (λ a m. last (length (normal (F B))) a m) fin))

  -- what is filled in may be said otherwise
  agrees_as : {X : Type 0} {V : List Visit} {W : S → Step S (Error E) X} {M : List ℕ → List Moment} {F : List ℕ → X} (G : List ℕ → X) →
      ((b : List ℕ) → F b ≡ G b) → Agrees V W M F → Agrees V W M G
  agrees_as {V = V} {M = M} {F = F} G same p = record {
    same = λ s more. p.same s more ∙ alike (passed asked c s (M (answers asked s V ++ more))) _ _ (λ b m. rw (same b) refl);
    visits_are = p.visits_are;
    steady = λ a more h. sym (same (a ++ more)) ∙ p.steady a more h ∙ same a;
  }

  -- ---- the walk

  -- the answer of the section hook, or of the closing hook, where it was called
  hook_answer : Tree → List ℕ → ℕ
  hook_answer (Tree.row k t) b = hook_answer t b
  hook_answer (Tree.told k t) b = get_or b 0 0
  hook_answer _ b = 0

  agrees_announced : (last : Option SectionId) (t : Tree) → Agrees (before last t) (λ s. announced asked s last t) (λ b. map asks (before last t)) (λ b. hook_answer t b)
  unfolding hook_answer
  agrees_announced last (Tree.row k t) = agrees_announced last t
  agrees_announced last (Tree.told k t) = agrees_ask (Section last (Some k))
  agrees_announced last _ = agrees_done 0

  agrees_followed : (t : Tree) → Agrees (behind t) (λ s. followed asked s t) (λ b. map asks (behind t)) (λ b. hook_answer t b)
  unfolding hook_answer
  agrees_followed (Tree.row k t) = agrees_followed t
  agrees_followed (Tree.told k t) = agrees_ask (Closed k)
  agrees_followed _ = agrees_done 0

  before_count : (last : Option SectionId) (t : Tree) → length (before last t) ≡ length (before None t)
  before_count last (Tree.row k t) = before_count last t
  before_count last (Tree.told k t) = refl
  before_count last _ = refl

  pub agrees : (last : Option SectionId) (t : Tree) → Agrees (visits_from last t) (λ s. walk_from asked c last s t) (λ b. moments_from last t b) (λ b. fill t b)
  agrees last (Tree.ix p i) = agrees_map (λ n. Tree.ix p n) (agrees_ask (Index p i))
  agrees last (Tree.sx p i) = agrees_map (λ n. Tree.sx p n) (agrees_ask (Index p i))
  agrees last (Tree.outer p k i) = agrees_map (λ n. Tree.outer p k n) (agrees_ask (Outer p k i))
  agrees last (Tree.mem a i o) = agrees_map (λ n. Tree.mem a n o) (agrees_ask (Index space.Memory i))
  agrees last (Tree.canonical i) = agrees_lost (Tree.canonical i)
  agrees last (Tree.pair t u) = agrees_bind (agrees None t) (λ t'. agrees_map (λ u'. Tree.pair t' u') (agrees None u))
  agrees last (Tree.swap t u) = agrees_bind (agrees None u) (λ u'. agrees_map (λ t'. Tree.swap t' u') (agrees None t))
  agrees last (Tree.cons t u) = agrees_bind (agrees None t) (λ t'. agrees_map (λ u'. Tree.cons t' u') (agrees None u))
  agrees last (Tree.vec t) = agrees_map Tree.vec (agrees None t)
  agrees last (Tree.present t) = agrees_map Tree.present (agrees None t)
  agrees last (Tree.sized t) = agrees_close (agrees None t)
  agrees last (Tree.row k t) = agrees_map (λ u. Tree.row k u) (agrees None t)
  agrees last (Tree.scope t) = agrees_bind (agrees_ask Push) (λ _. agrees_bind (agrees None t) (λ u. agrees_map (λ _. Tree.scope u) (agrees_ask Pop)))
  agrees last (Tree.spare b t) = agrees_map (λ u. Tree.spare b u) (agrees None t)
  agrees last (Tree.kept b t) = agrees_map (λ u. Tree.kept b u) (agrees None t)
  agrees last (Tree.final t u) = agrees_bind (agrees None t) (λ t'. agrees_map (λ u'. Tree.final t' u') (agrees None u))
  agrees last (Tree.until b t) = agrees_map (λ u. Tree.until b u) (agrees None t)
  agrees last (Tree.op k t) = agrees_map (λ u. Tree.op k u) (agrees None t)
  agrees last (Tree.left w o t) = agrees_bind (agrees None t) (λ t'. agrees_bind (agrees_ask (Index space.Table 0)) (λ i. agrees_map (λ o'. aimed_at w i o' t') (agrees None o)))
  agrees last (Tree.aimed w i o t) = agrees_bind (agrees None t) (λ t'. agrees_bind (agrees_ask (Index space.Table i)) (λ j. agrees_map (λ o'. Tree.aimed w j o' t') (agrees None o)))
  agrees last (Tree.placed i o t) = agrees_bind (agrees_ask (Index space.Memory i)) (λ j. agrees_bind (agrees None o) (λ o'. agrees_map (λ t'. Tree.placed j o' t') (agrees None t)))
  agrees last (Tree.told k t) = agrees_map (λ u. Tree.told k u) (agrees None t)
  agrees last Tree.finish = agrees_map (λ _. Tree.finish) (agrees_ask (Section last None))
  agrees last (Tree.also t u) =
      agrees_as (λ b. fill (Tree.also t u) b) (λ b. rw (before_count last t) refl)
      (agrees_bind (agrees_announced last t) (λ _. agrees_bind (agrees None t) (λ t'. agrees_bind (agrees_followed t) (λ _. agrees_map (λ u'. Tree.also t' u') (agrees (kind last t) u)))))
  agrees last t = agrees_done t
