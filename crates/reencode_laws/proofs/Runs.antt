-- Runs of a chain.
use Rattle.std.proofs.Common.{◌≡◌, ℕ, List, [], ◌∷◌, ◌++◌, Result, Ok, Err, None, refl, sym, ap, ap₂, ◌∙◌, subst}
use Rattle.wasm_shapes.specs.declared.Visit.{Visit}
use Rattle.wasm_shapes.specs.Tree.{visits}
use Rattle.reencode_hooks.specs.declared.error.Error.{Error}
use Rattle.reencode_hooks.specs.declared.error.Error.TheVariants.{UserError}
use Rattle.reencode_hooks.specs.declared.chain.Chain.{Chain}
use Rattle.reencode_hooks.specs.declared.chain.ChainError.{ChainError}
use Rattle.reencode_hooks.specs.declared.chain.ChainError.TheVariants.{First, Second}
use Rattle.reencode_hooks.specs.Run.{Step, accepted, refused, and_then, answered, ask, run}
use Rattle.reencode_hooks.specs.Chains.{reindexed, first_then, second_of, unless_err, chain_reply, chain_next}
use Rattle.reencode_hooks.proofs.Agrees.{inv, given}
use Rattle.reencode_laws.specs.Chained.{asked_again, IsRefusedBy, ChainStops}
use Rattle.reencode_laws.specs.Chained as statements
use Rattle.reencode_laws.proofs.Twice.{visits-fill}

-- an answer that was accepted
pub answered_ok : {S X : Type 0} (r : Result ℕ X) (s : S) {n : ℕ} {m : S} → answered r s ≡ accepted n m → (r ≡ Ok n) × (s ≡ m)
answered_ok (Ok k) s h = (cc, cc)
answered_ok (Err e) s h = absurd cc

-- a refusal, and its state
refusal : {S E A : Type 0} {d e : E} {k m : S} → ◌≡◌ {A = Step S E A} (refused d k) (refused e m) → (d ≡ e) × (k ≡ m)
refusal h = (cc, cc)

pub refused_answer : {S X : Type 0} (r : Result ℕ X) (s : S) {x : X} {m : S} → answered r s ≡ refused (UserError x) m → (r ≡ Err x) × (s ≡ m)
refused_answer (Ok n) s h = absurd cc
refused_answer (Err y) s {x} {m} h = let same : y ≡ x = cc in (ap (λ z. Err z) same, (refusal h).1)

-- the first visit of a run that was accepted, and the run over the others
pub record Begun {S E : Type 0} (asked : S → Visit → Step S (Error E) ℕ) (s m : S) (v : Visit) (vs : List Visit) (all : List ℕ) : Type 0 where
  pub answer : ℕ
  pub state : S
  pub rest : List ℕ
  pub parts : all ≡ answer ∷ rest
  pub step : asked s v ≡ accepted answer state
  pub ran : run asked state vs ≡ accepted rest m

module _ {S E : Type 0} (asked : S → Visit → Step S (Error E) ℕ) where
  pub first_of : (s m : S) (v : Visit) (vs : List Visit) (all : List ℕ) → run asked s (v ∷ vs) ≡ accepted all m → Begun asked s m v vs all
  first_of s m v vs all p =
      let i = inv (asked s v) (λ n k. and_then (run asked k vs) (λ ns l. accepted (n ∷ ns) l)) p in
      let j = inv (run asked i.1 vs) (λ ns l. accepted (i.0 ∷ ns) l) i.3 in
      let x = given j.3 in
      record { answer = i.0; state = i.1; rest = j.0; parts = sym x.0; step = i.2; ran = j.2 ∙ ap (λ (z : S). accepted j.0 z) x.1 }

  pub then_run : (s k m : S) (v : Visit) (vs : List Visit) (n : ℕ) (ns : List ℕ) → asked s v ≡ accepted n k → run asked k vs ≡ accepted ns m → run asked s (v ∷ vs) ≡ accepted (n ∷ ns) m
  then_run s k m v vs n ns p q = rw (p, q) refl

  then_all : (s k m : S) (v : Visit) (vs : List Visit) (n : ℕ) (ns all : List ℕ) → all ≡ n ∷ ns → asked s v ≡ accepted n k → run asked k vs ≡ accepted ns m → run asked s (v ∷ vs) ≡ accepted all m
  then_all s k m v vs n ns all e p q = rw (e, p, q) refl

  refused_run : (s m : S) (v : Visit) (vs : List Visit) (e : Error E) → asked s v ≡ refused e m → run asked s (v ∷ vs) ≡ refused e m
  refused_run s m v vs e p = rw p refl

  then_refused : (s k m : S) (v : Visit) (vs : List Visit) (n : ℕ) (e : Error E) → asked s v ≡ accepted n k → run asked k vs ≡ refused e m → run asked s (v ∷ vs) ≡ refused e m
  then_refused s k m v vs n e p q = rw (p, q) refl

module _ {A B X Y : Type 0} (f : A → Visit → Result ℕ X) (f' : A → Visit → A) (g : B → Visit → Result ℕ Y) (g' : B → Visit → B) where
  abbrev chained : Chain A B → Visit → Step (Chain A B) (Error (ChainError X Y)) ℕ
  chained = ask (chain_reply f g) (chain_next f f' g')

  -- what the second is asked, where the first has answered the first visit
  asked_rest : (v : Visit) (vs : List Visit) (n : ℕ) (ns all : List ℕ) (b : B) (r : Step B (Error Y) (List ℕ)) → all ≡ n ∷ ns → run (ask g g') b (asked_again (v ∷ vs) all) ≡ r
      → run (ask g g') b (reindexed v n ∷ asked_again vs ns) ≡ r
  asked_rest v vs n ns all b r e q = ap (λ (z : List ℕ). run (ask g g') b (asked_again (v ∷ vs) z)) (sym e) ∙ q

  -- one visit that both answer
  both : (r : Result ℕ X) (second : ℕ → Result ℕ Y) (s m : A) (b k : B) (after : ℕ → B) (n i : ℕ) → r ≡ Ok n → s ≡ m → second n ≡ Ok i → after n ≡ k
      → answered {S = Chain A B} {A = ℕ} (first_then r second) (record { a = s; b = unless_err r b after }) ≡ accepted i (record { a = m; b = k })
  both r second s m b k after n i p q e h = rw (p, q, e, h) refl

  back : (vs : List Visit) (a m : A) (b n : B) (first second : List ℕ) → run (ask f f') a vs ≡ accepted first m → run (ask g g') b (asked_again vs first) ≡ accepted second n
      → run chained (record { a = a; b = b }) vs ≡ accepted second (record { a = m; b = n })
  back [] a m b n first second p q =
      let x : a ≡ m = (given p).1 in
      let y : b ≡ n = (given q).1 in
      let z : [] ≡ second = (given q).0 in
      ap (λ (l : List ℕ). accepted l (record { a = a; b = b })) z ∙ ap₂ (λ (l : A) (k : B). accepted second (record { a = l; b = k })) x y
  back (v ∷ vs) a m b n first second p q =
      let i = first_of (ask f f') a m v vs first p in
      let here : run (ask g g') b (reindexed v i.answer ∷ asked_again vs i.rest) ≡ accepted second n = asked_rest v vs i.answer i.rest first b (accepted second n) i.parts q in
      let k = first_of (ask g g') b n (reindexed v i.answer) (asked_again vs i.rest) second here in
      let one = answered_ok (f a v) (f' a v) i.step in
      let two = answered_ok (g b (reindexed v i.answer)) (g' b (reindexed v i.answer)) k.step in
      let step : chained (record { a = a; b = b }) v ≡ accepted k.answer (record { a = i.state; b = k.state }) =
      both (f a v) (λ z. g b (reindexed v z)) (f' a v) i.state b k.state (λ z. g' b (reindexed v z)) i.answer k.answer one.0 one.1 two.0 two.1 in
      then_all chained _ _ _ v vs k.answer k.rest second k.parts step (back vs i.state m k.state n i.rest k.rest i.ran k.ran)

  -- one visit that the second refuses
  refused_both : (r : Result ℕ X) (second : ℕ → Result ℕ Y) (s m : A) (b k : B) (after : ℕ → B) (n : ℕ) (y : Y) → r ≡ Ok n → s ≡ m → second n ≡ Err y → after n ≡ k
      → answered {S = Chain A B} {A = ℕ} (first_then r second) (record { a = s; b = unless_err r b after }) ≡ refused (UserError (Second y)) (record { a = m; b = k })
  refused_both r second s m b k after n y p q e h = rw (p, q, e, h) refl

  -- one visit of the chain: the first answered, and then the second
  split : (r : Result ℕ X) (second : ℕ → Result ℕ Y) (s : A) (b : B) (after : ℕ → B) (i : ℕ) (c : Chain A B)
      → answered {S = Chain A B} {A = ℕ} (first_then r second) (record { a = s; b = unless_err r b after }) ≡ accepted i c
      → (n : ℕ) × (answered r s ≡ accepted n c.a) × (answered (second n) (after n) ≡ accepted i c.b)
  split (Err e) second s b after i c h = absurd cc
  split (Ok n) second s b after i c h = go (second n) refl h
    where
      go : (w : Result ℕ Y) → second n ≡ w → answered {S = Chain A B} {A = ℕ} (second_of {X = X} w) (record { a = s; b = after n }) ≡ accepted i c
          → (j : ℕ) × (answered {E = X} (Ok n) s ≡ accepted j c.a) × (answered (second j) (after j) ≡ accepted i c.b)
      go (Err e) is h = absurd cc
      go (Ok k) is h =
          let x = given h in
          let at_a : s ≡ c.a = ap (λ (z : Chain A B). z.a) x.1 in
          let at_b : after n ≡ c.b = ap (λ (z : Chain A B). z.b) x.1 in
          (n, ap (λ (z : A). accepted n z) at_a, rw (is, x.0, at_b) refl)

  forth : (vs : List Visit) (c d : Chain A B) (second : List ℕ) → run chained c vs ≡ accepted second d
      → (first : List ℕ) × (run (ask f f') c.a vs ≡ accepted first d.a) × (run (ask g g') c.b (asked_again vs first) ≡ accepted second d.b)
  forth [] c d second p =
      let x : c ≡ d = (given p).1 in
      let z : [] ≡ second = (given p).0 in
      ([], ap (λ (k : Chain A B). accepted [] k.a) x, ap (λ (l : List ℕ). accepted l c.b) z ∙ ap (λ (k : Chain A B). accepted second k.b) x)
  forth (v ∷ vs) c d second p =
      let i = first_of chained c d v vs second p in
      let one = split (f c.a v) (λ z. g c.b (reindexed v z)) (f' c.a v) c.b (λ z. g' c.b (reindexed v z)) i.answer i.state i.step in
      let rest = forth vs i.state d i.rest i.ran in (
        one.0 ∷ rest.0,
        then_run (ask f f') _ _ _ v vs one.0 rest.0 one.1 rest.1,
        then_all (ask g g') _ _ _ (reindexed v one.0) (asked_again vs rest.0) i.answer i.rest second i.parts one.2 rest.2,
      )

  -- one visit that is refused by one of the two
  one_back : (s m : Chain A B) (v : Visit) (e : ChainError X Y) → IsRefusedBy f f' g g' s v e m → chained s v ≡ refused (UserError e) m
  one_back s m v (First x) h = go (f s.a v) refl (λ n. g s.b (reindexed v n)) h
    where
      go : (r : Result ℕ X) → f s.a v ≡ r → (k : ℕ → Result ℕ Y) → (answered r (f' s.a v) ≡ refused (UserError x) m.a) × (m.b ≡ s.b)
          → answered {S = Chain A B} {A = ℕ} (first_then r k) (record { a = f' s.a v; b = unless_err r s.b (λ n. g' s.b (reindexed v n)) }) ≡ refused (UserError (First x)) m
      go (Ok n) is k p = absurd cc
      go (Err y) is k p =
          let z = refusal p.0 in
          let same : y ≡ x = cc in
          ap₂ (λ (a : X) (b : Chain A B). refused (UserError (First a)) b) same (ap₂ (λ (i : A) (j : B). record { a = i; b = j }) z.1 (sym p.1))
  one_back s m v (Second y) h =
      let one = answered_ok (f s.a v) (f' s.a v) h.1 in
      let z = refused_answer (g s.b (reindexed v h.0)) (g' s.b (reindexed v h.0)) h.2 in
      refused_both (f s.a v) (λ n. g s.b (reindexed v n)) (f' s.a v) m.a s.b m.b (λ n. g' s.b (reindexed v n)) h.0 y one.0 one.1 z.0 z.1

  one_forth : (s m : Chain A B) (v : Visit) (e : Error (ChainError X Y)) → chained s v ≡ refused e m → (x : ChainError X Y) × (e ≡ UserError x) × IsRefusedBy f f' g g' s v x m
  one_forth s m v e h = go (f s.a v) refl h
    where
      Found : Type 0
      Found = (x : ChainError X Y) × (e ≡ UserError x) × IsRefusedBy f f' g g' s v x m

      second : (n : ℕ) → f s.a v ≡ Ok n → (w : Result ℕ Y) → g s.b (reindexed v n) ≡ w
          → answered {S = Chain A B} {A = ℕ} (second_of {X = X} w) (record { a = f' s.a v; b = g' s.b (reindexed v n) }) ≡ refused e m → Found
      second n is (Ok k) then h = absurd cc
      second n is (Err y) then h =
          let z = refusal h in
          let at_a : f' s.a v ≡ m.a = ap (λ (k : Chain A B). k.a) z.1 in
          let at_b : g' s.b (reindexed v n) ≡ m.b = ap (λ (k : Chain A B). k.b) z.1 in
          (Second y, sym z.0, (n, ap₂ (λ r k. answered r k) is at_a, ap₂ (λ r k. answered r k) then at_b))

      go : (r : Result ℕ X) → f s.a v ≡ r
          → answered {S = Chain A B} {A = ℕ} (first_then r (λ n. g s.b (reindexed v n))) (record { a = f' s.a v; b = unless_err r s.b (λ n. g' s.b (reindexed v n)) }) ≡ refused e m → Found
      go (Ok n) is h = second n is (g s.b (reindexed v n)) refl h
      go (Err x) is h =
          let z = refusal h in
          let at_a : f' s.a v ≡ m.a = ap (λ (k : Chain A B). k.a) z.1 in
          let at_b : s.b ≡ m.b = ap (λ (k : Chain A B). k.b) z.1 in
          (First x, sym z.0, (ap₂ (λ r k. answered r k) is at_a, sym at_b))

  -- ---- refusals

  back_at : (front : List Visit) (s m k : Chain A B) (v : Visit) (rest : List Visit) (first second : List ℕ) (e : ChainError X Y)
      → run (ask f f') s.a front ≡ accepted first k.a → run (ask g g') s.b (asked_again front first) ≡ accepted second k.b
      → IsRefusedBy f f' g g' k v e m → run chained s (front ++ v ∷ rest) ≡ refused (UserError e) m
  back_at [] s m k v rest first second e p q h =
      let x : s.a ≡ k.a = (given p).1 in
      let y : s.b ≡ k.b = (given q).1 in
      let same : s ≡ k = ap₂ (λ (i : A) (j : B). record { a = i; b = j }) x y in
      let P : Chain A B → Type 0 = λ z. IsRefusedBy f f' g g' z v e m in
      refused_run chained s m v rest (UserError e) (one_back s m v e (subst P (sym same) h))
  back_at (w ∷ front) s m k v rest first second e p q h =
      let i = first_of (ask f f') s.a k.a w front first p in
      let here : run (ask g g') s.b (reindexed w i.answer ∷ asked_again front i.rest) ≡ accepted second k.b = asked_rest w front i.answer i.rest first s.b (accepted second k.b) i.parts q in
      let j = first_of (ask g g') s.b k.b (reindexed w i.answer) (asked_again front i.rest) second here in
      let one = answered_ok (f s.a w) (f' s.a w) i.step in
      let two = answered_ok (g s.b (reindexed w i.answer)) (g' s.b (reindexed w i.answer)) j.step in
      let step : chained s w ≡ accepted j.answer (record { a = i.state; b = j.state }) =
      both (f s.a w) (λ z. g s.b (reindexed w z)) (f' s.a w) i.state s.b j.state (λ z. g' s.b (reindexed w z)) i.answer j.answer one.0 one.1 two.0 two.1 in
      then_refused chained s (record { a = i.state; b = j.state }) m w (front ++ v ∷ rest) j.answer (UserError e) step
      (back_at front (record { a = i.state; b = j.state }) m k v rest i.rest j.rest e i.ran j.ran h)

  stops_later : (s k m : Chain A B) (v : Visit) (vs : List Visit) (n : ℕ) (e : ChainError X Y) → chained s v ≡ accepted n k → ChainStops f f' g g' k vs e m → ChainStops f f' g g' s (v ∷ vs) e m
  stops_later s k m v vs n e step h =
      let one = split (f s.a v) (λ z. g s.b (reindexed v z)) (f' s.a v) s.b (λ z. g' s.b (reindexed v z)) n k step in
      record {
        front = v ∷ h.front;
        visit = h.visit;
        rest = h.rest;
        parts = ap (λ (z : List Visit). v ∷ z) h.parts;
        first = one.0 ∷ h.first;
        second = n ∷ h.second;
        state = h.state;
        ran = then_run (ask f f') s.a k.a h.state.a v h.front one.0 h.first one.1 h.ran;
        then_ran = then_run (ask g g') s.b k.b h.state.b (reindexed v one.0) (asked_again h.front h.first) n h.second one.2 h.then_ran;
        stops = h.stops;
      }

  forth_at : (s m : Chain A B) (vs : List Visit) (e : Error (ChainError X Y)) → run chained s vs ≡ refused e m → (x : ChainError X Y) × (e ≡ UserError x) × ChainStops f f' g g' s vs x m
  forth_at s m [] e h = absurd cc
  forth_at s m (v ∷ vs) e h = go (λ k p. forth_at k m vs e p) (chained s v) refl h
    where
      Found : Type 0
      Found = (x : ChainError X Y) × (e ≡ UserError x) × ChainStops f f' g g' s (v ∷ vs) x m

      Later : Type 0
      Later = (k : Chain A B) → run chained k vs ≡ refused e m → (x : ChainError X Y) × (e ≡ UserError x) × ChainStops f f' g g' k vs x m

      more : Later → (n : ℕ) (k : Chain A B) → chained s v ≡ accepted n k → (w : Step (Chain A B) (Error (ChainError X Y)) (List ℕ)) → run chained k vs ≡ w
          → and_then w (λ ns j. accepted (n ∷ ns) j) ≡ refused e m → Found
      more later n k step (accepted ns j) is h = absurd cc
      more later n k step (refused d j) is h =
          let x = refusal h in
          let rest = later k (is ∙ ap₂ (λ a b. refused a b) x.0 x.1) in
          (rest.0, rest.1, stops_later s k m v vs n rest.0 step rest.2)

      go : Later → (w : Step (Chain A B) (Error (ChainError X Y)) ℕ) → chained s v ≡ w
          → and_then w (λ n k. and_then (run chained k vs) (λ ns j. accepted (n ∷ ns) j)) ≡ refused e m → Found
      go later (accepted n k) step h = more later n k step (run chained k vs) refl h
      go later (refused d k) step h =
          let x = refusal h in
          let one = one_forth s m v e (step ∙ ap₂ (λ a b. refused a b) x.0 x.1) in
          (one.0, one.1, record { front = []; visit = v; rest = vs; parts = refl; first = []; second = []; state = s; ran = refl; then_ran = refl; stops = one.2 })

  pub chain_refuses : statements.ChainRefuses f f' g g'
  chain_refuses = record {
    back = λ s m vs e h. rw h.parts (back_at h.front s m h.state h.visit h.rest h.first h.second e h.ran h.then_ran h.stops);
    forth = forth_at;
  }

  pub chain_is_both : statements.ChainIsBoth f f' g g'
  chain_is_both = record {
    back = λ a m b n t first second p q. back (visits t) a m b n first second p (ap (run (ask g g') b) (sym (visits-fill None t first)) ∙ q);
    forth = λ s m t second p.
        let h = forth (visits t) s m second p in
        (h.0, h.1, ap (run (ask g g') s.b) (visits-fill None t h.0) ∙ h.2);
  }
