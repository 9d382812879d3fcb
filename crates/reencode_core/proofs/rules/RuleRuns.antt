-- Runs of a reencoder whose state stays, as that of a rule for indices.
use Rattle.std.proofs.Common.{◌≡◌, ◌≢◌, ℕ, List, [], ◌∷◌, map, Result, Ok, Err, IfOk, IfErr, refl, sym, ap, ap₂, ◌∙◌}
use Rattle.wasm_shapes.specs.declared.Space.{Space}
use Rattle.wasm_shapes.specs.declared.Visit.{Visit}
use Rattle.wasm_shapes.specs.Tree.{Tree, fill, normal, visits}
use Rattle.wasm_shapes.specs.Spells.{Spells}
use Rattle.wasm_shapes.specs.Fits.{Fits}
use Rattle.wasm_shapes.specs.Module.{core_module}
use Rattle.reencode_hooks.specs.declared.error.Error.{Error}
use Rattle.reencode_hooks.specs.declared.error.Error.TheVariants.{UserError, NoMemory}
use Rattle.reencode_hooks.specs.Run.{Step, accepted, refused, and_then, answered, ask, run}
use Rattle.reencode_hooks.specs.Walk.{walk}
use Rattle.reencode_hooks.proofs.Walks.{walk_is_run, walk_refuses}
use Rattle.reencode_core.specs.Core.{GivesBytes}
use Rattle.reencode_hooks.specs.Rules.{by_rule}
use Rattle.reencode_core.specs.Rules.{IfUser, IsMade, IsRefusal, IsRenamed, Refuses}

module _ {S E : Type 0} (reply : S → Visit → Result ℕ E) where
  abbrev pub stays : S → Visit → Step S (Error E) ℕ
  stays = ask reply (λ s _. s)

  -- an accepted run has an answer to each visit
  ran : (s : S) (vs : List Visit) (given : List ℕ) (m : S) → run stays s vs ≡ accepted given m → map (reply s) vs ≡ map Ok given
  ran s [] given m e = let none : ◌≡◌ {A = List ℕ} [] given = cc in ap (λ (z : List ℕ). map Ok z) none
  ran s (v ∷ vs) given m e = go (ran s vs) (reply s v) refl e
    where
      more : ((ns : List ℕ) (k : S) → run stays s vs ≡ accepted ns k → map (reply s) vs ≡ map Ok ns) → (n : ℕ) → reply s v ≡ Ok n → (w : Step S (Error E) (List ℕ)) → run stays s vs ≡ w →
          and_then w (λ ns k. accepted (n ∷ ns) k) ≡ accepted given m → map (reply s) (v ∷ vs) ≡ map Ok given
      more again n is (accepted ns k) same e =
          let whole : n ∷ ns ≡ given = cc in
          ap₂ (λ (x : Result ℕ E) (xs : List (Result ℕ E)). x ∷ xs) is (again ns k same) ∙ ap (λ (z : List ℕ). map Ok z) whole
      more again n is (refused d k) same e = absurd cc

      go : ((ns : List ℕ) (k : S) → run stays s vs ≡ accepted ns k → map (reply s) vs ≡ map Ok ns) → (r : Result ℕ E) → reply s v ≡ r →
          and_then (answered r s) (λ n k. and_then (run stays k vs) (λ ns j. accepted (n ∷ ns) j)) ≡ accepted given m → map (reply s) (v ∷ vs) ≡ map Ok given
      go again (Ok n) is e = more again n is (run stays s vs) refl e
      go again (Err x) is e = absurd cc

  -- and where each visit has an answer, the run is accepted
  runs : (s : S) (vs : List Visit) (given : List ℕ) → map (reply s) vs ≡ map Ok given → run stays s vs ≡ accepted given s
  runs s [] [] e = refl
  runs s [] (g ∷ gs) e = absurd cc
  runs s (v ∷ vs) [] e = absurd cc
  runs s (v ∷ vs) (g ∷ gs) e =
      let first : reply s v ≡ Ok g = cc in
      let rest : map (reply s) vs ≡ map Ok gs = cc in
      rw (first, runs s vs gs rest) refl

  -- a refused run is refused at the first visit without an answer
  stops : (s : S) (vs : List Visit) (x : E) (m : S) → run stays s vs ≡ refused (UserError x) m → Refuses (reply s) vs x
  stops s [] x m e = absurd cc
  stops s (v ∷ vs) x m e = go (stops s vs x) (reply s v) refl e
    where
      behind : (n : ℕ) → reply s v ≡ Ok n → Refuses (reply s) vs x → Refuses (reply s) (v ∷ vs) x
      behind n is r = record {
        front = v ∷ r.front;
        visit = r.visit;
        rest = r.rest;
        parts = ap (λ (z : List Visit). v ∷ z) r.parts;
        answers = n ∷ r.answers;
        accepted = ap₂ (λ (y : Result ℕ E) (ys : List (Result ℕ E)). y ∷ ys) is r.accepted;
        refused = r.refused;
      }

      more : ((k : S) → run stays s vs ≡ refused (UserError x) k → Refuses (reply s) vs x) → (n : ℕ) → reply s v ≡ Ok n → (w : Step S (Error E) (List ℕ)) → run stays s vs ≡ w →
          and_then w (λ ns k. accepted (n ∷ ns) k) ≡ refused (UserError x) m → Refuses (reply s) (v ∷ vs) x
      more again n is (accepted ns k) same e = absurd cc
      more again n is (refused d k) same e = let user : d ≡ UserError x = cc in behind n is (again k (same ∙ ap (λ (z : Error E). refused z k) user))

      go : ((k : S) → run stays s vs ≡ refused (UserError x) k → Refuses (reply s) vs x) → (r : Result ℕ E) → reply s v ≡ r →
          and_then (answered r s) (λ n k. and_then (run stays k vs) (λ ns j. accepted (n ∷ ns) j)) ≡ refused (UserError x) m → Refuses (reply s) (v ∷ vs) x
      go again (Ok n) is e = more again n is (run stays s vs) refl e
      go again (Err y) is e =
          let same : y ≡ x = cc in
          record { front = []; visit = v; rest = vs; parts = refl; answers = []; accepted = refl; refused = is ∙ ap (λ (z : E). Err z) same }

  module _ {A : Type 0} {ceiling : ℕ} {bytes : List ℕ} {s m : S} {view : A → List ℕ} where
    pub all_answered : {out : A} → GivesBytes stays ceiling bytes s m (Ok out) view →
        (t : Tree) × (given : List ℕ) × Spells core_module bytes t × (map (reply s) (visits t) ≡ map Ok given) × (view out ≡ normal (fill t given))
    all_answered g =
        let p = g.readable in
        let q = g.reading p.0 p.1 in
        let a = (walk_is_run stays).forth ceiling s m p.0 q.0 q.1 in
        (p.0, a.given, p.1, ran s (visits p.0) a.given m a.ran, q.2 ∙ ap normal (sym a.filled))

    pub first_refused : {x : E} → GivesBytes {A = A} stays ceiling bytes s m (Err (UserError x)) view → (t : Tree) → Spells core_module bytes t → Refuses (reply s) (visits t) x
    first_refused {x = x} g t p = stops s (visits t) x m ((walk_refuses stays).forth ceiling s m t x (g.reading t p (λ same. absurd cc)))

    not_refused : {e : Error E} → GivesBytes {A = A} stays ceiling bytes s m (Err e) view → (t : Tree) (given : List ℕ) → Spells core_module bytes t → map (reply s) (visits t) ≡ map Ok given →
        Fits (fill t given) ceiling → e ≢ NoMemory → ⊥
    not_refused {e = e} g t given p all fits other =
        let refusal : walk stays ceiling s t ≡ refused e m = g.reading t p other in
        let accepts : walk stays ceiling s t ≡ accepted (fill t given) s =
        (walk_is_run stays).back ceiling s s t (fill t given) bytes p.spelled (record { given = given; ran = runs s (visits t) given all; filled = refl; fits = fits }) in
        absurd cc

    pub only_memory : (e : Error E) → GivesBytes {A = A} stays ceiling bytes s m (Err e) view → (t : Tree) (given : List ℕ) → Spells core_module bytes t → map (reply s) (visits t) ≡ map Ok given →
        Fits (fill t given) ceiling → e ≡ NoMemory
    only_memory NoMemory g t given p all fits = refl
    only_memory e g t given p all fits = absurd (not_refused g t given p all fits (λ same. absurd cc))

-- ---- a rule for indices

abbrev pub rule_asks : {S E : Type 0} → (S → Space → ℕ → Result ℕ E) → S → Visit → Step S (Error E) ℕ
rule_asks renamed = stays (λ k v. by_rule (renamed k) v)

module _ {S E A : Type 0} (renamed : S → Space → ℕ → Result ℕ E) {ceiling : ℕ} {bytes : List ℕ} {s m : S} {view : A → List ℕ} where
  pub rule_ok : (r : Result A (Error E)) → GivesBytes (rule_asks renamed) ceiling bytes s m r view → IfOk r (λ out. IsRenamed (renamed s) bytes (view out))
  rule_ok (Ok out) g =
      let a = all_answered (λ (k : S) (v : Visit). by_rule (renamed k) v) g in
      record { tree = a.0; reading = a.2; answers = a.1; answered = a.3; spelled = a.4 }
  rule_ok (Err e) g = tt

  pub rule_refused : (r : Result A (Error E)) → GivesBytes (rule_asks renamed) ceiling bytes s m r view → IfErr r (λ e. IfUser e (IsRefusal (renamed s) bytes))
  rule_refused (Ok out) g = tt
  rule_refused (Err (UserError x)) g = first_refused (λ (k : S) (v : Visit). by_rule (renamed k) v) g
  rule_refused (Err e) g = tt

  pub rule_made : (r : Result A (Error E)) → GivesBytes (rule_asks renamed) ceiling bytes s m r view → IfErr r (IsMade (renamed s) ceiling bytes)
  rule_made (Ok out) g = tt
  rule_made (Err e) g = only_memory (λ (k : S) (v : Visit). by_rule (renamed k) v) e g
