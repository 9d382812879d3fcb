-- The laws of plain reencoders, from those of `specs/WithinLaws.antt`.
use Rattle.std.proofs.Common.{◌≡◌, ◌++◌, ◌∷◌, ℕ, List, Result, Ok, Err, IfErr, IfOk, IsTrue, refl}
use Rattle.wasm_shapes.specs.Tree.{Tree, visits}
use Rattle.reencode_hooks.specs.declared.error.Error.{Error}
use Rattle.reencode_hooks.specs.declared.error.Error.TheVariants.{CanonicalizedHeapTypeReference, TooLarge, UserError}
use Rattle.reencode_hooks.specs.declared.indices.ReencodeIndices.{Ghosts}
use Rattle.reencode_hooks.specs.Moments as moment
use Rattle.reencode_hooks.specs.Run.{answers, refused, run}
use Rattle.reencode_core.specs.Clauses.{asks}
use Rattle.reencode_core.specs.Rows.{Asks}
use Rattle.reencode_core.specs.Rules.{IfUser}
use Rattle.reencode_component.specs.ComponentLaws.{IsTaken, StopsOn, Taking}
use Rattle.reencode_component.specs.PlainLaws.{IsAnswered, IsReencoded, IsRefused, OfPlain, RefusesVisit}
use Rattle.reencode_component.specs.WithinLaws.{ErrorTells, OutputIsTaken, Promises}

module _ {S E : Type 0} (k : Taking) (asked : Asks S E) where
  of_taken : {c : ℕ} {bytes out : List ℕ} {s m : S} → IsTaken k asked c bytes s m out → IsReencoded k asked c bytes s m out
  of_taken h = record { tree = h.tree; reading = h.reads; answers = h.filled.given; answered = h.filled.ran; fits = h.filled.fits; spelled = h.spelled }

  to_taken : {c : ℕ} {bytes out : List ℕ} {s m : S} → IsReencoded k asked c bytes s m out → IsTaken k asked c bytes s m out
  to_taken h = record { tree = h.tree; reads = h.reading; filled = record { given = h.answers; ran = h.answered; fits = h.fits }; spelled = h.spelled }

  -- a walk that ends in a refusal ends at a visit
  at_visit : {c : ℕ} {s m : S} {t : Tree} {x : E} → run asked s (visits t) ≡ refused (UserError x) m → StopsOn asked c s t (UserError x) m → RefusesVisit asked c t s m x
  at_visit {c = c} {s = s} {m = m} {t = t} {x = x} ended h = go h.moment h.parts h.ends
    where
      go : (w : moment.Moment) → moment.moments t (answers asked s (visits t)) ≡ h.front ++ w ∷ h.rest → moment.Ends asked c h.state w (UserError x) m → RefusesVisit asked c t s m x
      go (moment.asks v) parts ends = record { ended = ended; front = h.front; visit = v; rest = h.rest; parts = parts; answers = h.so_far; at = h.state; answered = h.ran; fits = h.fits; refuses = ends }
      go (moment.closes n) parts ends = let never : ◌≡◌ {A = Error E} (UserError x) (TooLarge n) = ends.1 in absurd cc
      go moment.lost parts ends = let never : ◌≡◌ {A = Error E} (UserError x) CanonicalizedHeapTypeReference = ends.0 in absurd cc

module _ {S E A : Type 0} (k : Taking) (i : Ghosts S E) (promised : Promises S E A) where
  -- with Ok, the output
  pub is_reencoded : (view : A → List ℕ) → OutputIsTaken k i promised view → OfPlain i promised (λ c bytes s m result. IfOk result (λ out. IsReencoded k (asks i) c bytes s m (view out)))
  is_reencoded view law c bytes s m (Ok out) given keeps nothing = of_taken k (asks i) (law.output c bytes s m (Ok out) given keeps nothing)
  is_reencoded view law c bytes s m (Err e) given keeps nothing = tt

  refused_by : ErrorTells k i promised → (c : ℕ) (bytes : List ℕ) (s m : S) (e : Error E) → promised c bytes s m (Err e) → IsTrue i.keeps_defaults → IsTrue i.adds_nothing →
      IfUser e (IsRefused k (asks i) c bytes s m)
  refused_by law c bytes s m (UserError x) given keeps nothing = record {
    reading = λ t r. at_visit k (asks i) (law.reading c bytes s m (UserError x) given keeps x refl t r) (law.stops c bytes s m (UserError x) given keeps nothing (λ q. cc) t r);
    unread = λ t rest f. law.further c bytes s m (UserError x) given keeps x refl t rest f;
    last = law.last c bytes s m (UserError x) given keeps x refl;
  }
  refused_by law c bytes s m _ given keeps nothing = tt

  -- a refusal
  pub is_refused : ErrorTells k i promised → OfPlain i promised (λ c bytes s m result. IfErr result (λ e. IfUser e (IsRefused k (asks i) c bytes s m)))
  is_refused law c bytes s m (Ok out) given keeps nothing = tt
  is_refused law c bytes s m (Err e) given keeps nothing = refused_by law c bytes s m e given keeps nothing

  -- where an output comes
  pub is_answered : (view : A → List ℕ) → OutputIsTaken k i promised view → OfPlain i promised (λ c bytes s m result. IsAnswered k (asks i) c bytes s m result view)
  is_answered view law c bytes s m result given keeps nothing out n h = law.complete c bytes s m result given keeps nothing out n (to_taken k (asks i) h)
