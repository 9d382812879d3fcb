-- The walk over the sections of a component.
use Rattle.std.proofs.Common.{◌≡◌, ℕ, List, [], ◌∷◌, ◌++◌, length, nat_le, Bool, true, false, if◌then◌else◌, refl, ap, ◌∙◌}
use Rattle.wasm_shapes.specs.declared.Visit.{Visit}
use Rattle.wasm_shapes.specs.declared.Visit.TheVariants.{Push, Pop}
use Rattle.wasm_shapes.specs.Rows.{rows_then}
use Rattle.wasm_shapes.specs.Tree.{Tree, normal, visits}
use Rattle.wasm_shapes.proofs.Rows.{rows_then-append}
use Rattle.reencode_hooks.specs.declared.error.Error.{Error}
use Rattle.reencode_hooks.specs.declared.error.Error.TheVariants.{TooLarge}
use Rattle.reencode_hooks.specs.Run.{Step, accepted, refused, and_then, run}
use Rattle.reencode_hooks.specs.Walk.{closed}
use Rattle.reencode_hooks.proofs.Agrees.{inv, given}
use Rattle.reencode_core.specs.Rows.{Asks, onto_rows}
use Rattle.reencode_core.specs.Weave.{Puts}
use Rattle.reencode_core.proofs.rows_walked.SmallCounts.{run_then}
use Rattle.reencode_core.proofs.rows_walked.RowLoop.{one_onto, onto_nothing}
use Rattle.reencode_core.proofs.weave.Weaves.{weave_is_run, weave_of_nothing}
use Rattle.reencode_component.specs.WeaveIn.{weave_in, AcceptsAll, WeaveInOfNothing}

-- the run over these visits is accepted
abbrev pub Ran : {S E : Type 0} → Asks S E → S → List Visit → S → Type 0
Ran asked s xs m = (a : List ℕ) × (run asked s xs ≡ accepted a m)

module _ {S E : Type 0} (asked : Asks S E) where
  ran_both : (s n m : S) (xs ys : List Visit) → Ran asked s xs n → Ran asked n ys m → Ran asked s (xs ++ ys) m
  ran_both s n m xs ys p q = (p.0 ++ q.0, run_then asked s n m xs ys p.0 q.0 p.1 q.1)

  ran_one : (s k : S) (v : Visit) (n : ℕ) → asked s v ≡ accepted n k → Ran asked s (v ∷ []) k
  ran_one s k v n h = (n ∷ [], rw h refl)

  ran_in : (s m n : S) (xs : List Visit) → n ≡ m → Ran asked s xs n → Ran asked s xs m
  ran_in s m n xs e p = (p.0, p.1 ∙ ap (λ (z : S). accepted p.0 z) e)

  closed_state : (c : ℕ) (u v : Tree) (n m : S) → closed {E = E} c u n ≡ accepted v m → n ≡ m
  closed_state c u v n m h = go (nat_le (length (normal u)) c) h
    where
      go : (b : Bool) → ◌≡◌ {A = Step S (Error E) Tree} (if b then accepted (Tree.sized u) n else refused (TooLarge (length (normal u))) n) (accepted v m) → n ≡ m
      go true h = (given h).1
      go false h = absurd cc

  -- where the walk is accepted, so is the run over the visits
  pub weave_in_ran : (put : Puts S Tree) (c : ℕ) (s m : S) (t u : Tree) → weave_in asked put c s t ≡ accepted u m → Ran asked s (visits t) m
  weave_in_ran put c s m (Tree.cons t u) v h =
      let i = inv (weave_in asked put c s t) _ h in
      let j = inv (weave_in asked put c i.1 u) _ i.3 in
      ran_in s m j.1 (visits t ++ visits u) (given j.3).1 (ran_both s i.1 j.1 (visits t) (visits u) (weave_in_ran put c s i.1 t i.0 i.2) (weave_in_ran put c i.1 j.1 u j.0 j.2))
  weave_in_ran put c s m (Tree.pair t u) v h =
      let i = inv (weave_in asked put c s t) _ h in
      let j = inv (weave_in asked put c i.1 u) _ i.3 in
      ran_in s m j.1 (visits t ++ visits u) (given j.3).1 (ran_both s i.1 j.1 (visits t) (visits u) (weave_in_ran put c s i.1 t i.0 i.2) (weave_in_ran put c i.1 j.1 u j.0 j.2))
  weave_in_ran put c s m (Tree.row k t) v h =
      let i = inv (weave_in asked put c s t) _ h in ran_in s m i.1 (visits t) (given i.3).1 (weave_in_ran put c s i.1 t i.0 i.2)
  weave_in_ran put c s m (Tree.sized t) v h =
      let i = inv (weave_in asked put c s t) _ h in ran_in s m i.1 (visits t) (closed_state c i.0 v i.1 m i.3) (weave_in_ran put c s i.1 t i.0 i.2)
  weave_in_ran put c s m (Tree.scope t) v h =
      let a = inv (asked s Push) _ h in
      let i = inv (weave_in asked put c a.1 t) _ a.3 in
      let b = inv (asked i.1 Pop) _ i.3 in
      let inner = ran_both a.1 i.1 b.1 (visits t) (Pop ∷ []) (weave_in_ran put c a.1 i.1 t i.0 i.2) (ran_one i.1 b.1 Pop b.0 b.2) in
      ran_in s m b.1 (Push ∷ visits t ++ (Pop ∷ [])) (given b.3).1 (ran_both s a.1 b.1 (Push ∷ []) (visits t ++ (Pop ∷ [])) (ran_one s a.1 Push a.0 a.2) inner)
  weave_in_ran put c s m t u h = let w = (weave_is_run asked).forth put c s m t u h in (w.given, w.ran)

  -- ---- sections one behind another

  pub accepts_none : (put : Puts S Tree) (c : ℕ) (s : S) → AcceptsAll asked put c s [] [] s
  accepts_none put c s others = onto_nothing asked (weave_in asked put c s others)

  pub accepts_more : (put : Puts S Tree) (c : ℕ) (s0 s m : S) (read made : List Tree) (t u : Tree) → AcceptsAll asked put c s0 read made s → weave_in asked put c s t ≡ accepted u m →
      AcceptsAll asked put c s0 (read ++ t ∷ []) (made ++ u ∷ []) m
  accepts_more put c s0 s m read made t u a h others =
      let step : weave_in asked put c s (Tree.cons t others) ≡ and_then (weave_in asked put c m others) (λ v n. accepted (Tree.cons u v) n) = rw h refl in
      rw (rows_then-append read t others)
      (a (Tree.cons t others) ∙ ap (λ (r : Step S (Error E) Tree). onto_rows made r) step ∙ one_onto asked made u (weave_in asked put c m others))

  pub all_refused : (put : Puts S Tree) (c : ℕ) (s0 s m : S) (read made : List Tree) (e : Error E) (t others : Tree) → AcceptsAll asked put c s0 read made s → weave_in asked put c s t ≡ refused e m →
      weave_in asked put c s0 (rows_then read (Tree.cons t others)) ≡ refused e m
  all_refused put c s0 s m read made e t others a h =
      let step : weave_in asked put c s (Tree.cons t others) ≡ refused e m = rw h refl in
      a (Tree.cons t others) ∙ ap (λ (r : Step S (Error E) Tree). onto_rows made r) step

-- ---- where nothing is put

then_same : {S E A B : Type 0} (r : Step S E A) (f g : A → S → Step S E B) → ((a : A) (m : S) → f a m ≡ g a m) → and_then r f ≡ and_then r g
then_same (accepted a m) f g h = h a m
then_same (refused e m) f g h = refl

-- two steps that are the same, and what follows the first
pub both_same : {S E A B : Type 0} {r q : Step S E A} (f g : A → S → Step S E B) → r ≡ q → ((a : A) (m : S) → f a m ≡ g a m) → and_then r f ≡ and_then q g
both_same {q = q} f g e h = ap (λ z. and_then z f) e ∙ then_same q f g h

pub weave_in_of_nothing : {S E : Type 0} (asked : Asks S E) → WeaveInOfNothing asked
weave_in_of_nothing asked put none c s (Tree.cons t u) =
    both_same _ _ (weave_in_of_nothing asked put none c s t) (λ v m. both_same _ _ (weave_in_of_nothing asked put none c m u) (λ w n. refl))
weave_in_of_nothing asked put none c s (Tree.pair t u) =
    both_same _ _ (weave_in_of_nothing asked put none c s t) (λ v m. both_same _ _ (weave_in_of_nothing asked put none c m u) (λ w n. refl))
weave_in_of_nothing asked put none c s (Tree.row k t) = both_same _ _ (weave_in_of_nothing asked put none c s t) (λ v m. refl)
weave_in_of_nothing asked put none c s (Tree.sized t) = both_same _ _ (weave_in_of_nothing asked put none c s t) (λ v m. refl)
weave_in_of_nothing asked put none c s (Tree.scope t) =
    then_same (asked s Push) _ _ (λ a m. both_same _ _ (weave_in_of_nothing asked put none c m t) (λ v n. refl))
weave_in_of_nothing asked put none c s t = weave_of_nothing asked put none c s t
