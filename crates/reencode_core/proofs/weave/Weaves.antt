-- The walk of a reencoder whose section hooks add, beside the plain walk and the run.
use Rattle.std.proofs.Common.{◌≡◌, ℕ, List, [], ◌∷◌, ◌++◌, length, drop, map, Option, Some, None, refl, sym, ap, ap₂, ◌∙◌, append_assoc, append-nil, subst}
use Rattle.std.proofs.Math.Seq.{drop-append_seam}
use Rattle.wasm_shapes.specs.declared.SectionId.{SectionId}
use Rattle.wasm_shapes.specs.declared.Visit.{Visit}
use Rattle.wasm_shapes.specs.declared.Visit.TheVariants.{Section, Closed}
use Rattle.wasm_shapes.specs.Tree.{Tree, visits, visits_from, before, behind, kind, fill, after, past, normal}
use Rattle.wasm_shapes.specs.Spells.{Spelled}
use Rattle.wasm_shapes.specs.Fits.{Fits}
use Rattle.wasm_shapes.specs.Module.{alsos}
use Rattle.reencode_hooks.specs.declared.error.Error.{Error}
use Rattle.reencode_hooks.specs.Hooks.{MayAdd}
use Rattle.reencode_hooks.specs.Run.{Step, accepted, refused, and_then, run, answers, state_after}
use Rattle.reencode_hooks.specs.Walk.{walk, walk_from, announced, followed}
use Rattle.reencode_hooks.specs.Moments.{moments_from, passed}
use Rattle.reencode_hooks.proofs.Agrees.{agrees, inv, given, passed-run, run_length}
use Rattle.reencode_hooks.proofs.Walks.{walk_is_run}
use Rattle.reencode_core.specs.Rows.{Asks}
use Rattle.reencode_core.specs.Core.{onto}
use Rattle.reencode_core.specs.Weave.{AtSections, Puts, put_at, put_before, put_behind, woven_one, weave, weave_from, woven_from, woven}
use Rattle.reencode_core.specs.WovenLaws.{WeaveOfNothing, ends, WeaveEnds, AcceptsWoven, WeaveIsRun}
use Rattle.reencode_core.proofs.rows_walked.SmallCounts.{run_parts, run_then}
use Rattle.reencode_core.proofs.after_error.VisitsMade.{run_state}

-- ---- steps

then_same : {S E A B : Type 0} (r : Step S E A) (f g : A → S → Step S E B) → ((a : A) (m : S) → f a m ≡ g a m) → and_then r f ≡ and_then r g
then_same (accepted a m) f g h = h a m
then_same (refused e m) f g h = refl

ends_then : {S E A B C D : Type 0} (r : Step S E A) (q : Step S E B) (f : A → S → Step S E C) (g : B → S → Step S E D) →
    ends r ≡ ends q → ((a : A) (b : B) (m : S) → ends (f a m) ≡ ends (g b m)) → ends (and_then r f) ≡ ends (and_then q g)
ends_then (accepted a m) (accepted b n) f g e h = let same : m ≡ n = cc in rw (← same) (h a b m)
ends_then (accepted a m) (refused x n) f g e h = absurd cc
ends_then (refused x m) (accepted b n) f g e h = absurd cc
ends_then (refused x m) (refused y n) f g e h = cc

-- two steps that end alike are accepted together
ends_accepted : {S E A B : Type 0} (r : Step S E A) (q : Step S E B) {a : A} {m : S} → ends r ≡ ends q → r ≡ accepted a m → (b : B) × (q ≡ accepted b m)
ends_accepted (accepted x k) (accepted b n) e h = let same : k ≡ n = cc in (b, ap (λ (z : _). accepted b z) (sym same ∙ (given h).1))
ends_accepted (accepted x k) (refused y n) e h = absurd cc
ends_accepted (refused x k) q e h = absurd cc

-- ---- lists of sections

pub alsos-append : (ts us : List Tree) (others : Tree) → alsos (ts ++ us) others ≡ alsos ts (alsos us others)
alsos-append [] us others = refl
alsos-append (t ∷ ts) us others = ap (λ (u : Tree). Tree.also t u) (alsos-append ts us others)

pub alsos_alike : (us ws : List Tree) (t u : Tree) → map normal us ≡ map normal ws → normal t ≡ normal u → normal (alsos us t) ≡ normal (alsos ws u)
alsos_alike [] [] t u e f = f
alsos_alike [] (w ∷ ws) t u e f = absurd cc
alsos_alike (v ∷ us) [] t u e f = absurd cc
alsos_alike (v ∷ us) (w ∷ ws) t u e f =
    let first : normal v ≡ normal w = cc in
    let rest : map normal us ≡ map normal ws = cc in
    ap₂ (λ (x y : List ℕ). x ++ y) first (alsos_alike us ws t u rest f)

-- ---- the section visits of a run

-- The run over a section and those behind it: up to the closing hook, which is asked at the first of two states, and from there to the
-- others, which are visited from the second.
pub record AlsoRan {S E : Type 0} (asked : Asks S E) (s m : S) (last : Option SectionId) (t u : Tree) : Type 0 where
  pub at : S
  pub from : S
  pub first : List ℕ
  pub told : List ℕ
  pub others : List ℕ
  pub first_ran : run asked s (before last t ++ visits_from None t) ≡ accepted first at
  pub behind_ran : run asked at (behind t) ≡ accepted told from
  pub others_ran : run asked from (visits_from (kind last t) u) ≡ accepted others m
  pub at_is : state_after (run asked s (before last t ++ visits_from None t)) ≡ at
  pub from_is : state_after (run asked s (before last t ++ (visits_from None t ++ behind t))) ≡ from

also_given : {S E : Type 0} (asked : Asks S E) (s n k m : S) (a b d : List ℕ) (last : Option SectionId) (t u : Tree) → run asked s (before last t ++ visits_from None t) ≡ accepted a n →
    run asked n (behind t) ≡ accepted b k → run asked k (visits_from (kind last t) u) ≡ accepted d m → AlsoRan asked s m last t u
also_given asked s n k m a b d last t u h i j =
    let front : List Visit = before last t ++ visits_from None t in
    let whole : run asked s (before last t ++ (visits_from None t ++ behind t)) ≡ accepted (a ++ b) k =
    ap (run asked s) (sym (append_assoc (before last t) (visits_from None t) (behind t))) ∙ run_then asked s n k front (behind t) a b h i in record {
      at = n;
      from = k;
      first = a;
      told = b;
      others = d;
      first_ran = h;
      behind_ran = i;
      others_ran = j;
      at_is = ap state_after h;
      from_is = ap state_after whole;
    }

pub also_ran : {S E : Type 0} (asked : Asks S E) (s m : S) (last : Option SectionId) (t u : Tree) (told : List ℕ) → run asked s (visits_from last (Tree.also t u)) ≡ accepted told m →
    AlsoRan asked s m last t u
also_ran asked s m last t u told ran =
    let front : List Visit = before last t ++ visits_from None t in
    let others : List Visit = visits_from (kind last t) u in
    let p = run_parts asked s m front (behind t ++ others) told (ap (run asked s) (append_assoc (before last t) (visits_from None t) (behind t ++ others)) ∙ ran) in
    let q = run_parts asked p.1 m (behind t) others p.2 p.4 in
    also_given asked s p.1 q.1 m p.0 q.0 q.2 last t u p.3 q.3 q.4

-- this holds at the visit of a kind at a section, where the hooks are told of it
abbrev pub AtKind : {S : Type 0} → (S → Visit → Type 0) → (SectionId → Visit) → S → Tree → Type 0
AtKind P visit s (Tree.row k t) = AtKind P visit s t
AtKind P visit s (Tree.told k t) = P s (visit k)
AtKind P visit s _ = Unit {0}

module _ {S E : Type 0} (asked : Asks S E) (P : S → Visit → Type 0) where
  pub at_front : (s : S) (xs ys : List Visit) → AtSections asked s (xs ++ ys) P → AtSections asked s xs P
  at_front s xs ys h front v rest may parts = h front v (rest ++ ys) may (ap (λ (z : List Visit). z ++ ys) parts ∙ append_assoc front (v ∷ rest) ys)

  pub at_behind : (s n : S) (told : List ℕ) (xs ys : List Visit) → run asked s xs ≡ accepted told n → AtSections asked s (xs ++ ys) P → AtSections asked n ys P
  at_behind s n told xs ys ran h front v rest may parts =
      let Q : S → Type 0 = λ k. P k v in
      subst Q (run_state asked s n xs front told ran) (h (xs ++ front) v rest may (ap (λ (z : List Visit). xs ++ z) parts ∙ sym (append_assoc xs front (v ∷ rest))))

  -- from the closing hook on, and from the sections behind it on
  also_from : (s m : S) (last : Option SectionId) (t u : Tree) (r : AlsoRan asked s m last t u) → AtSections asked s (visits_from last (Tree.also t u)) P →
      AtSections asked r.at (behind t ++ visits_from (kind last t) u) P
  also_from s m last t u r h =
      let Q : List Visit → Type 0 = λ z. AtSections asked s z P in
      let others : List Visit = behind t ++ visits_from (kind last t) u in
      at_behind s r.at r.first (before last t ++ visits_from None t) others r.first_ran (subst Q (sym (append_assoc (before last t) (visits_from None t) others)) h)

  pub also_behind : (s m : S) (last : Option SectionId) (t u : Tree) (r : AlsoRan asked s m last t u) → AtSections asked s (visits_from last (Tree.also t u)) P →
      AtSections asked r.from (visits_from (kind last t) u) P
  also_behind s m last t u r h = at_behind r.at r.from r.told (behind t) (visits_from (kind last t) u) r.behind_ran (also_from s m last t u r h)

  at_before : (s : S) (last : Option SectionId) (t : Tree) (more : List Visit) → AtSections asked s (before last t ++ more) P → AtKind P (λ k. Section last (Some k)) s t
  at_before s last (Tree.row k t) more h = at_before s last t more h
  at_before s last (Tree.told k t) more h = h [] (Section last (Some k)) more tt refl
  at_before s last _ more h = tt

  at_closing : (s : S) (t : Tree) (more : List Visit) → AtSections asked s (behind t ++ more) P → AtKind P (λ k. Closed k) s t
  at_closing s (Tree.row k t) more h = at_closing s t more h
  at_closing s (Tree.told k t) more h = h [] (Closed k) more tt refl
  at_closing s _ more h = tt

  -- at the two hooks of a section
  pub also_hooks : (s m : S) (last : Option SectionId) (t u : Tree) (r : AlsoRan asked s m last t u) → AtSections asked s (visits_from last (Tree.also t u)) P →
      AtKind P (λ k. Section last (Some k)) s t × AtKind P (λ k. Closed k) r.at t
  also_hooks s m last t u r h =
      let others : List Visit = visits_from (kind last t) u in
      (at_before s last t (visits_from None t ++ (behind t ++ others)) h, at_closing r.at t others (also_from s m last t u r h))

-- ---- a walk that is accepted, as a run

pub record Filled {S E : Type 0} (asked : Asks S E) (last : Option SectionId) (s : S) (t u : Tree) (m : S) : Type 0 where
  pub told : List ℕ
  pub ran : run asked s (visits_from last t) ≡ accepted told m
  pub fills : (more : List ℕ) → fill t (told ++ more) ≡ u

run_one : {S E : Type 0} (asked : Asks S E) (s m : S) (v : Visit) (n : ℕ) → asked s v ≡ accepted n m → run asked s (v ∷ []) ≡ accepted (n ∷ []) m
run_one asked s m v n h = rw h refl

-- the answers behind those of a tree, and behind that of the closing hook
after_own : {S E : Type 0} (asked : Asks S E) (s m : S) (t : Tree) (a rest : List ℕ) → run asked s (visits t) ≡ accepted a m → after t (a ++ rest) ≡ rest
after_own asked s m t a rest h = rw (← run_length asked 0 s (visits t) h) (drop-append_seam a rest)

past_own : {S E : Type 0} (asked : Asks S E) (s n m : S) (t : Tree) (a b rest : List ℕ) → run asked s (visits t) ≡ accepted a n → run asked n (behind t) ≡ accepted b m → past t (a ++ (b ++ rest)) ≡ rest
past_own asked s n m t a b rest h k = rw (after_own asked s n t a (b ++ rest) h, ← run_length asked 0 n (behind t) k) (drop-append_seam b rest)

module _ {S E : Type 0} (asked : Asks S E) (c : ℕ) where
  filled : (last : Option SectionId) (s : S) (t u : Tree) (m : S) → walk_from asked c last s t ≡ accepted u m → Filled asked last s t u m
  filled last s t u m h =
      let a = agrees asked c last t in
      let b = answers asked s (visits_from last t) ++ [] in
      let i = inv (passed asked c s (moments_from last t b)) (λ xs k. accepted (fill t xs) k) (sym (a.same s []) ∙ h) in
      let g = given i.3 in
      let ran : run asked s (visits_from last t) ≡ accepted i.0 i.1 = ap (run asked s) (sym (a.visits_are b)) ∙ passed-run asked c s (moments_from last t b) i.0 i.1 i.2 in record {
        told = i.0;
        ran = ran ∙ ap (λ (k : S). accepted i.0 k) g.1;
        fills = λ more. a.steady i.0 more (run_length asked c s (visits_from last t) ran) ∙ g.0;
      }

  -- what the section hook is told first
  told_first : (last : Option SectionId) (s : S) (t : Tree) (n : ℕ) (m : S) → announced asked s last t ≡ accepted n m →
      (b : List ℕ) × (run asked s (before last t) ≡ accepted b m) × (length b ≡ length (before None t))
  told_first last s (Tree.row k t) n m h = told_first last s t n m h
  told_first last s (Tree.told k t) n m h = (n ∷ [], run_one asked s m (Section last (Some k)) n h, refl)
  told_first last s t n m h = ([], ap (λ (z : S). accepted [] z) (given h).1, refl)

  -- what the closing hook is told
  told_behind : (s : S) (t : Tree) (n : ℕ) (m : S) → followed asked s t ≡ accepted n m → (b : List ℕ) × (run asked s (behind t) ≡ accepted b m)
  told_behind s (Tree.row k t) n m h = told_behind s t n m h
  told_behind s (Tree.told k t) n m h = (n ∷ [], run_one asked s m (Closed k) n h)
  told_behind s t n m h = ([], ap (λ (z : S). accepted [] z) (given h).1)

-- ---- nothing is put

module _ {S A : Type 0} (put : Puts S A) (none : (s : S) (v : Visit) → MayAdd v → put s v ≡ []) where
  nothing_at : (visit : SectionId → Visit) → ((k : SectionId) → MayAdd (visit k)) → (s : S) (t : Tree) → put_at put visit s t ≡ []
  nothing_at visit may s (Tree.row k t) = nothing_at visit may s t
  nothing_at visit may s (Tree.told k t) = none s (visit k) (may k)
  nothing_at visit may s _ = refl

  pub nothing_before : (s : S) (last : Option SectionId) (t : Tree) → put_before put s last t ≡ []
  nothing_before s last t = nothing_at (λ k. Section last (Some k)) (λ k. tt) s t

  pub nothing_behind : (s : S) (t : Tree) → put_behind put s t ≡ []
  nothing_behind s t = nothing_at (λ k. Closed k) (λ k. tt) s t

module _ {S E : Type 0} (asked : Asks S E) (put : Puts S Tree) where
  one_section : (a : Step S (Error E) ℕ) (f : S → Step S (Error E) Tree) (b : S → Step S (Error E) ℕ) (more : S → List Tree) (g h : S → Step S (Error E) Tree) → ((n : S) → more n ≡ []) → ((m : S) → g m ≡ h m) →
      and_then (and_then a (λ _ m. and_then (f m) (λ u n. and_then (b n) (λ _ k. accepted (u ∷ more n) k)))) (λ us n. onto us (g n))
      ≡ and_then a (λ _ m. and_then (f m) (λ t n. and_then (b n) (λ _ l. and_then (h l) (λ u k. accepted (Tree.also t u) k))))
  one_section (refused e s) f b more g h none same = refl
  one_section (accepted i s) f b more g h none same = go (f s)
    where
      closing : (t : Tree) (n : S) (r : Step S (Error E) ℕ) →
          and_then (and_then r (λ _ k. accepted (t ∷ more n) k)) (λ us k. onto us (g k)) ≡ and_then r (λ _ l. and_then (h l) (λ u k. accepted (Tree.also t u) k))
      closing t n (refused e m) = refl
      closing t n (accepted j m) = rw (none n, same m) refl

      go : (r : Step S (Error E) Tree) → and_then (and_then r (λ u n. and_then (b n) (λ _ k. accepted (u ∷ more n) k))) (λ us n. onto us (g n))
          ≡ and_then r (λ t n. and_then (b n) (λ _ l. and_then (h l) (λ u k. accepted (Tree.also t u) k)))
      go (refused e m) = refl
      go (accepted t m) = closing t m (b m)

  pub weave_nothing : ((s : S) (v : Visit) → MayAdd v → put s v ≡ []) → (c : ℕ) (last : Option SectionId) (s : S) (t : Tree) → weave_from asked put c last s t ≡ walk_from asked c last s t
  weave_nothing none c last s (Tree.pair t u) =
      rw (weave_nothing none c None s t) (then_same (walk_from asked c None s t) _ _ (λ t' m. rw (weave_nothing none c None m u) refl))
  weave_nothing none c last s Tree.finish = then_same (asked s (Section last None)) _ _ (λ n m. rw (none s (Section last None) tt) refl)
  weave_nothing none c last s (Tree.also t u) =
      rw (nothing_before put none s last t)
      (one_section (announced asked s last t) (λ m. walk_from asked c None m t) (λ n. followed asked n t) (λ n. put_behind put n t) (λ n. weave_from asked put c (kind last t) n u)
      (λ n. walk_from asked c (kind last t) n u) (λ n. nothing_behind put none n t) (λ n. weave_nothing none c (kind last t) n u))
  weave_nothing none c last s t = refl

  -- ---- the ends

  one_section_ends : (a : Step S (Error E) ℕ) (front : List Tree) (f : S → Step S (Error E) Tree) (b : S → Step S (Error E) ℕ) (more : S → List Tree) (g h : S → Step S (Error E) Tree) → ((m : S) → ends (g m) ≡ ends (h m)) →
      ends (and_then (and_then a (λ _ m. and_then (f m) (λ u n. and_then (b n) (λ _ k. accepted (front ++ u ∷ more n) k)))) (λ us n. onto us (g n)))
      ≡ ends (and_then a (λ _ m. and_then (f m) (λ t n. and_then (b n) (λ _ l. and_then (h l) (λ u k. accepted (Tree.also t u) k)))))
  one_section_ends (refused e s) front f b more g h same = refl
  one_section_ends (accepted i s) front f b more g h same = go (f s)
    where
      closing : (t : Tree) (n : S) (r : Step S (Error E) ℕ) →
          ends (and_then (and_then r (λ _ k. accepted (front ++ t ∷ more n) k)) (λ us k. onto us (g k))) ≡ ends (and_then r (λ _ l. and_then (h l) (λ u k. accepted (Tree.also t u) k)))
      closing t n (refused e m) = refl
      closing t n (accepted j m) = ends_then (g m) (h m) _ _ (same m) (λ a b n. refl)

      go : (r : Step S (Error E) Tree) → ends (and_then (and_then r (λ u n. and_then (b n) (λ _ k. accepted (front ++ u ∷ more n) k))) (λ us n. onto us (g n)))
          ≡ ends (and_then r (λ t n. and_then (b n) (λ _ l. and_then (h l) (λ u k. accepted (Tree.also t u) k))))
      go (refused e m) = refl
      go (accepted t m) = closing t m (b m)

  weave_from_ends : (c : ℕ) (last : Option SectionId) (s : S) (t : Tree) → ends (weave_from asked put c last s t) ≡ ends (walk_from asked c last s t)
  weave_from_ends c last s (Tree.pair t u) =
      ends_then (weave_from asked put c None s t) (walk_from asked c None s t) _ _ (weave_from_ends c None s t)
      (λ a b m. ends_then (weave_from asked put c None m u) (walk_from asked c None m u) _ _ (weave_from_ends c None m u) (λ x y n. refl))
  weave_from_ends c last s Tree.finish = ends_then (asked s (Section last None)) (asked s (Section last None)) _ _ refl (λ a b m. refl)
  weave_from_ends c last s (Tree.also t u) =
      one_section_ends (announced asked s last t) (put_before put s last t) (λ m. walk_from asked c None m t) (λ n. followed asked n t) (λ n. put_behind put n t) (λ n. weave_from asked put c (kind last t) n u)
      (λ n. walk_from asked c (kind last t) n u) (λ n. weave_from_ends c (kind last t) n u)
  weave_from_ends c last s t = refl

  -- ---- the run

  pub record Wove (last : Option SectionId) (s : S) (t u : Tree) (m : S) : Type 0 where
    pub told : List ℕ
    pub ran : run asked s (visits_from last t) ≡ accepted told m
    pub wove : (more : List ℕ) → woven_from asked put last s t (told ++ more) ≡ u

  of_filled : {last : Option SectionId} {s m : S} {t u : Tree} → Filled asked last s t u m → ((xs : List ℕ) → woven_from asked put last s t xs ≡ fill t xs) → Wove last s t u m
  of_filled f same = record { told = f.told; ran = f.ran; wove = λ more. same (f.told ++ more) ∙ f.fills more }

  wove_pair : {s n k m : S} {last : Option SectionId} (t u t' u' v : Tree) → Wove None s t t' n → Wove None n u u' k →
      ◌≡◌ {A = Step S (Error E) Tree} (accepted (Tree.pair t' u') k) (accepted v m) → Wove last s (Tree.pair t u) v m
  wove_pair {s = s} {n = n} {k = k} {m = m} t u t' u' v p q h =
      let g = given h in
      let state : state_after (run asked s (visits_from None t)) ≡ n = ap state_after p.ran in record {
        told = p.told ++ q.told;
        ran = run_then asked s n m (visits_from None t) (visits_from None u) p.told q.told p.ran (q.ran ∙ ap (λ (k : S). accepted q.told k) g.1);
        wove = λ more. rw (append_assoc p.told q.told more, p.wove (q.told ++ more), after_own asked s n t p.told (q.told ++ more) p.ran, state, q.wove more) g.0;
      }

  wove_also : {s n k l j m : S} (last : Option SectionId) (t u t' u' v : Tree) → (b : List ℕ) × (run asked s (before last t) ≡ accepted b n) × (length b ≡ length (before None t)) →
      Filled asked None n t t' k → (d : List ℕ) × (run asked k (behind t) ≡ accepted d l) → Wove (kind last t) l u u' j →
      ◌≡◌ {A = Step S (Error E) Tree} (accepted (alsos (put_before put s last t ++ t' ∷ put_behind put k t) u') j) (accepted v m) → Wove last s (Tree.also t u) v m
  unfolding also_given
  wove_also {s = s} {n = n} {k = k} {l = l} {m = m} last t u t' u' v b p d q h =
      let g = given h in
      let front : List Tree = put_before put s last t in
      let others : List Visit = visits_from (kind last t) u in
      let whole : alsos front (Tree.also t' (alsos (put_behind put k t) u')) ≡ v = sym (alsos-append front (t' ∷ put_behind put k t) u') ∙ g.0 in
      let ran_u : run asked l others ≡ accepted q.told m = q.ran ∙ ap (λ (z : S). accepted q.told z) g.1 in
      let ran_behind : run asked k (behind t ++ others) ≡ accepted (d.0 ++ q.told) m = run_then asked k l m (behind t) others d.0 q.told d.1 ran_u in
      let inner : run asked n (visits_from None t ++ (behind t ++ others)) ≡ accepted (p.told ++ (d.0 ++ q.told)) m =
      run_then asked n k m (visits_from None t) (behind t ++ others) p.told (d.0 ++ q.told) p.ran ran_behind in
      let told : List ℕ = b.0 ++ (p.told ++ (d.0 ++ q.told)) in
      let ran : run asked s (visits_from last (Tree.also t u)) ≡ accepted told m =
      run_then asked s n m (before last t) (visits_from None t ++ (behind t ++ others)) b.0 (p.told ++ (d.0 ++ q.told)) b.1 inner in
      let r : AlsoRan asked s m last t u =
      also_given asked s k l m (b.0 ++ p.told) d.0 q.told last t u (run_then asked s n k (before last t) (visits_from None t) b.0 p.told b.1 p.ran) d.1 ran_u in record {
        told = told;
        ran = ran;
        wove = λ more.
            let own : drop (length (before None t)) (told ++ more) ≡ p.told ++ (d.0 ++ (q.told ++ more)) =
            rw (append_assoc b.0 (p.told ++ (d.0 ++ q.told)) more, ← b.2, drop-append_seam b.0 ((p.told ++ (d.0 ++ q.told)) ++ more))
            (append_assoc p.told (d.0 ++ q.told) more ∙ ap (λ (z : List ℕ). p.told ++ z) (append_assoc d.0 q.told more)) in
            rw (own, p.fills (d.0 ++ (q.told ++ more)), past_own asked n k l t p.told d.0 (q.told ++ more) p.ran d.1, r.at_is, r.from_is, q.wove more) whole;
      }

  wove_from : (c : ℕ) (last : Option SectionId) (s : S) (t u : Tree) (m : S) → weave_from asked put c last s t ≡ accepted u m → Wove last s t u m
  wove_from c last s (Tree.pair t u) v m h =
      let p = inv (weave_from asked put c None s t) _ h in
      let q = inv (weave_from asked put c None p.1 u) _ p.3 in
      wove_pair t u p.0 q.0 v (wove_from c None s t p.0 p.1 p.2) (wove_from c None p.1 u q.0 q.1 q.2) q.3
  wove_from c last s Tree.finish u m h =
      let a = inv (asked s (Section last None)) _ h in
      let g = given a.3 in record {
        told = a.0 ∷ [];
        ran = run_one asked s m (Section last None) a.0 (a.2 ∙ ap (λ (k : S). accepted a.0 k) g.1);
        wove = λ more. g.0;
      }
  wove_from c last s (Tree.also t u) v m h =
      let d = inv (woven_one asked put c last s t) _ h in
      let a = inv (announced asked s last t) _ d.2 in
      let p = inv (walk_from asked c None a.1 t) _ a.3 in
      let e = inv (followed asked p.1 t) _ p.3 in
      let made = given e.3 in
      let q = inv (weave_from asked put c (kind last t) d.1 u) _ d.3 in
      let rest = wove_from c (kind last t) d.1 u q.0 q.1 q.2 in
      let P : S → Type 0 = λ k. (b : List ℕ) × (run asked p.1 (behind t) ≡ accepted b k) in
      let closing : P d.1 = subst P made.1 (told_behind asked c p.1 t e.0 e.1 e.2) in
      wove_also last t u p.0 q.0 v (told_first asked c last s t a.0 a.1 a.2) (filled asked c None a.1 t p.0 p.1 p.2) closing rest (rw made.0 q.3)
  wove_from c last s t u m h = of_filled (filled asked c last s t u m h) (λ xs. refl)

  pub forth : (c : ℕ) (s m : S) (t u : Tree) → weave asked put c s t ≡ accepted u m → AcceptsWoven asked put c s t u m
  forth c s m t u h =
      let f = wove_from c None s t u m h in
      let w = ends_accepted (weave asked put c s t) (walk asked c s t) (weave_from_ends c None s t) h in
      let a = (walk_is_run asked).forth c s m t w.0 w.1 in
      let same : a.given ≡ f.told = (given (sym a.ran ∙ f.ran)).0 in
      let P : Tree → Type 0 = λ v. Fits v c in record {
        given = f.told;
        ran = f.ran;
        wove = ap (woven asked put s t) (sym (append-nil f.told)) ∙ f.wove [];
        fits = subst P (sym a.filled ∙ ap (fill t) same) a.fits;
      }

  pub back : (c : ℕ) (s m : S) (t u : Tree) (bytes : List ℕ) → Spelled t bytes → AcceptsWoven asked put c s t u m → weave asked put c s t ≡ accepted u m
  back c s m t u bytes p h =
      let walks = (walk_is_run asked).back c s m t (fill t h.given) bytes p (record { given = h.given; ran = h.ran; filled = refl; fits = h.fits }) in
      let w = ends_accepted (walk asked c s t) (weave asked put c s t) (sym (weave_from_ends c None s t)) walks in
      let a = forth c s m t w.0 w.1 in
      let same : a.given ≡ h.given = (given (sym a.ran ∙ h.ran)).0 in
      w.1 ∙ ap (λ (v : Tree). accepted v m) (sym a.wove ∙ ap (woven asked put s t) same ∙ h.wove)

  -- ---- spelled alike

  module _ (other : Puts S Tree) where
    abbrev Same : S → Visit → Type 0
    Same s v = map normal (put s v) ≡ map normal (other s v)

    put_alike : (visit : SectionId → Visit) (s : S) (t : Tree) → AtKind Same visit s t → map normal (put_at put visit s t) ≡ map normal (put_at other visit s t)
    put_alike visit s (Tree.row k t) alike = put_alike visit s t alike
    put_alike visit s (Tree.told k t) alike = alike
    put_alike visit s _ alike = refl

    pub woven_alike : (last : Option SectionId) (s m : S) (t : Tree) (told xs : List ℕ) → run asked s (visits_from last t) ≡ accepted told m → AtSections asked s (visits_from last t) Same →
        normal (woven_from asked put last s t xs) ≡ normal (woven_from asked other last s t xs)
    woven_alike last s m (Tree.pair t u) told xs ran alike =
        let r = run_parts asked s m (visits_from None t) (visits_from None u) told ran in
        let state : state_after (run asked s (visits_from None t)) ≡ r.1 = ap state_after r.3 in
        rw (woven_alike None s r.1 t r.0 xs r.3 (at_front asked Same s (visits_from None t) (visits_from None u) alike), state, woven_alike None r.1 m u r.2 (after t xs) r.4 (at_behind asked Same s r.1 r.0 (visits_from None t) (visits_from None u) r.3 alike)) refl
    woven_alike last s m Tree.finish told xs ran alike = alsos_alike (put s (Section last None)) (other s (Section last None)) Tree.finish Tree.finish (alike [] (Section last None) [] tt refl) refl
    woven_alike last s m (Tree.also t u) told xs ran alike =
        let own : List ℕ = drop (length (before None t)) xs in
        let r = also_ran asked s m last t u told ran in
        let hooks = also_hooks asked Same s m last t u r alike in
        let p : Tree = woven_from asked put (kind last t) r.from u (past t own) in
        let q : Tree = woven_from asked other (kind last t) r.from u (past t own) in
        let same : normal p ≡ normal q = woven_alike (kind last t) r.from m u r.others (past t own) r.others_ran (also_behind asked Same s m last t u r alike) in
        let closed : normal (alsos (put_behind put r.at t) p) ≡ normal (alsos (put_behind other r.at t) q) =
        alsos_alike (put_behind put r.at t) (put_behind other r.at t) p q (put_alike (λ k. Closed k) r.at t hooks.1) same in
        rw (r.at_is, r.from_is)
        (alsos_alike (put_before put s last t) (put_before other s last t) (Tree.also (fill t own) (alsos (put_behind put r.at t) p)) (Tree.also (fill t own) (alsos (put_behind other r.at t) q))
        (put_alike (λ k. Section last (Some k)) s t hooks.0) (ap (λ (z : List ℕ). normal (fill t own) ++ z) closed))
    woven_alike last s m t told xs ran alike = refl

-- ---- the laws

pub weave_of_nothing : {S E : Type 0} (asked : Asks S E) → WeaveOfNothing asked
weave_of_nothing asked put none c s t = weave_nothing asked put none c None s t

pub weave_ends : {S E : Type 0} (asked : Asks S E) → WeaveEnds asked
weave_ends asked put c s t = weave_from_ends asked put c None s t

pub weave_is_run : {S E : Type 0} (asked : Asks S E) → WeaveIsRun asked
weave_is_run asked = record { forth = forth asked; back = back asked }
