-- Where nothing that is added to nested modules is too large, what the walk over the sections of a component accepts is the answer.
use Rattle.std.proofs.Common.{◌≡◌, ◌≢◌, ◌+◌, ℕ, zero, suc, List, [], ◌∷◌, ◌++◌, Result, Ok, Err, refl, sym, ap, ◌∙◌, subst, append_assoc, ◌⊎◌, inl, inr}
use Rattle.wasm_shapes.specs.declared.Visit.{Visit}
use Rattle.wasm_shapes.specs.declared.Visit.TheVariants.{Push, Pop}
use Rattle.wasm_shapes.specs.Component.{component_tree}
use Rattle.wasm_shapes.specs.Module.{CoreReading, component_header, core_tree, numbered_frame}
use Rattle.wasm_shapes.specs.Rows.{rows_then}
use Rattle.wasm_shapes.specs.Tree.{Tree, normal, visits}
use Rattle.wasm_shapes.specs.Types.{rows_tree}
use Rattle.wasm_shapes.proofs.Laws.{module_headed}
use Rattle.wasm_write.specs.Sections.{SectionRow}
use Rattle.reencode_hooks.specs.declared.error.Error.{Error}
use Rattle.reencode_hooks.specs.declared.error.Error.TheVariants.{NoMemory}
use Rattle.reencode_hooks.specs.declared.indices.ReencodeIndices.{Ghosts}
use Rattle.reencode_hooks.specs.Hooks.{HasTooLarge}
use Rattle.reencode_hooks.specs.Run.{Step, accepted, refused, run}
use Rattle.reencode_core.specs.Clauses.{asks}
use Rattle.reencode_core.specs.Rows.{Asks}
use Rattle.reencode_core.specs.Weave.{Puts, added, weave}
use Rattle.reencode_core.specs.Woven.{AddsFit, GivesWovenBytes, OwnNext, OwnTooLarge}
use Rattle.reencode_core.proofs.weave.Completeness.{accepted_is_answered}
use Rattle.reencode_core.proofs.rows_walked.TypeGroup.{rows_then-both}
use Rattle.reencode_core.proofs.sections_walked.KnownKind.{some_begun}
use Rattle.reencode_core.proofs.after_error.VisitsMade.{run_state}
use Rattle.reencode_core.proofs.after_error.RowsVisited.{visits_more}
use Rattle.reencode_component.specs.Causes.{BehindFront, OwnInside, Stops, own_inside, room}
use Rattle.reencode_component.specs.ComponentClauses.{ComponentClauses}
use Rattle.reencode_component.specs.ComponentLaws.{AddsOrWants}
use Rattle.reencode_component.specs.Components.{ComponentReading, ReadsSection}
use Rattle.reencode_component.specs.WeaveIn.{weave_in}
use Rattle.reencode_component.specs.WovenIn.{WovenIsAnswered}
use Rattle.reencode_component.proofs.nested_binaries.NestedReadings.{component_forth, module_forth}
use Rattle.reencode_component.proofs.nested_binaries.NestedSteps.{core_same, headed_refused, nested_tree, walk_stopped}
use Rattle.reencode_component.proofs.sections_walked.SectionsAhead.{SectionsAhead, none_at_nil, section_of, sections_ahead, sections_of}
use Rattle.reencode_component.proofs.weave.ComponentWalk.{all_refused, weave_in_ran}
use Rattle.reencode_component.proofs.weave.WovenInLaws.{weave_in_is_run}

module _ {S E : Type 0} (asked : Asks S E) (adds : Puts S SectionRow) (c : ℕ) where
  -- ---- some of the visits

  fit_first : (s : S) (xs ys : List Visit) → AddsFit asked adds c s (xs ++ ys) → AddsFit asked adds c s xs
  fit_first s xs ys fit front v rest may parts = fit front v (rest ++ ys) may (ap (λ (z : List Visit). z ++ ys) parts ∙ append_assoc front (v ∷ rest) ys)

  fit_behind : (s n : S) (xs ys : List Visit) (told : List ℕ) → run asked s xs ≡ accepted told n → AddsFit asked adds c s (xs ++ ys) → AddsFit asked adds c n ys
  fit_behind s n xs ys told ran fit front v rest may parts =
      let Q : S → Type 0 = λ k. (size : ℕ) → ¬ HasTooLarge c (adds k v) size in
      subst Q (run_state asked s n xs front told ran) (fit (xs ++ front) v rest may (ap (λ (z : List Visit). xs ++ z) parts ∙ sym (append_assoc xs front (v ∷ rest))))

  -- those in a scope
  fit_inside : (s k : S) (vs : List Visit) → asked s Push ≡ accepted 0 k → AddsFit asked adds c s (Push ∷ vs ++ Pop ∷ []) → AddsFit asked adds c k vs
  fit_inside s k vs push fit =
      let ran : run asked s (Push ∷ []) ≡ accepted (0 ∷ []) k = rw push refl in
      fit_first k vs (Pop ∷ []) (fit_behind s k (Push ∷ []) (vs ++ Pop ∷ []) (0 ∷ []) ran fit)

  -- ---- where the walk goes on

  -- it is accepted
  abbrev Goes : S → Tree → Type 0
  Goes s t = (u : Tree) × (m : S) × (weave_in asked (added adds) c s t ≡ accepted u m)

  goes_not : (s m : S) (t : Tree) (e : Error E) → Goes s t → weave_in asked (added adds) c s t ≡ refused e m → ⊥
  goes_not s m t e g h = let both : ◌≡◌ {A = Step S (Error E) Tree} (accepted g.0 g.1) (refused e m) = sym g.2 ∙ h in cc

  goes : (s : S) (t : Tree) → ((e : Error E) (m : S) → weave_in asked (added adds) c s t ≡ refused e m → ⊥) → Goes s t
  goes s t never = by (weave_in asked (added adds) c s t) refl
    where
      by : (r : Step S (Error E) Tree) → weave_in asked (added adds) c s t ≡ r → Goes s t
      by (accepted u m) h = (u, m, h)
      by (refused e m) h = absurd (never e m h)

  -- ---- no section of the hook's own is too large

  -- in a core module
  own_never : (bytes : List ℕ) (t u : Tree) (s m : S) (e : Error E) → CoreReading bytes t → AddsFit asked adds c s (visits t) → weave asked (added adds) c s (core_tree t) ≡ accepted u m → OwnTooLarge asked adds c bytes s e → ⊥
  own_never bytes t u s m e r fit walks own =
      let given : GivesWovenBytes {A = Unit {0}} asked adds c bytes s m (Err e) (λ _. []) = record { reading = λ v p other. inl own; readable = tt; fits = tt; cause = inr own } in
      let P : Error E → Type 0 = λ z. OwnTooLarge asked adds c bytes s z in
      wanting (subst P (accepted_is_answered asked adds (λ _. []) c bytes s m (Err e) given (core_tree t) u m (module_headed.forth bytes t r) fit walks) own)
    where
      wanting : OwnTooLarge asked adds c bytes s NoMemory → ⊥
      wanting o = go o.own
        where
          go : OwnNext asked adds c o.front.last o.front.at o.front.rest NoMemory → ⊥
          go (inl q) = q.1
          go (inr (k, body, left, framed, inl x)) = x
          go (inr (k, body, left, framed, inr x)) = x.own

  -- behind sections that were accepted, where it holds of each that is read
  front_never : (depth : ℕ) (own : Stops S E) → ((f t : Tree) (s m : S) (e : Error E) → ReadsSection depth f t → AddsFit asked adds c s (visits t) → Goes s t → own f s m e → ⊥) →
      (bytes : List ℕ) (t : Tree) (s m : S) (e : Error E) → ComponentReading depth bytes t → AddsFit asked adds c s (visits t) → Goes s t → BehindFront asked adds c depth own bytes s m e → ⊥
  front_never depth own never bytes t s m e r fit g (front, framed) = let all = sections_of r in go all.0 all.1 (sections_ahead front.first all.2 (none_at_nil depth))
    where
      go : (read : List Tree) → t ≡ rows_tree read → SectionsAhead depth front.read front.rest read [] → ⊥
      go read q (SectionsAhead.same is empty) = some_begun framed.2 (sym empty)
      go read q (SectionsAhead.more u others left' is b) =
          let whole : t ≡ rows_then front.read (Tree.cons u (rows_tree others)) = q ∙ ap rows_tree is ∙ rows_then-both front.read (u ∷ others) Tree.nil in
          let G : Tree → Type 0 = λ z. Goes s z in
          let onward = goes front.at u (λ w k h.
          goes_not s k (rows_then front.read (Tree.cons u (rows_tree others))) w (subst G whole g) (all_refused asked (added adds) c s front.at k front.read front.made w u (rows_tree others) front.accepts h)) in
          let parts : visits t ≡ visits (rows_tree front.read) ++ (visits u ++ visits (rows_tree others)) = ap visits (q ∙ ap rows_tree is) ∙ visits_more front.read u others in
          let ran = weave_in_ran asked (added adds) c s front.at (rows_tree front.read) (rows_tree front.made) (front.accepts Tree.nil) in
          let F : List Visit → Type 0 = λ z. AddsFit asked adds c s z in
          let behind = fit_behind s front.at (visits (rows_tree front.read)) (visits u ++ visits (rows_tree others)) ran.0 ran.1 (subst F parts fit) in
          never framed.0 u front.at m e (section_of framed.2 b).0 (fit_first front.at (visits u) (visits (rows_tree others)) behind) onward framed.3

  inside_never : (scopes depth : ℕ) (f t : Tree) (s m : S) (e : Error E) → ReadsSection depth f t → AddsFit asked adds c s (visits t) → Goes s t → OwnInside asked adds c depth scopes f s m e → ⊥
  inside_never zero depth f t s m e r fit g h = h
  inside_never (suc scopes) depth f t s m e r fit g (id, body, is, k, push, inl (number, own)) =
      let R : Tree → Type 0 = λ z. ReadsSection depth z t in
      let q = module_forth depth body t (subst R (is ∙ ap (λ (z : ℕ). numbered_frame z body) number) r) in
      let F : Tree → Type 0 = λ z. AddsFit asked adds c s (visits z) in
      let G : Tree → Type 0 = λ z. Goes s z in
      let onward = goes k (core_tree q.0) (λ w n h. goes_not s n (nested_tree 1 (core_tree q.0)) w (subst G q.1 g) (walk_stopped asked (added adds) c s k n w 1 (core_tree q.0) push h)) in
      own_never body q.0 onward.0 k onward.1 e q.2 (fit_inside s k (visits q.0) push (subst F q.1 fit)) (sym (core_same asked (added adds) c k q.0 q.2) ∙ onward.2) own
  inside_never (suc scopes) depth f t s m e r fit g (id, body, is, k, push, inr (number, own)) =
      let R : Tree → Type 0 = λ z. ReadsSection depth z t in
      let q = component_forth depth body t (subst R (is ∙ ap (λ (z : ℕ). numbered_frame z body) number) r) in
      let F : Tree → Type 0 = λ z. AddsFit asked adds c s (visits z) in
      let G : Tree → Type 0 = λ z. Goes s z in
      let onward = goes k q.0 (λ w n h.
      goes_not s n (nested_tree 4 (component_tree q.0)) w (subst G q.1 g) (walk_stopped asked (added adds) c s k n w 4 (component_tree q.0) push (headed_refused asked (added adds) component_header c k n w q.0 h))) in
      front_never (depth + 1) (OwnInside asked adds c (depth + 1) scopes) (inside_never scopes (depth + 1)) body q.0 k m e q.2 (fit_inside s k (visits q.0) push (subst F q.1 fit)) onward own

pub woven_is_answered : {S E : Type 0} (i : Ghosts S E) → WovenIsAnswered i
woven_is_answered {S = S} {E = E} i depth bytes s m old new result g keeps out n w fit = go result g
  where
    walks : weave_in (asks i) (added i.adds) old.ceiling s w.tree ≡ accepted w.made n
    walks = (weave_in_is_run (asks i)).back (added i.adds) old.ceiling s n w.tree w.made w.reads.rest w.reads.spells.spelled w.accepts

    stops : (e : Error E) → BehindFront (asks i) i.adds old.ceiling depth (own_inside (asks i) i.adds old.ceiling depth) bytes s m e ⊎ (weave_in (asks i) (added i.adds) old.ceiling s w.tree ≡ refused e m) → ⊥
    stops e (inl own) =
        front_never (asks i) i.adds old.ceiling depth (own_inside (asks i) i.adds old.ceiling depth) (inside_never (asks i) i.adds old.ceiling (room depth) depth) bytes w.tree s m e w.reads fit (w.made, n, walks) own
    stops e (inr step) = let both : ◌≡◌ {A = Step S (Error E) Tree} (accepted w.made n) (refused e m) = sym walks ∙ step in cc

    only : (e : Error E) → (e ≢ NoMemory → BehindFront (asks i) i.adds old.ceiling depth (own_inside (asks i) i.adds old.ceiling depth) bytes s m e ⊎ (weave_in (asks i) (added i.adds) old.ceiling s w.tree ≡ refused e m)) →
        e ≡ NoMemory
    only NoMemory f = refl
    only e f = absurd (stops e (f (λ same. absurd cc)))

    go : (r : Result (Unit {0}) (Error E)) → ComponentClauses i depth bytes s old m new r → AddsOrWants out n old m new r
    go (Ok u) g =
        let q = (g.default keeps).reading w.tree w.reads in
        let both : ◌≡◌ {A = Step S (Error E) Tree} (accepted q.0 m) (accepted w.made n) = sym q.2 ∙ walks in
        let trees : q.0 ≡ w.made = cc in
        let states : m ≡ n = cc in (record { rows = q.1; gains = q.3; spelled = q.4 ∙ ap normal trees ∙ sym w.spelled }, states)
    go (Err e) g = only e ((g.default keeps).reading w.tree w.reads)
