-- A nested section, whatever stands in it: what the call that maps it gives at each of its ends.
use Rattle.std.proofs.Common.{◌≡◌, ◌≢◌, ◌+◌, ◌<◌, ◌≤◌, ℕ, suc, List, [], ◌∷◌, ◌++◌, length, Result, Ok, Err, IsErrAnd, IsTrue, refl, sym, ap, ◌∙◌, subst, arith, ◌⊎◌, inl, inr}
use Rattle.wasm_leb.specs.declared.fault.Fault.{Fault}
use Rattle.wasm_leb.specs.declared.fault.Fault.TheVariants as fault
use Rattle.wasm_leb.specs.declared.fault.Kind.TheVariants as kinds
use Rattle.wasm_shapes.specs.declared.Visit.{Visit}
use Rattle.wasm_shapes.specs.declared.Visit.TheVariants.{Push, Pop}
use Rattle.wasm_shapes.specs.Component.{component_body_of}
use Rattle.wasm_shapes.specs.Drawn.{Drawn}
use Rattle.wasm_shapes.specs.Module.{numbered_frame}
use Rattle.wasm_shapes.specs.Shape.{Shape}
use Rattle.wasm_shapes.specs.Tree.{Tree, normal, visits}
use Rattle.wasm_shapes.proofs.Drawn.{drawn_joined, drawn_push, drawn_scope}
use Rattle.wasm_write.specs.declared.fault.WriteFault.{WriteFault}
use Rattle.wasm_write.specs.declared.fault.WriteFault.TheVariants as write
use Rattle.wasm_write.specs.Faults.{IfTooLarge}
use Rattle.wasm_write.specs.Sections.{Sections, section_bytes, section_row, with_section}
use Rattle.reencode_hooks.specs.declared.error.Error.{Error}
use Rattle.reencode_hooks.specs.declared.error.Error.TheVariants.{CanonicalizedHeapTypeReference, InvalidConstExpr, InvalidCodeSectionSize, UnexpectedNonCoreModuleSection, UnexpectedNonComponentSection, UnsupportedCoreTypeInComponent, ParseError, UserError, TooLarge, NoMemory}
use Rattle.reencode_hooks.specs.declared.indices.ReencodeIndices.{Ghosts}
use Rattle.reencode_hooks.specs.Errors.{error_of_write}
use Rattle.reencode_hooks.specs.Run.{NeverWants, accepted, refused, run}
use Rattle.reencode_hooks.specs.SectionVisits.{section_visits}
use Rattle.reencode_core.specs.Clauses.{asks}
use Rattle.reencode_core.specs.Errors.{IfRefused, placed_at}
use Rattle.reencode_core.specs.Leaves.{IsSize, TellsFault, Text}
use Rattle.reencode_core.specs.Weave.{added}
use Rattle.reencode_core.specs.Woven.{AddsFit}
use Rattle.reencode_core.proofs.weave.AdditionsFit.{fits_both, fits_none}
use Rattle.reencode_core.proofs.rows_walked.SmallCounts.{run_then}
use Rattle.reencode_core.proofs.sections_walked.KnownKind.{keeps_same}
use Rattle.reencode_core.proofs.after_error.VisitsMade.{Unasked, ended_all, ended_behind, front_all, front_first, front_same, front_then, not_wanting, wants_placed}
use Rattle.reencode_core.proofs.rows_walked.OneRow.{answers}
use Rattle.reencode_component.specs.Causes.{FitsInside, FitsPushed, IfFault, OwnInside, StopsNested, fits_inside, inside, own_inside, room}
use Rattle.reencode_component.specs.ComponentLeaves.{ComponentMade, LeavesScopes, LeavesSection, SectionUpTo, StaysOpen}
use Rattle.reencode_component.specs.Components.{IsHandedOut, NestedFault, ReadsSection}
use Rattle.reencode_component.specs.Gives.{FaultIn, GivesAddedIn, GivesSection, RefusedOr}
use Rattle.reencode_component.specs.NestedClauses.{Inner, NestedClauses}
use Rattle.reencode_component.specs.WeaveIn.{weave_in}
use Rattle.reencode_component.proofs.sections_walked.EachSection.{frame_wanted, no_up_to, not_read, section_placed}
use Rattle.reencode_component.proofs.faults.OneFault.{nested_one}
use Rattle.reencode_component.proofs.nested_binaries.NestedSteps.{nested_tree, walk_fits, walk_large, walk_stopped}
use Rattle.reencode_component.proofs.weave.ComponentWalk.{weave_in_ran}

-- the scopes that may still be opened, with one more open
pub next_room : (depth : ℕ) → depth < 200 → suc (room (depth + 1)) ≡ room depth
next_room depth h = omega (arith, h)

-- What stands in the frame of a nested section of an id: a scope, in it a header, and behind that what its bytes are read as.
pub record IsNested (depth id : ℕ) (head : Tree → Tree) (text : Text) : Type 0 where
  pub forth : (t : Tree) → ReadsSection depth (numbered_frame id text.bytes) t → (u : Tree) × (t ≡ nested_tree id (head u)) × text.reads u
  pub back : (u : Tree) → text.reads u → ReadsSection depth (numbered_frame id text.bytes) (nested_tree id (head u))
  pub one : (u v : Tree) → text.reads u → text.reads v → u ≡ v
  pub headed : (u : Tree) → visits (head u) ≡ visits u
  pub drawn : (u : Tree) → text.reads u → Drawn text.bytes (visits u)
  pub no_rows : (row : Shape) → component_body_of id ≡ Shape.vec row → ⊥

-- ---- errors

pub fault_map : {E : Type 0} {P Q : Fault → Type 0} (e : Error E) → ((x : Fault) → P x → Q x) → IfFault e P → IfFault e Q
fault_map (ParseError x) f h = f (fault.Read x) h
fault_map InvalidCodeSectionSize f h = f fault.CodeSize h
fault_map UnexpectedNonCoreModuleSection f h = f (fault.Header kinds.Component) h
fault_map UnexpectedNonComponentSection f h = f (fault.Header kinds.Module) h
fault_map (UserError x) f h = h
fault_map (TooLarge x) f h = h
fault_map NoMemory f h = h
fault_map CanonicalizedHeapTypeReference f h = h
fault_map InvalidConstExpr f h = h
fault_map UnsupportedCoreTypeInComponent f h = h

size_placed : {E : Type 0} (e : Error E) (at : ℕ) → IsSize e → IsSize (placed_at e at)
size_placed (TooLarge x) at h = h
size_placed _ at h = absurd h

module _ {S E : Type 0} (i : Ghosts S E) (depth id : ℕ) (inner : Inner S E) where
  abbrev body : List ℕ
  body = inner.text.bytes

  abbrev reads : Tree → Type 0
  reads u = inner.text.reads u

  abbrev frame_tree : Tree
  frame_tree = numbered_frame id body

  abbrev Clauses : S → Sections → S → Sections → Result (Unit {0}) (Error E) → Type 0
  Clauses s old m new r = NestedClauses i depth id inner s old m new r

  -- ---- before the push

  -- no further scope may be opened
  pub nested_deep : 200 ≤ depth → ((t : Tree) → ReadsSection depth frame_tree t → ⊥) → ((row : Shape) → component_body_of id ≡ Shape.vec row → ⊥) → (s : S) (old : Sections) →
      Clauses s old s old (Err (ParseError (record { at = 0 })))
  nested_deep deep none no_rows s old = record {
    framed = λ at. not_read i depth frame_tree none unnested (no_up_to depth id body no_rows) at s old (fitting (ParseError (record { at = at })));
    unchanged = refl;
    cause = λ k low. absurd (omega (arith, deep, low));
    inside = λ k low. absurd (omega (arith, deep, low));
    deep = λ e. (refl, refl, refl);
  }
    where
      unnested : (x : Fault) → NestedFault depth (room depth) frame_tree x → ⊥
      unnested x h = let last : room depth ≡ 0 = omega (arith, deep) in let P : ℕ → Type 0 = λ z. NestedFault depth z frame_tree x in subst P last h

      fitting : (e : Error E) → fits_inside (asks i) i.adds old.ceiling depth frame_tree s s e
      fitting e = let last : 0 ≡ room depth = omega (arith, deep) in let P : ℕ → Type 0 = λ z. FitsInside (asks i) i.adds old.ceiling depth z frame_tree s s e in subst P last tt

  -- memory ran out before
  pub nested_unmade : depth < 200 → (s : S) (old : Sections) (r : Result (Unit {0}) (Error E)) → IsErrAnd r (λ y. y ≡ NoMemory) → Clauses s old s old r
  nested_unmade low s old r q = let P : Result (Unit {0}) (Error E) → Type 0 = λ z. Clauses s old s old z in subst P (answers r q) (record {
    framed = λ at. frame_wanted i depth frame_tree at s old;
    unchanged = refl;
    cause = λ k low. inl refl;
    inside = λ k low none told size. inl (refl, refl);
    deep = λ e. absurd (omega (arith, low, e));
  })

  -- it was not opened
  pub nested_unopened : depth < 200 → (s m : S) (old : Sections) (e : Error E) → e ≡ NoMemory → NeverWants {A = Unit {0}} i.sure (Err e) → (r : Result (Unit {0}) (Error E)) → IsErrAnd r (λ y. y ≡ e) → Clauses s old m old r
  nested_unopened low s m old e wants never r q =
      let P : Result (Unit {0}) (Error E) → Type 0 = λ z. Clauses s old m old z in
      let Q : Error E → Type 0 = λ z. Clauses s old m old (Err z) in
      subst P (answers r q) (subst Q (sym wants) (record {
        framed = λ at. record {
          kept = keeps_same old;
          default = λ k. record { reading = λ t r other. absurd (other refl); readable = tt; fits = tt; fits_before = λ other. absurd (other refl); unreadable = tt; refusal = tt; unchanged = refl };
          after_error = λ k told size. absurd (not_wanting e never (λ h. told refl) wants);
        };
        unchanged = refl;
        cause = λ k low. inl refl;
        inside = λ k low none told size. absurd (not_wanting e never (λ h. told refl) wants);
        deep = λ e. absurd (omega (arith, low, e));
      }))

  -- ---- behind the push

  -- What is known where what stands in the scope was refused, or has no reading.
  pub record Refuses (head : Tree → Tree) (ceiling : ℕ) (s p m : S) (e : Error E) : Type 0 where
    pub walks : (u : Tree) → reads u → e ≢ NoMemory → OwnInside (asks i) i.adds ceiling depth (room depth) frame_tree s m e ⊎ (weave_in (asks i) (added i.adds) ceiling p (head u) ≡ refused e m)
    pub unread : IfFault e (λ x. ((u : Tree) → reads u → ⊥) × NestedFault depth (room depth) frame_tree x)
    pub cause : inner.cause ceiling p m e
    pub why : StopsNested (asks i) i.adds ceiling depth (room depth) frame_tree s m e
    pub fits : e ≢ NoMemory → OwnInside (asks i) i.adds ceiling depth (suc (room (depth + 1))) frame_tree s m e
        ⊎ FitsPushed (asks i) i.adds ceiling (depth + 1) (fits_inside (asks i) i.adds ceiling (depth + 1)) (own_inside (asks i) i.adds ceiling (depth + 1)) frame_tree s m e
    pub left : (e ≡ NoMemory → IsTrue i.sure) → (IsSize e → IsTrue i.adds_nothing) → LeavesScopes (asks i) inner.text inner.scopes p e m
    pub below : id ≡ 4 → (made : List Visit) → inner.scopes e made → ComponentMade (depth + 1) body e made
    pub bare : inner.headless → m ≡ p

  -- What is known where all of it was mapped: the bytes of the new one.
  pub record Accepts (head : Tree → Tree) (ceiling : ℕ) (p m : S) (contents : List ℕ) : Type 0 where
    pub walks : (u : Tree) → reads u → (v : Tree) × (weave_in (asks i) (added i.adds) ceiling p (head u) ≡ accepted v m) × (contents ≡ normal v)
    pub some : (u : Tree) × reads u
    pub fits : (u : Tree) → reads u → AddsFit (asks i) i.adds ceiling p (visits u)

  module _ {head : Tree → Tree} (low : depth < 200) (kind : IsNested depth id head inner.text) (s p : S) (old : Sections) (pushed : asks i s Push ≡ accepted 0 p) where
    push_ran : run (asks i) s (Push ∷ []) ≡ accepted (0 ∷ []) p
    push_ran = rw pushed refl

    no_reading : ((u : Tree) → reads u → ⊥) → (t : Tree) → ReadsSection depth frame_tree t → ⊥
    no_reading none t r = let q = kind.forth t r in none q.0 q.2

    -- the visits of a reading
    visits_are : (t u : Tree) → t ≡ nested_tree id (head u) → Push ∷ visits u ++ Pop ∷ [] ≡ visits t
    visits_are t u e = ap (λ (z : List Visit). Push ∷ z ++ Pop ∷ []) (sym (kind.headed u)) ∙ sym (ap visits e)

    module _ {m : S} (e : Error E) (g : IsTrue i.keeps_defaults → Refuses head old.ceiling s p m e) where
      walk_refused : IsTrue i.keeps_defaults → (t : Tree) → ReadsSection depth frame_tree t →
          RefusedOr (own_inside (asks i) i.adds old.ceiling depth frame_tree s m) (weave_in (asks i) (added i.adds) old.ceiling s t) e m
      walk_refused k t r other = let q = kind.forth t r in by q.0 q.1 ((g k).walks q.0 q.2 other)
        where
          by : (u : Tree) → t ≡ nested_tree id (head u) →
              OwnInside (asks i) i.adds old.ceiling depth (room depth) frame_tree s m e ⊎ (weave_in (asks i) (added i.adds) old.ceiling p (head u) ≡ refused e m) →
              OwnInside (asks i) i.adds old.ceiling depth (room depth) frame_tree s m e ⊎ (weave_in (asks i) (added i.adds) old.ceiling s t ≡ refused e m)
          by u is (inl x) = inl x
          by u is (inr h) =
              let W : Tree → Type 0 = λ z. weave_in (asks i) (added i.adds) old.ceiling s z ≡ refused e m in
              inr (subst W (sym is) (walk_stopped (asks i) (added i.adds) old.ceiling s p m e id (head u) pushed h))

      given : (at : ℕ) (w : Error E) → ((t : Tree) → ReadsSection depth frame_tree t → RefusedOr (own_inside (asks i) i.adds old.ceiling depth frame_tree s m) (weave_in (asks i) (added i.adds) old.ceiling s t) w m) →
          IfFault w (λ x. ((t : Tree) → ReadsSection depth frame_tree t → ⊥) × FaultIn (NestedFault depth (room depth) frame_tree) at x) →
          IfRefused w (((t : Tree) × ReadsSection depth frame_tree t) ⊎ inside (asks i) i.adds old.ceiling depth frame_tree s m w) → IsTrue i.keeps_defaults → w ≡ placed_at e at →
          GivesSection (asks i) i.adds depth frame_tree at (s, old) (m, old) (Err w)
      given at w reading unreadable refusal k placed = record { reading = reading; readable = tt; fits = tt; fits_before = fitting; unreadable = unreadable; refusal = refusal; unchanged = refl }
        where
          told : (v : Error E) → v ≡ NoMemory → placed_at v at ≡ NoMemory
          told v is = ap (λ (z : Error E). placed_at z at) is

          fitting : w ≢ NoMemory → fits_inside (asks i) i.adds old.ceiling depth frame_tree s m w
          fitting other =
              let P : ℕ → Type 0 = λ z. FitsInside (asks i) i.adds old.ceiling depth z frame_tree s m w in
              subst P (next_room depth low) (λ n. inl (e, at, placed, (g k).fits (λ is. other (placed ∙ told e is))))

    -- an error of the section at its place
    gives_refused : {m : S} (e : Error E) → IsTrue i.keeps_defaults → Refuses head old.ceiling s p m e → (at : ℕ) → GivesSection (asks i) i.adds depth frame_tree at (s, old) (m, old) (Err (placed_at e at))
    gives_refused (ParseError x) k g at =
        let none = no_reading g.unread.0 in
        given (ParseError x) (λ _. g) at (ParseError (record { at = at })) (λ t r. absurd (none t r))
        (none, (refl, λ y handed q. subst IsHandedOut (nested_one depth (room depth) frame_tree y (fault.Read x) q g.unread.1) handed)) tt k refl
    gives_refused InvalidCodeSectionSize k g at =
        given InvalidCodeSectionSize (λ _. g) at InvalidCodeSectionSize (walk_refused InvalidCodeSectionSize (λ _. g) k) (no_reading g.unread.0, (tt, g.unread.1)) tt k refl
    gives_refused UnexpectedNonCoreModuleSection k g at =
        given UnexpectedNonCoreModuleSection (λ _. g) at UnexpectedNonCoreModuleSection (walk_refused UnexpectedNonCoreModuleSection (λ _. g) k)
        (no_reading g.unread.0, (tt, g.unread.1)) tt k refl
    gives_refused UnexpectedNonComponentSection k g at =
        given UnexpectedNonComponentSection (λ _. g) at UnexpectedNonComponentSection (walk_refused UnexpectedNonComponentSection (λ _. g) k)
        (no_reading g.unread.0, (tt, g.unread.1)) tt k refl
    gives_refused (UserError x) k g at = given (UserError x) (λ _. g) at (UserError x) (walk_refused (UserError x) (λ _. g) k) tt (inr (inr (inr g.why))) k refl
    gives_refused (TooLarge x) k g at = given (TooLarge x) (λ _. g) at (TooLarge x) (walk_refused (TooLarge x) (λ _. g) k) tt (inr (inr (inr g.why))) k refl
    gives_refused NoMemory k g at = given NoMemory (λ _. g) at NoMemory (walk_refused NoMemory (λ _. g) k) tt tt k refl
    gives_refused CanonicalizedHeapTypeReference k g at = absurd g.unread
    gives_refused InvalidConstExpr k g at = absurd g.unread
    gives_refused UnsupportedCoreTypeInComponent k g at = absurd g.unread

    -- the push, and the visits behind it
    pushed_leaves : {m : S} (e : Error E) → (id ≡ 4 → (made : List Visit) → inner.scopes e made → ComponentMade (depth + 1) body e made) → LeavesScopes (asks i) inner.text inner.scopes p e m →
        LeavesSection (asks i) depth frame_tree s e m
    pushed_leaves e below l = record {
      leaves = record {
        made = Push ∷ l.leaves.made;
        ended = ended_behind (asks i) e (Push ∷ []) l.leaves.made push_ran l.leaves.ended;
        drawn = drawn_joined body (Push ∷ []) l.leaves.made drawn_push l.leaves.drawn;
        reading = λ t r. let q = kind.forth t r in front_same (visits_are t q.0 q.1) (front_then (Push ∷ []) (front_first (Pop ∷ []) (l.leaves.reading q.0 q.2)));
        fault = λ none t rest x. absurd (no_up_to depth id body kind.no_rows t rest x);
      };
      unread = λ none. let P : ℕ → Type 0 = λ z. StaysOpen (TellsFault e) depth z frame_tree (Push ∷ l.leaves.made) in subst P (next_room depth low) (stays none);
    }
      where
        stays : ((t : Tree) → ReadsSection depth frame_tree t → ⊥) → StaysOpen (TellsFault e) depth (suc (room (depth + 1))) frame_tree (Push ∷ l.leaves.made)
        stays none = λ id' body' is nested.
            let number : id ≡ id' = cc in
            let same : body ≡ body' = cc in
            let D : List ℕ → Type 0 = λ z. Drawn z l.leaves.made in
            let M : List ℕ → Type 0 = λ z. ComponentMade (depth + 1) z e l.leaves.made in
            inr (l.leaves.made, refl, subst D same l.leaves.drawn, λ four. subst M same (below (number ∙ four) l.leaves.made (l.unread (λ u r. none _ (kind.back u r)))))

    pub nested_refused : {m : S} (e : Error E) → (IsTrue i.keeps_defaults → Refuses head old.ceiling s p m e) → (r : Result (Unit {0}) (Error E)) → IsErrAnd r (λ y. y ≡ e) → Clauses s old m old r
    nested_refused {m = m} e g r q = let P : Result (Unit {0}) (Error E) → Type 0 = λ z. Clauses s old m old z in subst P (answers r q) (record {
      framed = λ at. record {
        kept = keeps_same old;
        default = λ k. gives_refused e k (g k) at;
        after_error = λ k told size. section_placed depth frame_tree e at (pushed_leaves e (g k).below ((g k).left (λ h. told (wants_placed e at h)) (λ h. size (size_placed e at h))));
      };
      unchanged = refl;
      cause = λ k low. inr (inr (record { at = p; push = pushed; inside = (g k).cause }));
      inside = λ k low none told size. inr (record { at = p; push = pushed; inside = ((g k).left told size, (g k).bare) });
      deep = λ h. absurd (omega (arith, low, h));
    })

    module _ {m n : S} (contents : List ℕ) (g : IsTrue i.keeps_defaults → Accepts head old.ceiling p m contents) (popped : asks i m Pop ≡ accepted 0 n) where
      -- all its visits were made
      all_ran : (u : Tree) (a : List ℕ) → run (asks i) p (visits u) ≡ accepted a m → run (asks i) s (Push ∷ visits u ++ Pop ∷ []) ≡ accepted ((0 ∷ []) ++ (a ++ 0 ∷ [])) n
      all_ran u a h =
          let pop_ran : run (asks i) m (Pop ∷ []) ≡ accepted (0 ∷ []) n = rw popped refl in
          run_then (asks i) s p n (Push ∷ []) (visits u ++ Pop ∷ []) (0 ∷ []) (a ++ 0 ∷ []) push_ran (run_then (asks i) p m n (visits u) (Pop ∷ []) a (0 ∷ []) h pop_ran)

      -- all that was added in it fits
      all_fit : IsTrue i.keeps_defaults → (t : Tree) → ReadsSection depth frame_tree t → AddsFit (asks i) i.adds old.ceiling s (visits t)
      all_fit k t r =
          let q = kind.forth t r in
          let w = (g k).walks q.0 q.2 in
          let ran = weave_in_ran (asks i) (added i.adds) old.ceiling p m (head q.0) w.0 w.1 in
          let R : List Visit → Type 0 = λ z. run (asks i) p z ≡ accepted ran.0 m in
          let F : List Visit → Type 0 = λ z. AddsFit (asks i) i.adds old.ceiling s z in
          let none : (k : S) (v : Visit) → section_visits (v ∷ []) ≡ [] → AddsFit (asks i) i.adds old.ceiling k (v ∷ []) = λ k v n. fits_none (asks i) i.adds old.ceiling k (v ∷ []) n in
          let inner : AddsFit (asks i) i.adds old.ceiling p (visits q.0 ++ Pop ∷ []) =
          fits_both (asks i) i.adds old.ceiling p m ran.0 (visits q.0) (Pop ∷ []) (subst R (kind.headed q.0) ran.1) ((g k).fits q.0 q.2) (none m Pop refl) in
          subst F (visits_are t q.0 q.1) (fits_both (asks i) i.adds old.ceiling s p (0 ∷ []) (Push ∷ []) (visits q.0 ++ Pop ∷ []) push_ran (none s Push refl) inner)

      fitting : IsTrue i.keeps_defaults → (e : Error E) → fits_inside (asks i) i.adds old.ceiling depth frame_tree s n e
      fitting k e =
          let t : Tree = nested_tree id (head (g k).some.0) in
          let there : ReadsSection depth frame_tree t = kind.back (g k).some.0 (g k).some.1 in
          let P : ℕ → Type 0 = λ z. FitsInside (asks i) i.adds old.ceiling depth z frame_tree s n e in
          subst P (next_room depth low) (λ h. inr (t, there, all_fit k t there))

      popped_leaves : IsTrue i.keeps_defaults → (e : Error E) → Unasked e → LeavesSection (asks i) depth frame_tree s e n
      popped_leaves k e unasked =
          let t = (g k).some in
          let w = (g k).walks t.0 t.1 in
          let ran = weave_in_ran (asks i) (added i.adds) old.ceiling p m (head t.0) w.0 w.1 in
          let R : List Visit → Type 0 = λ z. run (asks i) p z ≡ accepted ran.0 m in
          record {
            leaves = record {
              made = Push ∷ visits t.0 ++ Pop ∷ [];
              ended = ended_all e unasked (all_ran t.0 ran.0 (subst R (kind.headed t.0) ran.1));
              drawn = drawn_scope t.0 (kind.drawn t.0 t.1);
              reading = λ u r. front_same (visits_are (nested_tree id (head t.0)) t.0 refl ∙ ap visits (one u r)) (front_all (Push ∷ visits t.0 ++ Pop ∷ []));
              fault = λ none u rest x. absurd (no_up_to depth id body kind.no_rows u rest x);
            };
            unread = λ none. absurd (none _ (kind.back t.0 t.1));
          }
        where
          one : (u : Tree) → ReadsSection depth frame_tree u → nested_tree id (head (g k).some.0) ≡ u
          one u r = let q = kind.forth u r in ap (λ (z : Tree). nested_tree id (head z)) (kind.one (g k).some.0 q.0 (g k).some.1 q.2) ∙ sym q.1

      pub nested_added : {new : Sections} → new ≡ with_section old (section_row id contents) → length contents ≤ old.ceiling → Clauses s old n new (Ok tt)
      nested_added {new = new} is fits = record {
        framed = λ at. record {
          kept = (section_row id contents ∷ [], is);
          default = λ k. record {
            reading = λ t r. let q = kind.forth t r in by k t q.0 q.1 q.2;
            readable = (_, kind.back (g k).some.0 (g k).some.1);
            fits = λ t r. all_fit k t r;
            fits_before = tt;
            unreadable = tt;
            refusal = tt;
            unchanged = tt;
          };
          after_error = λ k. tt;
        };
        unchanged = tt;
        cause = λ k low. tt;
        inside = λ k low none. tt;
        deep = λ h. absurd (omega (arith, low, h));
      }
        where
          by : IsTrue i.keeps_defaults → (t u : Tree) → t ≡ nested_tree id (head u) → reads u →
              GivesAddedIn (asks i) i.adds (own_inside (asks i) i.adds old.ceiling depth frame_tree s n) (s, old) t (n, new) (Ok tt)
          by k t u e r =
              let w = (g k).walks u r in
              let few : length (normal w.0) ≤ old.ceiling = let l = fits in rw (← w.2) l in
              let W : Tree → Type 0 = λ z. weave_in (asks i) (added i.adds) old.ceiling s z ≡ accepted (nested_tree id w.0) n in (
                nested_tree id w.0,
                section_row id contents,
                subst W (sym e) (walk_fits (asks i) (added i.adds) old.ceiling s p m n id (head u) w.0 pushed w.1 popped few),
                is,
                ap (λ (z : List ℕ). section_bytes (section_row id z)) w.2,
              )

      pub nested_large : {new : Sections} → new ≡ old → (w : WriteFault) → IfTooLarge w (λ size. (size ≡ length contents) × (old.ceiling < size)) → (r : Result (Unit {0}) (Error E)) →
          IsErrAnd r (λ y. y ≡ error_of_write w) → Clauses s old n new r
      nested_large {new = new} is w h r q =
          let P : Result (Unit {0}) (Error E) → Type 0 = λ z. Clauses s old n new z in
          let Q : Sections → Type 0 = λ z. Clauses s old n z (Err (error_of_write w)) in
          subst P (answers r q) (subst Q (sym is) (of_fault w h))
        where
          by : IsTrue i.keeps_defaults → (size : ℕ) → size ≡ length contents → old.ceiling < size → (t u : Tree) → t ≡ nested_tree id (head u) → reads u →
              weave_in (asks i) (added i.adds) old.ceiling s t ≡ refused (TooLarge size) n
          by k size is above t u e r =
              let w = (g k).walks u r in
              let sized : size ≡ length (normal w.0) = is ∙ ap length w.2 in
              let above : old.ceiling < length (normal w.0) = let l = above in rw (← sized) l in
              let W : Tree → Type 0 = λ z. weave_in (asks i) (added i.adds) old.ceiling s z ≡ refused (TooLarge size) n in
              subst W (sym e) (walk_large (asks i) (added i.adds) old.ceiling s p m n id (head u) w.0 pushed w.1 popped above ∙ ap (λ (z : ℕ). refused (TooLarge z) n) (sym sized))

          of_fault : (w : WriteFault) → IfTooLarge w (λ size. (size ≡ length contents) × (old.ceiling < size)) → Clauses s old n old (Err (error_of_write w))
          of_fault (write.TooLarge size) h = record {
            framed = λ at. record {
              kept = keeps_same old;
              default = λ k. record {
                reading = λ t r other. let q = kind.forth t r in inr (by k size h.0 h.1 t q.0 q.1 q.2);
                readable = tt;
                fits = tt;
                fits_before = λ other. fitting k (TooLarge size);
                unreadable = tt;
                refusal = inl (_, kind.back (g k).some.0 (g k).some.1);
                unchanged = refl;
              };
              after_error = λ k told size. popped_leaves k _ tt;
            };
            unchanged = refl;
            cause = λ k low. let t = (g k).some in inr (inl (tt, _, kind.back t.0 t.1, by k size h.0 h.1 _ t.0 refl t.1));
            inside = λ k low none. absurd (none _ (kind.back (g k).some.0 (g k).some.1));
            deep = λ h. absurd (omega (arith, low, h));
          }
          of_fault write.NoMemory h = record {
            framed = λ at. record {
              kept = keeps_same old;
              default = λ k. record { reading = λ t r other. absurd (other refl); readable = tt; fits = tt; fits_before = λ other. absurd (other refl); unreadable = tt; refusal = tt; unchanged = refl };
              after_error = λ k told size. popped_leaves k NoMemory tt;
            };
            unchanged = refl;
            cause = λ k low. inl refl;
            inside = λ k low none. absurd (none _ (kind.back (g k).some.0 (g k).some.1));
            deep = λ h. absurd (omega (arith, low, h));
          }
