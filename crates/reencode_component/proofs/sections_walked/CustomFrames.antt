-- A custom section of a component in its frame, by what the call that maps it gives.
use Rattle.std.proofs.Common.{◌≡◌, ◌+◌, ◌≤◌, max, zero, suc, ℕ, List, Result, Ok, Err, true, refl, sym, ap, ◌∙◌, subst, arith, ◌⊎◌, inl, inr}
use Rattle.wasm_leb.specs.declared.fault.Fault.{Fault}
use Rattle.wasm_shapes.specs.Component.{component_name_subsection, component_names, component_names_name, component_section_tree}
use Rattle.wasm_shapes.specs.ComponentNames.{Sort, is_sort, led_by, sort_of}
use Rattle.wasm_shapes.specs.ComponentReadings.{InComponentFrame, ReadsComponentContents}
use Rattle.wasm_shapes.specs.Depth.{opens}
use Rattle.wasm_shapes.specs.Module.{custom_frame, naming_row, numbered_frame}
use Rattle.wasm_shapes.specs.Shape.{Shape}
use Rattle.wasm_shapes.specs.Spells.{Is, Spelled}
use Rattle.wasm_shapes.specs.Tree.{Tree}
use Rattle.wasm_shapes.proofs.Unscoped.{unscoped_is}
use Rattle.wasm_read_component.proofs.ComponentSubsections.{of_sort}
use Rattle.wasm_write.specs.Sections.{Sections, section_row}
use Rattle.reencode_hooks.specs.declared.error.Error.{Error}
use Rattle.reencode_hooks.specs.declared.error.Error.TheVariants.{CanonicalizedHeapTypeReference, InvalidConstExpr, InvalidCodeSectionSize, UnexpectedNonCoreModuleSection, UnexpectedNonComponentSection, UnsupportedCoreTypeInComponent, ParseError, UserError, TooLarge, NoMemory}
use Rattle.reencode_hooks.specs.declared.indices.ReencodeIndices.{Ghosts}
use Rattle.reencode_hooks.specs.Run.{refused}
use Rattle.reencode_hooks.specs.Walk.{walk}
use Rattle.reencode_core.specs.Clauses.{CustomClausesOf, asks}
use Rattle.reencode_core.specs.Errors.{IfParse, IfRefused, placed_at}
use Rattle.reencode_core.specs.Leaves.{Leaves, LeavesMade, ManyUpTo, TellsFault, custom_of}
use Rattle.reencode_core.specs.Names.{GivesCustomOf, ReadsContentsOf, ReadsCustomOf, StopsCustomOf, SubsectionsFaultOf, contents_standing}
use Rattle.reencode_core.specs.Rows.{Asks}
use Rattle.reencode_core.specs.Weave.{Puts, added}
use Rattle.reencode_core.proofs.after_error.VisitsMade.{wants_placed}
use Rattle.reencode_component.specs.Causes.{IfFault, inside, room}
use Rattle.reencode_component.specs.ComponentClauses.{FrameClauses, placed_in}
use Rattle.reencode_component.specs.ComponentLeaves.{IfLeaves, LeavesSection, SectionUpTo}
use Rattle.reencode_component.proofs.sections_walked.NoHooks.{custom_not_nested, plain_fits, plain_inside}
use Rattle.reencode_component.specs.ComponentNames.{component_custom}
use Rattle.reencode_component.specs.Components.{NestedFault, ReadsSection}
use Rattle.reencode_component.specs.Gives.{FaultIn, GivesSection}
use Rattle.reencode_component.specs.WeaveIn.{weave_in}
use Rattle.reencode_component.proofs.sections_walked.EachSection.{no_scope, section_placed}
use Rattle.reencode_component.proofs.weave.ComponentWalk.{both_same}

-- ---- what it is read as

same_name : {n m a b : List ℕ} → custom_frame n a ≡ custom_frame m b → (n ≡ m) × (a ≡ b)
same_name e = (cc, cc)

custom_forth : (depth : ℕ) (name contents : List ℕ) (t : Tree) → ReadsSection depth (custom_frame name contents) t → ReadsCustomOf component_custom name contents t
custom_forth depth name contents t r = go t (custom_frame name contents) r.framed refl
  where
    go : (t f : Tree) → InComponentFrame t f → f ≡ custom_frame name contents → ReadsCustomOf component_custom name contents t
    go t f (InComponentFrame.of_id id u body low high q) e = absurd (let apart : numbered_frame id body ≡ custom_frame name contents = e in cc)
    go t f (InComponentFrame.of_custom n c u q) e =
        let s = same_name e in
        let P : List ℕ → Type 0 = λ z. ReadsComponentContents z c u in
        let Q : List ℕ → Type 0 = λ z. ReadsComponentContents name z u in
        (u, ap (λ (z : List ℕ). component_section_tree 0 (Tree.pair (Tree.name z) u)) s.0, subst Q s.1 (subst P s.0 q))
    go t f (InComponentFrame.of_unknown id c low high) e = absurd (let apart : numbered_frame id c ≡ custom_frame name contents = e in cc)

contents_open : {name contents : List ℕ} {u : Tree} → ReadsContentsOf component_custom name contents u → opens u ≡ 0
contents_open (inl r) = (unscoped_is r.1.shaped refl).opens
contents_open (inr r) = ap opens r.1

custom_back : (depth : ℕ) → depth ≤ 200 → (name contents : List ℕ) (t : Tree) → ReadsCustomOf component_custom name contents t → ReadsSection depth (custom_frame name contents) t
custom_back depth deep name contents t r =
    let P : Tree → Type 0 = λ z. ReadsSection depth (custom_frame name contents) z in
    let none : opens r.0 ≡ 0 = contents_open r.2 in
    subst P (sym r.1) (record {
      framed = InComponentFrame.of_custom name contents r.0 r.2;
      shallow = let most : max zero (max zero (opens r.0)) + depth ≤ 200 = omega (arith, none, deep) in record { most = most };
    })

-- ---- the walk

module _ {S E : Type 0} (asked : Asks S E) (put : Puts S Tree) (c : ℕ) where
  map_walked : (q : Sort) (row : Shape) (t : Tree) → is_sort q ≡ true → Is (Shape.vec row) t → (s : S) → weave_in asked put c s (led_by q t) ≡ walk asked c s (led_by q t)
  map_walked (Sort.core k b) row t h (Is.vec d) s = refl
  map_walked (Sort.own b) row t h (Is.vec d) s = refl
  map_walked Sort.none row t h d s = absurd cc

  subsection_walked : (t : Tree) (x : List ℕ) → Is component_name_subsection t → Spelled t x → (s : S) → weave_in asked put c s t ≡ walk asked c s t
  subsection_walked t x (Is.first (Is.seq Is.fixed (Is.sized Is.name))) p s = refl
  subsection_walked t x (Is.later (Is.first (Is.seq Is.fixed (Is.sized (Is.led {t = u} d))))) p s =
      let o = of_sort d p.4.4 in
      let W : Tree → Type 0 = λ z. weave_in asked put c s z ≡ walk asked c s z in
      let h : W u = subst W (sym o.is) (map_walked (sort_of o.p) (naming_row o.p) o.map o.sort o.spells.shaped s) in
      rw h refl
  subsection_walked t x (Is.later (Is.first (Is.seq Is.fixed (Is.sized (Is.not_led none))))) p s = refl
  subsection_walked t x (Is.later (Is.later (Is.first (Is.seq (Is.within low high) (Is.sized Is.rest))))) p s = refl
  subsection_walked t x (Is.later (Is.later (Is.later d))) p s = elim d [ ]

  names_walked : (t : Tree) (x : List ℕ) → Is component_names t → Spelled t x → (s : S) → weave_in asked put c s t ≡ walk asked c s t
  names_walked t x Is.nil p s = refl
  names_walked t x (Is.cons {t = v} {u = u} d e) p s = both_same _ _ (subsection_walked v p.0 d p.3 s) (λ w m. both_same _ _ (names_walked u p.1 e p.4 m) (λ y n. refl))

  contents_walked : {name contents : List ℕ} {u : Tree} → ReadsContentsOf component_custom name contents u → (s : S) → weave_in asked put c s u ≡ walk asked c s u
  contents_walked {contents = contents} {u = u} (inl r) s = names_walked u contents r.1.shaped r.1.spelled s
  contents_walked (inr r) s = let W : Tree → Type 0 = λ z. weave_in asked put c s z ≡ walk asked c s z in subst W (sym r.1) refl

  custom_walked : {name contents : List ℕ} {t : Tree} → ReadsCustomOf component_custom name contents t → (s : S) → weave_in asked put c s t ≡ walk asked c s t
  custom_walked r s =
      let W : Tree → Type 0 = λ z. weave_in asked put c s z ≡ walk asked c s z in
      let h = contents_walked r.2 s in
      subst W (sym r.1) (rw h refl)

-- ---- the section in its frame

module _ (depth : ℕ) (name contents : List ℕ) where
  abbrev custom_tree : Tree
  custom_tree = custom_frame name contents

  unnested : (room : ℕ) (x : Fault) → NestedFault depth room custom_tree x → ⊥
  unnested zero x h = h
  unnested (suc room) x h = let e : custom_tree ≡ numbered_frame h.0 h.1 = h.2 in cc

  unread : ((t : Tree) → ReadsCustomOf component_custom name contents t → ⊥) → (t : Tree) → ReadsSection depth custom_tree t → ⊥
  unread none t r = none t (custom_forth depth name contents t r)

  names_up_to : (t : Tree) (rest : List ℕ) → SectionUpTo depth custom_tree t rest → (name ≡ component_names_name) × ManyUpTo component_name_subsection contents t rest
  names_up_to t rest x = go custom_tree t rest x refl
    where
      go : (f t : Tree) (rest : List ℕ) → SectionUpTo depth f t rest → f ≡ custom_tree → (name ≡ component_names_name) × ManyUpTo component_name_subsection contents t rest
      go f t rest (SectionUpTo.uncounted id body row e n) q = absurd cc
      go f t rest (SectionUpTo.rows id body row reader u rest' e there r) q = absurd cc
      go f t rest (SectionUpTo.names n c u rest' is r) q =
          let e = same_name q in
          let P : List ℕ → Type 0 = λ z. ManyUpTo component_name_subsection z t rest in
          (sym e.0 ∙ is, subst P e.1 r)

  unreadable : {E : Type 0} (P : ℕ → Type 0) → ((z : ℕ) → P z → (t : Tree) → ReadsCustomOf component_custom name contents t → ⊥) → (at : ℕ) (e : Error E) → IfParse e P →
      IfFault (placed_at e at) (λ x. ((t : Tree) → ReadsSection depth custom_tree t → ⊥) × FaultIn (NestedFault depth (room depth) custom_tree) at x)
  unreadable P none at (ParseError x) h = (unread (none x.at h), (refl, λ y handed q. unnested (room depth) y q))
  unreadable P none at (UserError x) h = tt
  unreadable P none at (TooLarge x) h = tt
  unreadable P none at NoMemory h = tt
  unreadable P none at InvalidCodeSectionSize h = absurd h
  unreadable P none at UnexpectedNonCoreModuleSection h = absurd h
  unreadable P none at UnexpectedNonComponentSection h = absurd h
  unreadable P none at CanonicalizedHeapTypeReference h = absurd h
  unreadable P none at InvalidConstExpr h = absurd h
  unreadable P none at UnsupportedCoreTypeInComponent h = absurd h

  -- of bytes that have a reading no place is told
  same_error : {E : Type 0} (P : ℕ → Type 0) → ((z : ℕ) → P z → (t : Tree) → ReadsCustomOf component_custom name contents t → ⊥) → (at : ℕ) (t : Tree) → ReadsCustomOf component_custom name contents t →
      (e : Error E) → IfParse e P → placed_at e at ≡ e
  same_error P none at t r (ParseError x) h = absurd (none x.at h t r)
  same_error P none at t r _ h = refl

module _ {S E : Type 0} (i : Ghosts S E) (depth : ℕ) (deep : depth ≤ 200) (name contents : List ℕ) where
  leaves_framed : (s m : S) (e : Error E) → Leaves (asks i) (custom_of component_custom name contents) s e m → LeavesSection (asks i) depth (custom_frame name contents) s e m
  leaves_framed s m e l = record {
    leaves = record {
      made = l.made;
      ended = l.ended;
      drawn = l.drawn;
      reading = λ t r. l.reading t (custom_forth depth name contents t r);
      fault = λ none t rest x. l.fault (λ u r. none u (custom_back depth deep name contents u r)) t rest (names_up_to depth name contents t rest x);
    };
    unread = λ none.
        no_scope (TellsFault e) depth (room depth) (custom_frame name contents) l.made
        (λ id body is nested. let apart : custom_frame name contents ≡ numbered_frame id body = is in cc);
  }

  stops : (s m : S) (c : ℕ) (e : Error E) → ((t : Tree) × ReadsCustomOf component_custom name contents t) ⊎ StopsCustomOf component_custom (asks i) c name contents s e m →
      ((t : Tree) × ReadsSection depth (custom_frame name contents) t) ⊎ inside (asks i) i.adds c depth (custom_frame name contents) s m e
  stops s m c e (inl q) = inl (q.0, custom_back depth deep name contents q.0 q.1)
  stops s m c e (inr q) = inr (inr (inl (name, contents, refl, q)))

  refusal : (s m : S) (c at : ℕ) (e : Error E) → IfRefused e (((t : Tree) × ReadsCustomOf component_custom name contents t) ⊎ StopsCustomOf component_custom (asks i) c name contents s e m) →
      IfRefused (placed_at e at) (((t : Tree) × ReadsSection depth (custom_frame name contents) t) ⊎ inside (asks i) i.adds c depth (custom_frame name contents) s m (placed_at e at))
  refusal s m c at (UserError x) h = stops s m c (UserError x) h
  refusal s m c at (TooLarge x) h = stops s m c (TooLarge x) h
  refusal s m c at _ h = tt

  gives : (at : ℕ) (s m : S) (old new : Sections) (r : Result (Unit {0}) (Error E)) → GivesCustomOf component_custom (asks i) name contents (s, old) (m, new) r →
      GivesSection (asks i) i.adds depth (custom_frame name contents) at (s, old) (m, new) (placed_in r at)
  gives at s m old new (Ok u) g = record {
    reading = λ t r.
        let q = custom_forth depth name contents t r in
        let x = g.reading t q in
        (x.0, section_row 0 x.1, custom_walked (asks i) (added i.adds) old.ceiling q s ∙ x.2, x.3, x.4);
    readable = (g.readable.0, custom_back depth deep name contents g.readable.0 g.readable.1);
    fits = λ t r. plain_fits (asks i) i.adds old.ceiling depth custom_not_nested s r;
    fits_before = tt;
    unreadable = tt;
    refusal = tt;
    unchanged = tt;
  }
  gives at s m old new (Err e) g =
      let P : ℕ → Type 0 = λ z.
      ((t : Tree) → ReadsCustomOf component_custom name contents t → ⊥) × (name ≡ component_names_name)
      × SubsectionsFaultOf component_name_subsection (asks i) old.ceiling (contents_standing contents) s z in record {
        reading = λ t r other.
            let q = custom_forth depth name contents t r in
            let same = same_error depth name contents P (λ z h. h.0) at t q e g.unreadable in
            let W : Error E → Type 0 = λ z. weave_in (asks i) (added i.adds) old.ceiling s t ≡ refused z m in
            inr (subst W (sym same) (custom_walked (asks i) (added i.adds) old.ceiling q s ∙ (g.reading t q).1 (λ w. other (same ∙ w))));
        readable = tt;
        fits = tt;
        fits_before = λ other. plain_inside (asks i) i.adds old.ceiling depth custom_not_nested s (room depth) m (placed_at e at);
        unreadable = unreadable depth name contents P (λ z h. h.0) at e g.unreadable;
        refusal = refusal s m old.ceiling at e g.refusal;
        unchanged = g.unchanged;
      }

  left : (at : ℕ) (s m : S) (r : Result (Unit {0}) (Error E)) → LeavesMade i.sure (asks i) (custom_of component_custom name contents) s m r →
      IfLeaves i.sure i.adds_nothing (λ e. LeavesSection (asks i) depth (custom_frame name contents) s e m) (placed_in r at)
  left at s m (Ok u) l = tt
  left at s m (Err e) l = λ told size. section_placed depth (custom_frame name contents) e at (leaves_framed s m e (l (λ h. told (wants_placed e at h))))

  pub custom_framed : (at : ℕ) {s m : S} {old new : Sections} (r : Result (Unit {0}) (Error E)) → CustomClausesOf component_custom i name contents s old m new r →
      FrameClauses i depth (custom_frame name contents) at s old m new (placed_in r at)
  custom_framed at {s = s} {m = m} {old = old} {new = new} r c = record { kept = c.kept; default = λ k. gives at s m old new r (c.default k); after_error = λ k. left at s m r (c.after_error k) }
