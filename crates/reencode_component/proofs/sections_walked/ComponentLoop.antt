-- The loop over the sections of a component, whatever the call that maps one gives of it.
use Rattle.std.proofs.Common.{◌≡◌, ◌≢◌, ◌-◌, ◌≤◌, ℕ, List, [], ◌∷◌, ◌++◌, length, Ok, Err, refl, sym, ap, ◌∙◌, subst, append_assoc, append-nil, ◌⊎◌, inl, inr}
use Rattle.wasm_leb.specs.declared.fault.Fault.{Fault}
use Rattle.wasm_leb.specs.declared.fault.Fault.TheVariants as fault
use Rattle.wasm_leb.specs.declared.fault.Kind.TheVariants as kinds
use Rattle.wasm_shapes.specs.declared.Visit.{Visit}
use Rattle.wasm_shapes.specs.Drawn.{Drawn}
use Rattle.wasm_shapes.specs.Module.{core_header, component_header, frame}
use Rattle.wasm_shapes.specs.Place.{Begins, BeginsNone}
use Rattle.wasm_shapes.specs.Rows.{rows_then}
use Rattle.wasm_shapes.specs.Spells.{Is, Spelled}
use Rattle.wasm_shapes.specs.Tree.{Tree, normal, visits}
use Rattle.wasm_shapes.specs.Types.{rows_tree}
use Rattle.wasm_shapes.proofs.ComponentFrames.{in_component_frame}
use Rattle.wasm_shapes.proofs.Depth.{begins_unique}
use Rattle.wasm_shapes.proofs.Drawn.{drawn_behind, drawn_front, drawn_joined, drawn_none}
use Rattle.wasm_read_component.specs.ComponentPayloads.{NoComponentFrame, NoComponentHeader}
use Rattle.wasm_write.specs.Sections.{Sections, SectionRow, section_bytes, sections_bytes}
use Rattle.reencode_hooks.specs.declared.error.Error.{Error}
use Rattle.reencode_hooks.specs.declared.error.Error.TheVariants.{CanonicalizedHeapTypeReference, InvalidConstExpr, InvalidCodeSectionSize, UnexpectedNonCoreModuleSection, UnexpectedNonComponentSection, UnsupportedCoreTypeInComponent, ParseError, UserError, TooLarge, NoMemory}
use Rattle.reencode_hooks.specs.Errors.{error_of_fault}
use Rattle.reencode_hooks.specs.Hooks.{Gains}
use Rattle.reencode_hooks.specs.Run.{accepted, refused}
use Rattle.reencode_hooks.proofs.Chained.{gains_both}
use Rattle.reencode_core.specs.Leaves.{EndsBy, IsFront, MadeUpTo, TellsFault}
use Rattle.reencode_core.specs.Rows.{Asks}
use Rattle.reencode_core.specs.Weave.{Puts, added}
use Rattle.reencode_core.specs.Woven.{AddsFit}
use Rattle.reencode_core.proofs.weave.AdditionsFit.{fits_begin, fits_both}
use Rattle.reencode_core.proofs.rows_walked.TypeGroup.{rows_then-both}
use Rattle.reencode_core.proofs.sections_walked.KnownKind.{gains_none, some_begun}
use Rattle.reencode_core.proofs.after_error.VisitsMade.{ended_all, ended_behind, front_first, front_same, front_then}
use Rattle.reencode_core.proofs.after_error.RowsVisited.{visits_more}
use Rattle.reencode_component.specs.Components.{BeginsNoSection, BeginsSection, ComponentFault, FaultAt, Framed, NestedFault, ComponentReading, ReadsSection, SectionsFirst}
use Rattle.reencode_component.specs.WeaveIn.{weave_in, AcceptsAll, RefusesAmong}
use Rattle.reencode_component.specs.Causes.{AcceptedFront, BeforeFault, BehindFront, CauseBy, IsFault, Stops, room}
use Rattle.reencode_component.specs.Gives.{FaultIn, GainsBefore, GivesBy, GivesSectionBy, GivesSections, RefusedOr}
use Rattle.reencode_component.specs.ComponentLeaves.{ComponentUpTo, HoldsFront, LeavesComponent, LeavesSection, MadeAt, SectionMade, StaysOpen, bytes_in}
use Rattle.reencode_component.proofs.sections_walked.SectionsAhead.{SectionsAhead, none_at_nil, none_first, none_framed, one_more, section_of, section_there, sections_ahead, sections_of, whole_read}
use Rattle.reencode_component.proofs.weave.ComponentWalk.{accepts_more, accepts_none, all_refused, weave_in_ran}

-- ---- the spelling of sections

normal_more : (us : List Tree) (u : Tree) → normal (rows_tree (us ++ u ∷ [])) ≡ normal (rows_tree us) ++ normal u
normal_more [] u = append-nil (normal u)
normal_more (v ∷ us) u = ap (λ (z : List ℕ). normal v ++ z) (normal_more us u) ∙ sym (append_assoc (normal v) (normal (rows_tree us)) (normal u))

bytes_more : (rows : List SectionRow) (r : SectionRow) → sections_bytes (rows ++ r ∷ []) ≡ sections_bytes rows ++ section_bytes r
bytes_more [] r = append-nil (section_bytes r)
bytes_more (s ∷ rows) r = ap (λ (z : List ℕ). section_bytes s ++ z) (bytes_more rows r) ∙ sym (append_assoc (section_bytes s) (sections_bytes rows) (section_bytes r))

-- what is drawn from the bytes behind some sections is drawn from all
drawn_rest : {depth : ℕ} {bytes rest : List ℕ} {read : List Tree} {vs : List Visit} → SectionsFirst depth bytes read rest → Drawn rest vs → Drawn bytes vs
drawn_rest {rest = rest} f p = drawn_behind component_header f.start f.stands (drawn_behind f.rows.text rest f.rows.stands p)

-- what is drawn from the bytes in a frame is drawn from what the frame stands in
frame_drawn : {f : Tree} {bytes left : List ℕ} {vs : List Visit} → Begins frame bytes f left → Drawn (bytes_in f) vs → Drawn bytes vs
frame_drawn {f = f} {bytes = bytes} {left = left} {vs = vs} there p = go f there.spells.shaped there.spells.spelled p
  where
    go : (g : Tree) → Is frame g → Spelled g there.text → Drawn (bytes_in g) vs → Drawn bytes vs
    go g (Is.first (Is.seq Is.fixed (Is.sized (Is.seq Is.name (Is.rest {bs = bs}))))) q h =
        let P : List ℕ → Type 0 = λ z. Drawn z vs in
        let t = q.4 in
        let u = t.4 in
        drawn_front there.text left there.reads (drawn_behind q.0 q.1 q.2 (drawn_behind t.0 t.1 t.2 (drawn_behind u.0 u.1 u.2 (subst P (sym u.4) h))))
    go g (Is.later (Is.first (Is.seq (Is.within low high) (Is.sized (Is.rest {bs = bs}))))) q h =
        let P : List ℕ → Type 0 = λ z. Drawn z vs in
        let t = q.4 in
        drawn_front there.text left there.reads (drawn_behind q.0 q.1 q.2 (drawn_behind t.0 t.1 t.2 (subst P (sym t.4) h)))
    go g (Is.later (Is.later d)) q h = elim d [ ]

-- ---- no frame

unframed : (depth : ℕ) {bytes : List ℕ} → BeginsNone frame bytes → BeginsNoSection depth bytes
unframed depth n = record {
  none = λ left t b. let f = in_component_frame t b.begins.text b.begins.spells.shaped b.begins.spells.spelled in n.none b.begins.text left f.0 f.2 b.begins.reads;
}

unnested : {P : Tree → Type 0} {bytes : List ℕ} → BeginsNone frame bytes → Framed P bytes → ⊥
unnested n q = n.none q.2.text q.1 q.0 q.2.spells q.2.reads

-- ---- the loop

-- Sections were read and walked, what they became was added, and the others are read and walked from here.
pub record ComponentDone {S E : Type 0} (asked : Asks S E) (adds : Puts S SectionRow) (depth : ℕ) (bytes : List ℕ) (s0 : S) (old : Sections) (rest : List ℕ) (s : S) (new : Sections) : Type 0 where
  pub read : List Tree
  pub made : List Tree
  pub rows : List SectionRow
  pub first : SectionsFirst depth bytes read rest
  pub accepts : AcceptsAll asked (added adds) old.ceiling s0 read made s
  pub gains : Gains old new rows
  pub spelled : sections_bytes rows ≡ normal (rows_tree made)
  pub drawn : Drawn bytes (visits (rows_tree read))
  pub fits : AddsFit asked adds old.ceiling s0 (visits (rows_tree read))

module _ {S E : Type 0} (asked : Asks S E) (adds : Puts S SectionRow) (depth : ℕ) where
  pub component_begin : (bytes start : List ℕ) → bytes ≡ component_header ++ start → depth ≤ 200 → (s : S) (old : Sections) → ComponentDone asked adds depth bytes s old start s old
  component_begin bytes start reads low s old = record {
    read = [];
    made = [];
    rows = [];
    first = none_first depth bytes start reads low;
    accepts = accepts_none asked (added adds) old.ceiling s;
    gains = gains_none old;
    spelled = refl;
    drawn = drawn_none;
    fits = fits_begin asked adds old.ceiling s;
  }

  -- a section more
  pub component_more : {inner own fit : Stops S E} {f : Tree} {at : ℕ} {bytes rest left : List ℕ} {s0 s m : S} {old new new' : Sections} →
      ComponentDone asked adds depth bytes s0 old rest s new → Begins frame rest f left → ((t : Tree) → ReadsSection depth f t → Drawn rest (visits t)) →
      GivesSectionBy asked adds depth inner own fit f at (s, new) (m, new') (Ok tt) → ComponentDone asked adds depth bytes s0 old left m new'
  component_more {bytes = bytes} {rest = rest} {s0 = s0} {s = s} {m = m} {old = old} {new = new} {new' = new'} d there drawn g =
      let t : Tree = g.readable.0 in
      let r = g.readable.1 in
      let b = section_there r there in
      let q = g.reading t r in
      let ceiling : new.ceiling ≡ old.ceiling = ap Sections.ceiling d.gains in
      let W : ℕ → Type 0 = λ c. weave_in asked (added adds) c s t ≡ accepted q.0 m in
      let walked : weave_in asked (added adds) old.ceiling s t ≡ accepted q.0 m = subst W ceiling q.2 in
      let V : List Visit → Type 0 = λ z. Drawn bytes z in
      let own : Drawn bytes (visits t ++ []) = drawn_joined bytes (visits t) [] (drawn_rest d.first (drawn t r)) drawn_none in
      record {
        read = d.read ++ t ∷ [];
        made = d.made ++ q.0 ∷ [];
        rows = d.rows ++ q.1 ∷ [];
        first = one_more d.first b;
        accepts = accepts_more asked (added adds) old.ceiling s0 s m d.read d.made t q.0 d.accepts walked;
        gains = gains_both old new new' d.rows (q.1 ∷ []) d.gains q.3;
        spelled =
            bytes_more d.rows q.1 ∙ ap (λ (z : List ℕ). z ++ section_bytes q.1) d.spelled ∙ ap (λ (z : List ℕ). normal (rows_tree d.made) ++ z) q.4 ∙ sym (normal_more d.made q.0);
        drawn = subst V (sym (visits_more d.read t [])) (drawn_joined bytes (visits (rows_tree d.read)) (visits t ++ []) d.drawn own);
        fits =
            let F : List Visit → Type 0 = λ z. AddsFit asked adds old.ceiling s0 z in
            let O : List Visit → Type 0 = λ z. AddsFit asked adds old.ceiling s z in
            let C : ℕ → Type 0 = λ c. AddsFit asked adds c s (visits t) in
            let ran = weave_in_ran asked (added adds) old.ceiling s0 s (rows_tree d.read) (rows_tree d.made) (d.accepts Tree.nil) in
            subst F (sym (visits_more d.read t []))
            (fits_both asked adds old.ceiling s0 s ran.0 (visits (rows_tree d.read)) (visits t ++ []) ran.1 d.fits (subst O (sym (append-nil (visits t))) (subst C ceiling (g.fits t r))));
      }

  -- ---- the ends of the loop

  module _ {bytes rest : List ℕ} {s0 s : S} {old new : Sections} (d : ComponentDone asked adds depth bytes s0 old rest s new) where
    abbrev front : AcceptedFront asked adds old.ceiling depth bytes s0
    front = record { read = d.read; rest = rest; made = d.made; at = s; first = d.first; accepts = d.accepts; fits = d.fits }

    -- what is read of the whole, beside the sections so far
    read_ahead : (t : Tree) → ComponentReading depth bytes t → (read : List Tree) × (t ≡ rows_tree read) × SectionsAhead depth d.read rest read []
    read_ahead t r = let l = sections_of r in (l.0, l.1, sections_ahead d.first l.2 (none_at_nil depth))

    fault_ahead : {before : List Tree} {left : List ℕ} → FaultAt depth bytes before left → SectionsAhead depth d.read rest before left
    fault_ahead f = sections_ahead d.first f.front f.none

    none_left : {t : Tree} {left : List ℕ} → rest ≡ [] → BeginsSection depth rest t left → ⊥
    none_left {t = t} {left = left} empty b = let P : List ℕ → Type 0 = λ z. BeginsSection depth z t left in (none_at_nil depth).none left t (subst P empty b)

    -- no section begins, though bytes are left: there is no reading, and the fault is here
    no_reading : BeginsNoSection depth rest → rest ≢ [] → (t : Tree) → ComponentReading depth bytes t → ⊥
    no_reading none some t r = let a = read_ahead t r in go a.0 a.2
      where
        go : (read : List Tree) → SectionsAhead depth d.read rest read [] → ⊥
        go read (SectionsAhead.same e empty) = some (sym empty)
        go read (SectionsAhead.more u others left e b) = none.none left u b

    fault_here : BeginsNoSection depth rest → rest ≢ [] → FaultAt depth bytes d.read rest
    fault_here none some = record { front = d.first; none = none; some = some }

    one_fault : {before : List Tree} {left : List ℕ} → BeginsNoSection depth rest → FaultAt depth bytes before left → (before ≡ d.read) × (left ≡ rest)
    one_fault {before = before} {left = left} none f = go (fault_ahead f)
      where
        go : SectionsAhead depth d.read rest before left → (before ≡ d.read) × (left ≡ rest)
        go (SectionsAhead.same e r) = (e, r)
        go (SectionsAhead.more u others left' e b) = absurd (none.none left' u b)

    accepts_before : {before : List Tree} → before ≡ d.read → AcceptsAll asked (added adds) old.ceiling s0 before d.made s
    accepts_before e = let P : List Tree → Type 0 = λ z. AcceptsAll asked (added adds) old.ceiling s0 z d.made s in subst P (sym e) d.accepts

    -- what was added so far, and the section behind it, where one begins that is read, is refused
    gained : {own fit : Stops S E} {e : Error E} {m : S} {new' : Sections} → new' ≡ new →
        ((t : Tree) (left : List ℕ) → BeginsSection depth rest t left → RefusedOr (λ x. Framed (λ f. own f s m x) rest) (weave_in asked (added adds) old.ceiling s t) e m) →
        (e ≢ NoMemory → BeginsNone frame rest ⊎ Framed (λ f. fit f s m e) rest) → GainsBefore asked adds depth own fit bytes (s0, old) (m, new') e
    gained kept there inside = inr (record {
      front = front;
      rows = d.rows;
      gains = let P : Sections → Type 0 = λ z. Gains old z d.rows in subst P (sym kept) d.gains;
      spelled = d.spelled;
      there = there;
      inside = inside;
    })

    -- ---- the end

    pub component_end : {inner own fit : Stops S E} → rest ≡ [] → GivesBy asked adds depth inner own fit bytes (s0, old) (s, new) (Ok tt)
    component_end {own = own} empty = record {
      reading = λ t r. let a = read_ahead t r in go t a.0 a.1 a.2;
      readable = (rows_tree d.read, whole_read d.first empty);
      fits = λ t r. let a = read_ahead t r in fitting t a.0 a.1 a.2;
      cause = tt;
      gained = tt;
    }
      where
        fitting : (t : Tree) (read : List Tree) → t ≡ rows_tree read → SectionsAhead depth d.read rest read [] → AddsFit asked adds old.ceiling s0 (visits t)
        fitting t read e (SectionsAhead.same f _) = let P : Tree → Type 0 = λ z. AddsFit asked adds old.ceiling s0 (visits z) in subst P (sym (e ∙ ap rows_tree f)) d.fits
        fitting t read e (SectionsAhead.more u others left f b) = absurd (none_left empty b)

        go : (t : Tree) (read : List Tree) → t ≡ rows_tree read → SectionsAhead depth d.read rest read [] →
            GivesSections asked adds (BehindFront asked adds old.ceiling depth own bytes s0 s) (s0, old) t (s, new) (Ok tt)
        go t read e (SectionsAhead.same f _) = (rows_tree d.made, d.rows, rw (e, f) (d.accepts Tree.nil), d.gains, d.spelled)
        go t read e (SectionsAhead.more u others left f b) = absurd (none_left empty b)

    -- ---- an error of the bytes

    is_fault : (x : Fault) → BeginsNoSection depth rest → rest ≢ [] → ComponentFault depth bytes x → IsFault asked adds old.ceiling depth bytes s0 x
    is_fault x none some h = record { fault = h; accepted = λ before left f. (d.made, s, accepts_before (one_fault none f).0) }

    -- a section stands here in its frame, and this is wrong with it
    fault_in : {f : Tree} {left : List ℕ} → Begins frame rest f left → (x : Fault) (at : ℕ) → BeginsNoSection depth rest → rest ≢ [] → at ≡ length bytes - length rest →
        FaultIn (NestedFault depth (room depth) f) at x → ComponentFault depth bytes x
    fault_in {f = f} there (fault.Read e) at none some place h =
        inr (
          d.read,
          rest,
          fault_here none some,
          h.0 ∙ place,
          λ y handed q.
              let P : Tree → Type 0 = λ z. NestedFault depth (room depth) z y in
              h.1 y handed (subst P (begins_unique refl refl q.2 there).0 q.3),
        )
    fault_in {f = f} {left = left} there fault.CodeSize at none some place h = (h.0, d.read, rest, fault_here none some, (f, left, there, h.1))
    fault_in {f = f} {left = left} there (fault.Header kinds.Component) at none some place h = (h.0, d.read, rest, fault_here none some, (f, left, there, h.1))
    fault_in {f = f} {left = left} there (fault.Header kinds.Module) at none some place h = inr (h.0, d.read, rest, fault_here none some, (f, left, there, h.1))
    fault_in there fault.NoMemory at none some place h = absurd h.0

    -- no frame begins of an id in force
    pub component_unframed : {inner own fit : Stops S E} (x : Fault) (at : ℕ) → NoComponentFrame x rest at → at ≡ length bytes - length rest →
        GivesBy asked adds depth inner own fit bytes (s0, old) (s, new) (Err (error_of_fault x))
    component_unframed (fault.Read e) at h place =
        let none = unframed depth h.1 in record {
          reading = λ t r. absurd (no_reading none h.2 t r);
          readable = tt;
          fits = tt;
          cause = is_fault (fault.Read e) none h.2 (inr (d.read, rest, fault_here none h.2, h.0 ∙ place, λ y handed q. unnested h.1 q));
          gained = gained refl (λ t left b. absurd (none.none left t b)) (λ other. inl h.1);
        }
    component_unframed fault.CodeSize at h place = absurd h
    component_unframed (fault.Header k) at h place = absurd h
    component_unframed fault.NoMemory at h place = absurd h

    -- ---- a section's error

    module _ (inner own fit : Stops S E) (f : Tree) (at : ℕ) (left : List ℕ) (there : Begins frame rest f left) (m : S) (new' : Sections) where
      abbrev Given : Error E → Type 0
      Given e = GivesSectionBy asked adds depth inner own fit f at (s, new) (m, new') (Err e)

      walked : (e : Error E) → Given e → (t : Tree) → ReadsSection depth f t → RefusedOr (own f s m) (weave_in asked (added adds) old.ceiling s t) e m
      walked e g t r =
          let ceiling : new.ceiling ≡ old.ceiling = ap Sections.ceiling d.gains in
          let W : ℕ → Type 0 = λ c. RefusedOr (own f s m) (weave_in asked (added adds) c s t) e m in
          subst W ceiling (g.reading t r)

      read_refused : (e : Error E) → Given e → (t : Tree) → ComponentReading depth bytes t →
          RefusedOr (BehindFront asked adds old.ceiling depth own bytes s0 m) (weave_in asked (added adds) old.ceiling s0 t) e m
      read_refused e g t r other = let a = read_ahead t r in go a.0 a.1 a.2
        where
          go : (read : List Tree) → t ≡ rows_tree read → SectionsAhead depth d.read rest read [] →
              BehindFront asked adds old.ceiling depth own bytes s0 m e ⊎ (weave_in asked (added adds) old.ceiling s0 t ≡ refused e m)
          go read q (SectionsAhead.same p empty) = absurd (some_begun there (sym empty))
          go read q (SectionsAhead.more u others left' p b) = by (walked e g u (section_of there b).0 other)
            where
              all : t ≡ rows_then d.read (Tree.cons u (rows_tree others))
              all = q ∙ ap rows_tree p ∙ rows_then-both d.read (u ∷ others) Tree.nil

              by : own f s m e ⊎ (weave_in asked (added adds) old.ceiling s u ≡ refused e m) →
                  BehindFront asked adds old.ceiling depth own bytes s0 m e ⊎ (weave_in asked (added adds) old.ceiling s0 t ≡ refused e m)
              by (inl x) = inl (front, (f, left, there, x))
              by (inr h) = inr (rw all (all_refused asked (added adds) old.ceiling s0 s m d.read d.made e u (rows_tree others) d.accepts h))

      there_refused : (e : Error E) → Given e → (t : Tree) (left' : List ℕ) → BeginsSection depth rest t left' →
          RefusedOr (λ x. Framed (λ z. own z s m x) rest) (weave_in asked (added adds) old.ceiling s t) e m
      there_refused e g t left' b other = by (walked e g t (section_of there b).0 other)
        where
          by : own f s m e ⊎ (weave_in asked (added adds) old.ceiling s t ≡ refused e m) →
              Framed (λ z. own z s m e) rest ⊎ (weave_in asked (added adds) old.ceiling s t ≡ refused e m)
          by (inl x) = inl (f, left, there, x)
          by (inr h) = inr h

      abbrev Why : Error E → List Tree → List ℕ → Type 0
      Why e before left' =
          RefusesAmong asked (added adds) old.ceiling s0 before e m
          ⊎ ((made : List Tree) × (n : S) × AcceptsAll asked (added adds) old.ceiling s0 before made n × Framed (λ z. inner z n m e) left')
          ⊎ BehindFront asked adds old.ceiling depth own bytes s0 m e

      -- a refusal, or a size that is too large
      before_fault : (e : Error E) → Given e → e ≢ NoMemory → ((t : Tree) × ReadsSection depth f t) ⊎ inner f s m e → BeforeFault asked adds old.ceiling depth inner own bytes s0 m e
      before_fault e g other why = record { rest = d.first.start; stands = d.first.stands; fault = λ before left' x. go before left' x (fault_ahead x) }
        where
          go : (before : List Tree) (left' : List ℕ) → FaultAt depth bytes before left' → SectionsAhead depth d.read rest before left' → Why e before left'
          go before left' x (SectionsAhead.more u others behind p b) = by (walked e g u (section_of there b).0 other)
            where
              by : own f s m e ⊎ (weave_in asked (added adds) old.ceiling s u ≡ refused e m) → Why e before left'
              by (inl y) = inr (inr (front, (f, left, there, y)))
              by (inr h) = inl (λ further. rw (p, rows_then-both d.read (u ∷ others) further) (all_refused asked (added adds) old.ceiling s0 s m d.read d.made e u (rows_then others further) d.accepts h))
          go before left' x (SectionsAhead.same p q) = by why
            where
              by : ((t : Tree) × ReadsSection depth f t) ⊎ inner f s m e → Why e before left'
              by (inl r) =
                  let P : List ℕ → Type 0 = λ z. BeginsSection depth z r.0 left in
                  absurd (x.none.none left r.0 (subst P (sym q) (section_there r.1 there)))
              by (inr h) =
                  let P : List ℕ → Type 0 = λ z. Framed (λ w. inner w s m e) z in
                  inr (inl (d.made, s, accepts_before p, subst P (sym q) (f, left, there, h)))

      -- what was added in it before
      added_in : (e : Error E) → Given e → e ≢ NoMemory → BeginsNone frame rest ⊎ Framed (λ z. fit z s m e) rest
      added_in e g other = inr (f, left, there, g.fits_before other)

      refuses : (e : Error E) → Given e → CauseBy asked adds old.ceiling depth inner own bytes s0 m e → GivesBy asked adds depth inner own fit bytes (s0, old) (m, new') (Err e)
      refuses e g cause = record { reading = read_refused e g; readable = tt; fits = tt; cause = cause; gained = gained g.unchanged (there_refused e g) (added_in e g) }

      faulty : (e : Error E) (x : Fault) → Given e → at ≡ length bytes - length rest → ((t : Tree) → ReadsSection depth f t → ⊥) × FaultIn (NestedFault depth (room depth) f) at x →
          (IsFault asked adds old.ceiling depth bytes s0 x → CauseBy asked adds old.ceiling depth inner own bytes s0 m e) → GivesBy asked adds depth inner own fit bytes (s0, old) (m, new') (Err e)
      faulty e x g place h cause =
          let none = none_framed there h.0 in
          refuses e g (cause (is_fault x none (some_begun there) (fault_in there x at none (some_begun there) place h.1)))

      pub component_refused : (e : Error E) → Given e → at ≡ length bytes - length rest → GivesBy asked adds depth inner own fit bytes (s0, old) (m, new') (Err e)
      component_refused (ParseError x) g place = faulty (ParseError x) (fault.Read x) g place g.unreadable (λ h. h)
      component_refused InvalidCodeSectionSize g place = faulty InvalidCodeSectionSize fault.CodeSize g place g.unreadable (λ h. h)
      component_refused UnexpectedNonCoreModuleSection g place = faulty UnexpectedNonCoreModuleSection (fault.Header kinds.Component) g place g.unreadable (λ h. h)
      component_refused UnexpectedNonComponentSection g place = faulty UnexpectedNonComponentSection (fault.Header kinds.Module) g place g.unreadable (λ h. h)
      component_refused (UserError x) g place = refuses (UserError x) g (before_fault (UserError x) g (λ q. cc) g.refusal)
      component_refused (TooLarge x) g place = refuses (TooLarge x) g (before_fault (TooLarge x) g (λ q. cc) g.refusal)
      component_refused NoMemory g place = refuses NoMemory g tt
      component_refused CanonicalizedHeapTypeReference g place = absurd g.unreadable
      component_refused InvalidConstExpr g place = absurd g.unreadable
      component_refused UnsupportedCoreTypeInComponent g place = absurd g.unreadable

    -- ---- the visits that were made

    abbrev read_visits : List Visit
    read_visits = visits (rows_tree d.read)

    abbrev At : Error E → List Visit → List Visit → List ℕ → Type 0
    At e mid all left = MadeAt (TellsFault e) (StaysOpen (TellsFault e) depth (room depth)) (read_visits ++ mid) all left

    -- These visits were made behind them. Where no section begins here, this is known of them by the frame that stands here.
    component_leaves : {m : S} (e : Error E) (mid : List Visit) → rest ≢ [] → EndsBy asked s mid e m → Drawn rest mid →
        ((t : Tree) (left : List ℕ) → BeginsSection depth rest t left → (¬ TellsFault e) × IsFront mid (visits t)) →
        (BeginsNoSection depth rest → (f : Tree) (left : List ℕ) → Begins frame rest f left → SectionMade depth f e mid) → LeavesComponent asked depth bytes s0 e m
    component_leaves {m = m} e mid some ended drawn next scopes = record {
      leaves = record {
        made = read_visits ++ mid;
        ended = ended_behind asked e read_visits mid (weave_in_ran asked (added adds) old.ceiling s0 s (rows_tree d.read) (rows_tree d.made) (d.accepts Tree.nil)).1 ended;
        drawn = drawn_joined bytes read_visits mid d.drawn (drawn_rest d.first drawn);
        reading = λ t r. let a = read_ahead t r in whole t a.0 a.1 a.2;
        fault = λ none t left f. up_to t left f;
      };
      unread = λ none before left f. made_at before left f;
    }
      where
        section_front : (u : Tree) (others : List Tree) → IsFront mid (visits u) → IsFront (read_visits ++ mid) (visits (rows_tree (d.read ++ u ∷ others)))
        section_front u others f = front_same (sym (visits_more d.read u others)) (front_then read_visits (front_first (visits (rows_tree others)) f))

        whole : (t : Tree) (read : List Tree) → t ≡ rows_tree read → SectionsAhead depth d.read rest read [] → IsFront (read_visits ++ mid) (visits t)
        whole t read q (SectionsAhead.same p empty) = absurd (some (sym empty))
        whole t read q (SectionsAhead.more u others left p b) =
            front_same (sym (ap visits (q ∙ ap rows_tree p))) (section_front u others (next u left b).1)

        made_at : (before : List Tree) (left : List ℕ) → FaultAt depth bytes before left → At e mid (visits (rows_tree before)) left
        made_at before left x = go (fault_ahead x)
          where
            go : SectionsAhead depth d.read rest before left → At e mid (visits (rows_tree before)) left
            go (SectionsAhead.same p r) =
                let P : List ℕ → Type 0 = λ z. Drawn z mid in
                let N : List ℕ → Type 0 = λ z. BeginsNoSection depth z in
                inr (
                  mid,
                  ap (λ (z : List Tree). visits (rows_tree z) ++ mid) (sym p),
                  subst P (sym r) drawn,
                  λ f behind b. let B : List ℕ → Type 0 = λ z. Begins frame z f behind in scopes (subst N r x.none) f behind (subst B r b),
                )
            go (SectionsAhead.more u others behind p b) =
                let n = next u behind b in
                inl (n.0, front_same (sym (ap (λ (z : List Tree). visits (rows_tree z)) p)) (section_front u others n.1))

        visits_at : (all : List Visit) (left : List ℕ) → At e mid all left → MadeUpTo e (read_visits ++ mid) all left
        visits_at all left (inl h) = inl h
        visits_at all left (inr h) = inr (h.0, h.1, h.2)

        up_to : (t : Tree) (left : List ℕ) → ComponentUpTo depth bytes t left → MadeUpTo e (read_visits ++ mid) (visits t) left
        up_to t left (ComponentUpTo.sections before left' x) = visits_at (visits (rows_tree before)) left' (made_at before left' x)

    pub component_unframed_leaves : (x : Fault) (at : ℕ) → NoComponentFrame x rest at → LeavesComponent asked depth bytes s0 (error_of_fault x) s
    component_unframed_leaves (fault.Read e) at h =
        let none = unframed depth h.1 in
        component_leaves (ParseError e) [] h.2 (ended_all {a = []} (ParseError e) tt refl) drawn_none (λ t left b. absurd (none.none left t b))
        (λ never f left b. absurd (h.1.none b.text left f b.spells b.reads))
    component_unframed_leaves fault.CodeSize at h = absurd h
    component_unframed_leaves (fault.Header k) at h = absurd h
    component_unframed_leaves fault.NoMemory at h = absurd h

    -- a section was asked in part
    pub component_refused_leaves : {f : Tree} {left : List ℕ} {m : S} (e : Error E) → Begins frame rest f left → ((t : Tree) → ReadsSection depth f t → ¬ TellsFault e) →
        LeavesSection asked depth f s e m → LeavesComponent asked depth bytes s0 e m
    component_refused_leaves {f = f} {left = left} e there tells l =
        component_leaves e l.leaves.made (some_begun there) l.leaves.ended (frame_drawn there l.leaves.drawn)
        (λ t behind b. let r = (section_of there b).0 in (tells t r, l.leaves.reading t r))
        (λ none g behind b.
        let P : Tree → Type 0 = λ z. SectionMade depth z e l.leaves.made in
        subst P (sym (begins_unique refl refl b there).0) (l.unread (λ t r. none.none left t (section_there r there))))

    -- where memory runs out in a section, what the sections before it became stands, and nothing of it
    pub component_held : {f : Tree} {left : List ℕ} {m : S} {new' : Sections} → Begins frame rest f left → new' ≡ new → LeavesSection asked depth f s NoMemory m →
        HoldsFront asked adds depth bytes (s0, old) (m, new')
    component_held {f = f} {left = left} there unchanged l = record {
      front = front;
      parts = λ t r. let a = read_ahead t r in go t a.0 a.1 a.2;
      rows = d.rows;
      next = f;
      left = left;
      framed = there;
      spelled = d.spelled;
      gains = let P : Sections → Type 0 = λ z. Gains old z d.rows in subst P (sym unchanged) d.gains;
      leaves = l;
    }
      where
        go : (t : Tree) (read : List Tree) → t ≡ rows_tree read → SectionsAhead depth d.read rest read [] → (others : Tree) × (t ≡ rows_then d.read others)
        go t read q (SectionsAhead.same p empty) = (Tree.nil, q ∙ ap rows_tree p)
        go t read q (SectionsAhead.more u others left p b) = (Tree.cons u (rows_tree others), q ∙ ap rows_tree p ∙ rows_then-both d.read (u ∷ others) Tree.nil)

  -- ---- no component

  -- the header is missing
  pub header_wrong : {inner own fit : Stops S E} {bytes : List ℕ} (s : S) (old : Sections) (x : Fault) → NoComponentHeader x bytes →
      GivesBy asked adds depth inner own fit bytes (s, old) (s, old) (Err (error_of_fault x))
  header_wrong {bytes = bytes} s old (fault.Header kinds.Module) there = record {
    reading = λ t r. absurd (never r.rest r.stands);
    readable = tt;
    fits = tt;
    cause = record { fault = inl there; accepted = λ before left f. absurd (never f.front.start f.front.stands) };
    gained = inl (never, refl);
  }
    where
      never : (rest : List ℕ) → bytes ≡ component_header ++ rest → ⊥
      never rest stands = let e : component_header ++ rest ≡ core_header ++ there.0 = sym stands ∙ there.1 in cc
  header_wrong s old (fault.Read e) none = record {
    reading = λ t r. absurd ((none.1 r.rest).1 r.stands);
    readable = tt;
    fits = tt;
    cause = record { fault = inl (none.1, none.0); accepted = λ before left f. absurd ((none.1 f.front.start).1 f.front.stands) };
    gained = inl ((λ rest. (none.1 rest).1), refl);
  }
  header_wrong s old (fault.Header kinds.Component) none = absurd none
  header_wrong s old fault.CodeSize none = absurd none
  header_wrong s old fault.NoMemory none = absurd none

-- no header of a component stands there
pub no_header : (x : Fault) {bytes : List ℕ} → NoComponentHeader x bytes → (rest : List ℕ) → bytes ≡ component_header ++ rest → ⊥
no_header (fault.Header kinds.Module) there rest stands = let e : component_header ++ rest ≡ core_header ++ there.0 = sym stands ∙ there.1 in cc
no_header (fault.Read x) none rest stands = (none.1 rest).1 stands
no_header (fault.Header kinds.Component) none rest stands = none
no_header fault.CodeSize none rest stands = none
no_header fault.NoMemory none rest stands = none
