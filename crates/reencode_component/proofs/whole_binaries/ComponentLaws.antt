-- The laws of `specs/ComponentLaws.antt`.
use Rattle.std.proofs.Common.{◌≡◌, ◌≢◌, ◌+◌, ℕ, zero, suc, List, [], map, Result, Ok, Err, None, IsTrue, refl, sym, ap, ◌∙◌, subst, ◌⊎◌, inl, inr}
use Rattle.wasm_leb.specs.declared.fault.Fault.{Fault}
use Rattle.wasm_shapes.specs.declared.Visit.{Visit}
use Rattle.wasm_shapes.specs.Fits.{Fits}
use Rattle.wasm_shapes.specs.Spells.{Spelled}
use Rattle.wasm_shapes.specs.Tree.{Tree, fill, normal, visits}
use Rattle.wasm_shapes.specs.Types.{rows_tree}
use Rattle.wasm_write.specs.Sections.{SectionRow, Sections, framed_tree}
use Rattle.reencode_hooks.specs.declared.error.Error.{Error}
use Rattle.reencode_hooks.specs.declared.error.Error.TheVariants.{InvalidCodeSectionSize, UnexpectedNonCoreModuleSection, UnexpectedNonComponentSection, ParseError, UserError, TooLarge, NoMemory}
use Rattle.reencode_hooks.specs.declared.indices.ReencodeIndices.{Ghosts}
use Rattle.reencode_hooks.specs.Hooks.{KeepsAdds, MayAdd}
use Rattle.reencode_hooks.specs.Run.{Step, accepted, refused, run}
use Rattle.reencode_hooks.specs.Walk.{walk}
use Rattle.reencode_hooks.proofs.Walks.{walk_is_run, walk_stops}
use Rattle.reencode_core.specs.Clauses.{asks}
use Rattle.reencode_core.specs.Errors.{IfParse, IfRefused}
use Rattle.reencode_core.specs.Leaves.{Leaves}
use Rattle.reencode_core.specs.Refusals.{RefusedUpTo, RefusesNone}
use Rattle.reencode_core.specs.Weave.{added}
use Rattle.reencode_core.proofs.weave.AddsNothing.{added_none, no_own}
use Rattle.reencode_core.proofs.faults.RefusalLaws.{front_refused, never_refused, up_to}
use Rattle.reencode_core.proofs.faults.WalkRefusals.{stops_usual, usual_walk}
use Rattle.reencode_component.specs.Causes.{BeforeFault, BehindFront, CauseBy, OwnInside, fits_inside, inside, own_inside, room}
use Rattle.reencode_component.specs.ComponentClauses.{ComponentClauses}
use Rattle.reencode_component.specs.ComponentLeaves.{ComponentUpTo, component_in}
use Rattle.reencode_component.specs.Components.{ComponentFault, FaultAt, Framed, ComponentReading}
use Rattle.reencode_component.specs.Gives.{GainsBefore}
use Rattle.reencode_component.specs.WeaveIn.{AcceptsAll, RefusesAmong, weave_in}
use Rattle.reencode_component.specs.ComponentLaws as statements
use Rattle.reencode_component.specs.ComponentLaws.{Filled, AnswersFault, IsOfBytes, StopsBefore, Taking, as_component}
use Rattle.reencode_component.proofs.faults.OneFault.{at_fault, fault_is_one}
use Rattle.reencode_component.proofs.sections_walked.SectionsAhead.{SectionsAhead, sections_ahead}
use Rattle.reencode_component.proofs.weave.ComponentWalk.{weave_in_of_nothing}

-- ---- where nothing is added

module _ {S E : Type 0} (i : Ghosts S E) (none : (s : S) (v : Visit) → MayAdd v → i.adds s v ≡ []) where
  pub is_walk : (c : ℕ) (s : S) (t : Tree) → weave_in (asks i) (added i.adds) c s t ≡ walk (asks i) c s t
  is_walk c s t = weave_in_of_nothing (asks i) (added i.adds) (λ s v may. ap (λ (rows : List SectionRow). map framed_tree rows) (none s v may)) c s t

  -- no section of a hook's own is too large
  pub own_never : (c depth scopes : ℕ) (f : Tree) (s m : S) (e : Error E) → OwnInside (asks i) i.adds c depth scopes f s m e → ⊥
  own_never c depth zero f s m e h = h
  own_never c depth (suc scopes) f s m e (id, body, is, k, push, inl q) = no_own (asks i) i.adds none q.1
  own_never c depth (suc scopes) f s m e (id, body, is, k, push, inr q) = let n = q.1.1 in own_never c (depth + 1) scopes n.0 q.1.0.at m e n.3

  behind_never : (c depth : ℕ) (bytes : List ℕ) (s m : S) (e : Error E) → BehindFront (asks i) i.adds c depth (own_inside (asks i) i.adds c depth) bytes s m e → ⊥
  behind_never c depth bytes s m e h = let n = h.1 in own_never c depth (room depth) n.0 h.0.at m e n.3

  pub filled_of : (c : ℕ) (s m : S) (t u : Tree) → walk (asks i) c s t ≡ accepted u m → (p : Filled (asks i) c s t m) × (u ≡ fill t p.given)
  filled_of c s m t u h =
      let a = (walk_is_run (asks i)).forth c s m t u h in
      let P : Tree → Type 0 = λ z. Fits z c in (record { given = a.given; ran = a.ran; fits = subst P (sym a.filled) a.fits }, sym a.filled)

  pub walk_of : (c : ℕ) (s m : S) (t : Tree) (bytes : List ℕ) → Spelled t bytes → (p : Filled (asks i) c s t m) → walk (asks i) c s t ≡ accepted (fill t p.given) m
  walk_of c s m t bytes p f = (walk_is_run (asks i)).back c s m t (fill t f.given) bytes p (record { given = f.given; ran = f.ran; filled = refl; fits = f.fits })

  -- sections that were accepted
  front_filled : (c : ℕ) (s m : S) (read made : List Tree) → AcceptsAll (asks i) (added i.adds) c s read made m → (p : Filled (asks i) c s (rows_tree read) m) × (rows_tree made ≡ fill (rows_tree read) p.given)
  front_filled c s m read made a = filled_of c s m (rows_tree read) (rows_tree made) (sym (is_walk c s (rows_tree read)) ∙ a Tree.nil)

  -- an error of bytes that are read
  walk_refused : (depth : ℕ) (bytes : List ℕ) (s m : S) (old new : Sections) (e : Error E) → ComponentClauses i depth bytes s old m new (Err e) → IsTrue i.keeps_defaults → (t : Tree) → ComponentReading depth bytes t →
      e ≢ NoMemory → walk (asks i) old.ceiling s t ≡ refused e m
  walk_refused depth bytes s m old new e g keeps t r other = go ((g.default keeps).reading t r other)
    where
      go : BehindFront (asks i) i.adds old.ceiling depth (own_inside (asks i) i.adds old.ceiling depth) bytes s m e ⊎ (weave_in (asks i) (added i.adds) old.ceiling s t ≡ refused e m) →
          walk (asks i) old.ceiling s t ≡ refused e m
      go (inl own) = absurd (behind_never old.ceiling depth bytes s m e own)
      go (inr step) = sym (is_walk old.ceiling s t) ∙ step

-- ---- output

module _ {S E : Type 0} (i : Ghosts S E) (none : (s : S) (v : Visit) → MayAdd v → i.adds s v ≡ []) (k : Taking) {bytes : List ℕ} {s : S} where
  -- a walk that was accepted, and what was added by it
  pub taken : {m : S} {old new : Sections} (t u : Tree) → k.reads bytes t → walk (asks i) old.ceiling s t ≡ accepted u m → statements.Adds old new (normal u) →
      statements.IfTaken k (asks i) bytes s old m new (Ok tt)
  taken {m = m} {old = old} t u reads walks adds =
      let p = filled_of i none old.ceiling s m t u walks in (normal u, adds, record { tree = t; reads = reads; filled = p.0; spelled = ap normal p.1 })

  module _ {c : ℕ} {n : S} {out : List ℕ} (h : statements.IsTaken k (asks i) c bytes s n out) (x : List ℕ) (p : Spelled h.tree x) {m : S} where
    -- there is one such output
    pub same_taken : (u : Tree) → walk (asks i) c s h.tree ≡ accepted u m → (normal u ≡ out) × (m ≡ n)
    same_taken u walks =
        let both : ◌≡◌ {A = Step S (Error E) Tree} (accepted u m) (accepted (fill h.tree h.filled.given) n) = sym walks ∙ walk_of i none c s n h.tree x p h.filled in
        let trees : u ≡ fill h.tree h.filled.given = cc in
        let states : m ≡ n = cc in (ap normal trees ∙ sym h.spelled, states)

    -- and no error but out of memory
    pub only_wants : (e : Error E) → (e ≢ NoMemory → walk (asks i) c s h.tree ≡ refused e m) → e ≡ NoMemory
    only_wants NoMemory f = refl
    only_wants e f =
        let both : ◌≡◌ {A = Step S (Error E) Tree} (accepted (fill h.tree h.filled.given) n) (refused e m) = sym (walk_of i none c s n h.tree x p h.filled) ∙ f (λ same. absurd cc) in
        absurd cc

module _ {S E : Type 0} (i : Ghosts S E) (adds : KeepsAdds i.adds i.adds_nothing) where
  pub ok_is_reencoded : statements.OkIsReencoded i
  ok_is_reencoded depth bytes s m old new (Err e) g keeps nothing = tt
  ok_is_reencoded depth bytes s m old new (Ok u) g keeps nothing =
      let d = g.default keeps in
      let t = d.readable.0 in
      let q = d.reading t d.readable.1 in
      let none = added_none adds nothing in
      taken i none (as_component depth) t q.0 d.readable.1 (sym (is_walk i none old.ceiling s t) ∙ q.2) (record { rows = q.1; gains = q.3; spelled = q.4 })

  pub reencoded_is_answered : statements.ReencodedIsAnswered i
  reencoded_is_answered depth bytes s m old new (Ok u) g keeps nothing out n h =
      let none = added_none adds nothing in
      let q = (g.default keeps).reading h.tree h.reads in
      let same = same_taken i none (as_component depth) h _ h.reads.spells.spelled q.0 (sym (is_walk i none old.ceiling s h.tree) ∙ q.2) in
      (record { rows = q.1; gains = q.3; spelled = q.4 ∙ same.0 }, same.1)
  reencoded_is_answered depth bytes s m old new (Err e) g keeps nothing out n h =
      let none = added_none adds nothing in
      only_wants i none (as_component depth) h _ h.reads.spells.spelled e (λ other. walk_refused i none depth bytes s m old new e g keeps h.tree h.reads other)

-- ---- bytes with a fault

-- no refusal comes where no visit is refused
unrefused : {S E : Type 0} (i : Ghosts S E) (depth : ℕ) (bytes : List ℕ) (s m : S) (old new : Sections) (e : Error E) → ComponentClauses i depth bytes s old m new (Err e) → IsTrue i.keeps_defaults →
    RefusesNone (asks i) → (x : E) → e ≢ UserError x
unrefused {E = E} i depth bytes s m old new e g keeps none x is = by e g is
  where
    by : (w : Error E) → ComponentClauses i depth bytes s old m new (Err w) → w ≡ UserError x → ⊥
    by (UserError y) g q = never_refused (asks i) none (component_in depth bytes) s m y (g.after_error keeps (λ h. absurd cc) (λ h. absurd h)).leaves
    by _ g q = cc

module _ {S E : Type 0} (i : Ghosts S E) where
  faulty : (P : Fault → Type 0) (depth : ℕ) (bytes : List ℕ) (s m : S) (old new : Sections) (result : Result (Unit {0}) (Error E)) → ComponentClauses i depth bytes s old m new result → IsTrue i.keeps_defaults →
      RefusesNone (asks i) → ((t : Tree) → ComponentReading depth bytes t → ⊥) → ((x : Fault) → ComponentFault depth bytes x → P x) → AnswersFault P result
  faulty P depth bytes s m old new (Ok u) g keeps all bare k = let t = (g.default keeps).readable in bare t.0 t.1
  faulty P depth bytes s m old new (Err e) g keeps all bare k = go e (g.default keeps).cause (unrefused i depth bytes s m old new e g keeps all)
    where
      go : (w : Error E) → CauseBy (asks i) i.adds old.ceiling depth (inside (asks i) i.adds old.ceiling depth) (own_inside (asks i) i.adds old.ceiling depth) bytes s m w →
          ((x : E) → w ≢ UserError x) → AnswersFault P (Err w)
      go (UserError x) h never = never x refl
      go (TooLarge size) h never = tt
      go NoMemory h never = tt
      go (ParseError x) h never = k _ h.fault
      go InvalidCodeSectionSize h never = k _ h.fault
      go UnexpectedNonCoreModuleSection h never = k _ h.fault
      go UnexpectedNonComponentSection h never = k _ h.fault
      go _ h never = h

  pub unread_is_answered : statements.UnreadIsAnswered i
  unread_is_answered = record {
    unread = λ depth bytes s m old new result g keeps all bare. faulty (ComponentFault depth bytes) depth bytes s m old new result g keeps all bare (λ x p. p);
    fault = λ depth bytes s m old new result g keeps all x f.
        faulty (λ y. y ≡ x) depth bytes s m old new result g keeps all (fault_is_one.none depth bytes x f) (λ y p. fault_is_one.one depth bytes y x p f);
  }

-- ---- refusals

module _ {S E : Type 0} (i : Ghosts S E) (adds : KeepsAdds i.adds i.adds_nothing) where
  pub leaves : (depth : ℕ) (bytes : List ℕ) (s m : S) (old new : Sections) (x : E) → ComponentClauses i depth bytes s old m new (Err (UserError x)) → IsTrue i.keeps_defaults →
      Leaves (asks i) (component_in depth bytes) s (UserError x) m
  leaves depth bytes s m old new x g keeps = (g.after_error keeps (λ h. absurd cc) (λ h. absurd h)).leaves

  refused_reading : (depth : ℕ) (bytes : List ℕ) (s m : S) (old new : Sections) (e : Error E) → ComponentClauses i depth bytes s old m new (Err e) → IsTrue i.keeps_defaults → (x : E) → e ≡ UserError x →
      (t : Tree) → ComponentReading depth bytes t → run (asks i) s (visits t) ≡ refused e m
  refused_reading depth bytes s m old new (UserError y) g keeps x is t r = let l = leaves depth bytes s m old new y g keeps in front_refused (asks i) s (l.reading t r) l.ended.by
  refused_reading depth bytes s m old new _ g keeps x is t r = absurd cc

  refused_fault : (depth : ℕ) (bytes : List ℕ) (s m : S) (old new : Sections) (e : Error E) → ComponentClauses i depth bytes s old m new (Err e) → IsTrue i.keeps_defaults → (x : E) → e ≡ UserError x →
      (before : List Tree) (rest : List ℕ) → FaultAt depth bytes before rest → RefusedUpTo (asks i) s (visits (rows_tree before)) rest e m
  refused_fault depth bytes s m old new (UserError y) g keeps x is before rest f =
      let l = leaves depth bytes s m old new y g keeps in
      up_to (asks i) s (l.fault (λ t r. at_fault depth bytes before rest f t r) (rows_tree before) rest (ComponentUpTo.sections before rest f)) l.ended.by
  refused_fault depth bytes s m old new _ g keeps x is before rest f = absurd cc

  stopped : (depth : ℕ) (bytes : List ℕ) (s m : S) (old : Sections) (e : Error E) → IsTrue i.adds_nothing → (before : List Tree) (rest : List ℕ) → FaultAt depth bytes before rest →
      BeforeFault (asks i) i.adds old.ceiling depth (inside (asks i) i.adds old.ceiling depth) (own_inside (asks i) i.adds old.ceiling depth) bytes s m e → StopsBefore i old.ceiling depth s before rest e m
  stopped depth bytes s m old e nothing before rest f h = go (h.fault before rest f)
    where
      none : (s : S) (v : Visit) → MayAdd v → i.adds s v ≡ []
      none = added_none adds nothing

      go : RefusesAmong (asks i) (added i.adds) old.ceiling s before e m
          ⊎ ((made : List Tree) × (n : S) × AcceptsAll (asks i) (added i.adds) old.ceiling s before made n × Framed (λ f. inside (asks i) i.adds old.ceiling depth f n m e) rest)
          ⊎ BehindFront (asks i) i.adds old.ceiling depth (own_inside (asks i) i.adds old.ceiling depth) bytes s m e → StopsBefore i old.ceiling depth s before rest e m
      go (inl r) = inl ((walk_stops (asks i) old.ceiling s m (rows_tree before) e).0 (sym (is_walk i none old.ceiling s (rows_tree before)) ∙ r Tree.nil))
      go (inr (inl q)) = inr (q.1, (front_filled i none old.ceiling s q.1 before q.0 q.2).0, q.3)
      go (inr (inr own)) = absurd (behind_never i none old.ceiling depth bytes s m e own)

  refused_before : (depth : ℕ) (bytes : List ℕ) (s m : S) (old new : Sections) (e : Error E) → ComponentClauses i depth bytes s old m new (Err e) → IsTrue i.keeps_defaults → IsTrue i.adds_nothing →
      (before : List Tree) (rest : List ℕ) → FaultAt depth bytes before rest → IfRefused e (StopsBefore i old.ceiling depth s before rest e m)
  refused_before depth bytes s m old new (UserError x) g keeps nothing before rest f = stopped depth bytes s m old (UserError x) nothing before rest f (g.default keeps).cause
  refused_before depth bytes s m old new (TooLarge size) g keeps nothing before rest f = stopped depth bytes s m old (TooLarge size) nothing before rest f (g.default keeps).cause
  refused_before depth bytes s m old new _ g keeps nothing before rest f = tt

  pub refusal_tells : statements.ComponentRefusalTells i
  refusal_tells = record {
    reading = λ depth bytes s m old new e g keeps x is t r. refused_reading depth bytes s m old new e g keeps x is t r;
    fault = λ depth bytes s m old new e g keeps x is before rest f. refused_fault depth bytes s m old new e g keeps x is before rest f;
    never = λ depth bytes s m old new e g keeps all x is. unrefused i depth bytes s m old new e g keeps all x is;
    stops = λ depth bytes s m old new e g keeps nothing other t r.
        (walk_stops (asks i) old.ceiling s m t e).0 (walk_refused i (added_none adds nothing) depth bytes s m old new e g keeps t r other);
    stops_before = λ depth bytes s m old new e g keeps nothing before rest f. refused_before depth bytes s m old new e g keeps nothing before rest f;
  }

-- ---- what a fault leaves

of_bytes : {E : Type 0} (e : Error E) → IsOfBytes e → IfParse e (λ at. ⊥) → ⊥
of_bytes (ParseError x) tells h = h
of_bytes InvalidCodeSectionSize tells h = h
of_bytes UnexpectedNonCoreModuleSection tells h = h
of_bytes UnexpectedNonComponentSection tells h = h
of_bytes _ tells h = tells

not_wanting : {E : Type 0} (e : Error E) → IsOfBytes e → e ≢ NoMemory
not_wanting NoMemory tells q = tells
not_wanting _ tells q = cc

module _ {S E : Type 0} (i : Ghosts S E) (adds : KeepsAdds i.adds i.adds_nothing) where
  pub fault_gains : statements.ComponentFaultGains i
  fault_gains depth bytes s m old new e g keeps nothing tells before rest f = go (g.default keeps).gained
    where
      none : (s : S) (v : Visit) → MayAdd v → i.adds s v ≡ []
      none = added_none adds nothing

      go : GainsBefore (asks i) i.adds depth (own_inside (asks i) i.adds old.ceiling depth) (fits_inside (asks i) i.adds old.ceiling depth) bytes (s, old) (m, new) e → statements.AddsFilled (asks i) s old (rows_tree before) new
      go (inl h) = absurd (h.0 f.front.start f.front.stands)
      go (inr h) = by (sections_ahead h.front.first f.front f.none)
        where
          refuses : (t : Tree) → Framed (λ x. own_inside (asks i) i.adds old.ceiling depth x h.front.at m e) h.front.rest ⊎ (weave_in (asks i) (added i.adds) old.ceiling h.front.at t ≡ refused e m) →
              walk (asks i) old.ceiling h.front.at t ≡ refused e m
          refuses t (inl q) = absurd (own_never i none old.ceiling depth (room depth) q.0 h.front.at m e q.3)
          refuses t (inr step) = sym (is_walk i none old.ceiling h.front.at t) ∙ step

          by : SectionsAhead depth h.front.read h.front.rest before rest → statements.AddsFilled (asks i) s old (rows_tree before) new
          by (SectionsAhead.same e' r) =
              let p = front_filled i none old.ceiling s h.front.at h.front.read h.front.made h.front.accepts in
              let P : List Tree → Type 0 = λ z. statements.AddsFilled (asks i) s old (rows_tree z) new in
              subst P (sym e') (record { at = h.front.at; filled = p.0; adds = record { rows = h.rows; gains = h.gains; spelled = h.spelled ∙ ap normal p.1 } })
          by (SectionsAhead.more t others left e' b) =
              let usual = usual_walk i.reply i.next old.ceiling None h.front.at t b.begins.text b.begins.spells.spelled in
              absurd (of_bytes e tells (stops_usual (λ at. ⊥) (walk (asks i) old.ceiling h.front.at t) e m usual (λ other. refuses t (h.there t left b other))))
