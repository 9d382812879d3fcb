-- A reencoder that adds nothing: what is woven is walked.
use Rattle.std.proofs.Common.{◌≡◌, ◌≢◌, ℕ, List, [], ◌∷◌, ◌++◌, map, Option, Some, None, Result, Ok, Err, Bool, IsTrue, refl, sym, ap, ap₂, ◌∙◌, subst, append-nil, ◌⊎◌, inl, inr}
use Rattle.wasm_shapes.specs.declared.SectionId.{SectionId}
use Rattle.wasm_shapes.specs.declared.Visit.{Visit}
use Rattle.wasm_shapes.specs.declared.Visit.TheVariants.{Section, Closed}
use Rattle.wasm_shapes.specs.Tree.{Tree}
use Rattle.wasm_shapes.specs.Module.{alsos}
use Rattle.wasm_write.specs.Sections.{Sections, SectionRow, framed_tree, section_bytes, sections_bytes}
use Rattle.reencode_hooks.specs.declared.error.Error.{Error}
use Rattle.reencode_hooks.specs.declared.error.Error.TheVariants.{TooLarge, NoMemory}
use Rattle.reencode_hooks.specs.Run.{Step, accepted, refused}
use Rattle.reencode_hooks.specs.Walk.{walk, walk_from, announced, followed}
use Rattle.reencode_hooks.specs.Hooks.{HasTooLarge, KeepsAdds, MayAdd}
use Rattle.reencode_core.specs.Rows.{Asks}
use Rattle.reencode_core.specs.Core.{onto, AcceptsSections, RefusesNext, StopsSections, IsCause, GivesCore, GivesBytes}
use Rattle.reencode_core.specs.Weave.{Puts, added, put_before, put_behind, weave, weave_from}
use Rattle.reencode_core.specs.Woven.{IsOwn, IsPart, StopsHook, StopsBehind, StopsNext, WeavesSections, StopsWoven, OwnNext, OwnBehind, OwnTooLarge, IsWovenCause, GivesWoven, GivesWovenBytes}
use Rattle.reencode_core.proofs.weave.Weaves.{nothing_before, nothing_behind, weave_nothing}

none_large : (c size : ℕ) → ¬ HasTooLarge c [] size
none_large c size h = go h.front h.parts
  where
    go : (front : List SectionRow) → [] ≡ front ++ h.row ∷ h.rest → ⊥
    go [] e = cc
    go (r ∷ rows) e = cc

pub own_fits : {E : Type 0} (c : ℕ) (own : List SectionRow) (e : Error E) → ((size : ℕ) → ¬ HasTooLarge c own size) → IsOwn c own e → ⊥
own_fits c own (TooLarge size) fit h = fit size h
own_fits c own _ fit h = h

pub none_own : {E : Type 0} (c : ℕ) (own : List SectionRow) (e : Error E) → own ≡ [] → IsOwn c own e → ⊥
none_own c own e none h = own_fits c own e (λ size. let P : List SectionRow → Type 0 = λ rows. ¬ HasTooLarge c rows size in subst P (sym none) (none_large c size)) h

-- where what the hooks were to add fits, none of that is too large
nothing_large : {S E : Type 0} {asked : Asks S E} {adds : Puts S SectionRow} {c : ℕ} {bytes : List ℕ} {s : S} {e : Error E} → OwnTooLarge asked adds c bytes s e →
    ((k : S) (v : Visit) → MayAdd v → (size : ℕ) → ¬ HasTooLarge c (adds k v) size) → ⊥
nothing_large {S = S} {asked = asked} {adds = adds} {c = c} {e = e} o fit = go o.own
  where
    never : (k : S) (v : Visit) → MayAdd v → IsOwn c (adds k v) e → ⊥
    never k v may = own_fits c (adds k v) e (fit k v may)

    at_section : (id : SectionId) (body : List ℕ) → IsOwn c (adds o.front.at (Section o.front.last (Some id))) e ⊎ OwnBehind asked adds c o.front.last o.front.at id body e → ⊥
    at_section id body (inl own) = never o.front.at (Section o.front.last (Some id)) tt own
    at_section id body (inr b) = never b.at (Closed id) tt b.own

    go : OwnNext asked adds c o.front.last o.front.at o.front.rest e → ⊥
    go (inl q) = never o.front.at (Section o.front.last None) tt q.1
    go (inr q) = at_section q.0 q.1 q.4

no_part : {part own : List SectionRow} → IsPart part own → own ≡ [] → part ≡ []
no_part {part = part} p none = go part p.rest (sym none ∙ p.parts)
  where
    go : (part rest : List SectionRow) → [] ≡ part ++ rest → part ≡ []
    go [] rest e = refl
    go (r ∷ part) rest e = absurd cc

-- where the type says that it adds nothing, nothing is added
pub added_none : {S : Type 0} {adds : Puts S SectionRow} {nothing : Bool} → KeepsAdds adds nothing → IsTrue nothing → (s : S) (v : Visit) → MayAdd v → adds s v ≡ []
added_none keeps none s v may = keeps s v (λ _. none)

module _ {S E : Type 0} (asked : Asks S E) (adds : Puts S SectionRow) (none : (s : S) (v : Visit) → MayAdd v → adds s v ≡ []) where
  same : (c : ℕ) (last : Option SectionId) (s : S) (t : Tree) → weave_from asked (added adds) c last s t ≡ walk_from asked c last s t
  same c last s t = weave_nothing asked (added adds) (λ s v may. ap (λ (rows : List SectionRow). map framed_tree rows) (none s v may)) c last s t

  before_none : (s : S) (last : Option SectionId) (t : Tree) → put_before adds s last t ≡ []
  before_none = nothing_before adds none

  behind_none : (s : S) (t : Tree) → put_behind adds s t ≡ []
  behind_none = nothing_behind adds none

  all_accepted : (c : ℕ) (s m : S) (read made : List Tree) (last : Option SectionId) → WeavesSections asked (added adds) c s read made last m → AcceptsSections asked c s read made last m
  all_accepted c s m read made last w = λ others.
      sym (same c None s (alsos read others)) ∙ w others ∙ ap (λ (r : Step S (Error E) Tree). onto made r) (same c last m others)

  -- a hook that adds nothing refused, and nothing stands there
  hook_refused : {A : Type 0} (c : ℕ) (own part : List SectionRow) (step : Step S (Error E) A) (e : Error E) (m : S) → own ≡ [] → StopsHook c own part step e m →
      (part ≡ []) × (e ≢ NoMemory → step ≡ refused e m)
  hook_refused c own part step e m empty hook = (no_part hook.0 empty, λ other. by (hook.1 other))
    where
      by : IsOwn c own e ⊎ (step ≡ refused e m) → step ≡ refused e m
      by (inl q) = absurd (none_own c own e empty q)
      by (inr h) = h

  -- the section hook accepted
  behind_refused : (c : ℕ) (last : Option SectionId) (s n m : S) (t others : Tree) (part : List SectionRow) (e : Error E) → announced asked s last t ≡ accepted 0 n →
      StopsBehind asked adds c n t (put_before adds s last t) part e m → RefusesNext asked c last s (Tree.also t others) part e m
  behind_refused c last s n m t others part e told (inl h) = inl (h.0 ∙ before_none s last t, λ other. rw (told, h.2 other) refl)
  behind_refused c last s n m t others part e told (inr (u, k, row, more, walked, spelled, parts, fits, hook)) =
      let h = hook_refused c (put_behind adds k t) more (followed asked k t) e m (behind_none k t) hook in
      let whole : part ≡ row ∷ [] = parts ∙ ap₂ (λ (xs ys : List SectionRow). xs ++ row ∷ ys) (before_none s last t) h.0 in
      inr (u, k, rw told walked, ap sections_bytes whole ∙ append-nil (section_bytes row) ∙ spelled, h.1)

  next_refused : (c : ℕ) (last : Option SectionId) (s m : S) (u : Tree) (part : List SectionRow) (e : Error E) → StopsNext asked adds c last s u part e m →
      RefusesNext asked c last s u part e m
  next_refused c last s m (Tree.also t others) part e (inl hook) =
      let h = hook_refused c (put_before adds s last t) part (announced asked s last t) e m (before_none s last t) hook in
      inl (h.0, λ other. rw (h.1 other) refl)
  next_refused c last s m (Tree.also t others) part e (inr behind) = behind_refused c last s behind.0 m t others part e behind.1 behind.2
  next_refused c last s m Tree.finish part e hook = hook_refused c (adds s (Section last None)) part (asked s (Section last None)) e m (none s (Section last None) tt) hook
  next_refused c last s m _ part e h = absurd h

  pub no_own : {c : ℕ} {bytes : List ℕ} {s : S} {e : Error E} → OwnTooLarge asked adds c bytes s e → ⊥
  no_own {c = c} o =
      nothing_large o (λ k v may size. let P : List SectionRow → Type 0 = λ rows. ¬ HasTooLarge c rows size in subst P (sym (none k v may)) (none_large c size))

  plain_cause : (c : ℕ) (bytes : List ℕ) (s m : S) (e : Error E) → IsWovenCause asked adds c bytes s m e → IsCause asked c bytes s m e
  plain_cause c bytes s m e (inl h) = h.0
  plain_cause c bytes s m e (inr own) = absurd (no_own own)

  sections_stopped : (c : ℕ) (before after : S × Sections) (t : Tree) (e : Error E) → StopsWoven asked adds c before t after e → StopsSections asked c before t after e
  sections_stopped c before after t e g =
      record {
        read = g.read;
        others = g.others;
        made = g.made;
        rows = g.rows;
        own = g.part;
        last = g.last;
        at = g.at;
        parts = g.parts;
        accepts = all_accepted c before.0 g.at g.read g.made g.last g.weaves;
        gains = g.gains;
        spelled = g.spelled;
        refuses = next_refused c g.last g.at after.0 g.others g.part e g.stops;
      }

  pub core_given : (bytes : List ℕ) (before after : S × Sections) (r : Result (Unit {0}) (Error E)) → GivesWoven asked adds bytes before after r → GivesCore asked bytes before after r
  core_given bytes before after (Ok u) g = record {
    reading = λ t p. let q = g.reading t p in (q.0, q.1, sym (same before.1.ceiling None before.0 t) ∙ q.2, q.3, q.4);
    readable = g.readable;
    cause = tt;
  }
  core_given bytes before after (Err e) g = record {
    reading = λ t p. sections_stopped before.1.ceiling before after t e (g.reading t p);
    readable = tt;
    cause = plain_cause before.1.ceiling bytes before.0 after.0 e g.cause;
  }

  pub bytes_nothing : {A : Type 0} (c : ℕ) (bytes : List ℕ) (s m : S) (r : Result A (Error E)) (view : A → List ℕ) → GivesWovenBytes asked adds c bytes s m r view →
      GivesBytes asked c bytes s m r view
  bytes_nothing c bytes s m (Ok out) view g = record {
    reading = λ t p. let q = g.reading t p in (q.0, sym (same c None s t) ∙ q.1, q.2);
    readable = g.readable;
    cause = tt;
  }
  bytes_nothing c bytes s m (Err e) view g = record {
    reading = λ t p other. step t (g.reading t p other);
    readable = tt;
    cause = plain_cause c bytes s m e g.cause;
  }
    where
      step : (t : Tree) → OwnTooLarge asked adds c bytes s e ⊎ (weave asked (added adds) c s t ≡ refused e m) → walk asked c s t ≡ refused e m
      step t (inl own) = absurd (no_own own)
      step t (inr h) = sym (same c None s t) ∙ h
