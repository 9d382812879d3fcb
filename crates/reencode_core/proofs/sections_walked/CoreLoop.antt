-- The loop over the sections of a module.
use Rattle.std.proofs.Common.{◌≡◌, ◌≢◌, ◌-◌, ℕ, List, [], ◌∷◌, ◌++◌, length, map, Option, Some, None, Result, Ok, Err, OnOk, refl, sym, ap, ◌∙◌, subst, append_assoc, append-nil, ◌⊎◌, inl, inr, Bool}
use Rattle.std.proofs.lemmas.List.{append_cancel_left}
use Rattle.wasm_leb.specs.declared.fault.Fault.{Fault}
use Rattle.wasm_leb.specs.declared.fault.Fault.TheVariants as fault
use Rattle.wasm_leb.specs.declared.fault.Kind.TheVariants as kinds
use Rattle.wasm_shapes.specs.declared.SectionId.{SectionId}
use Rattle.wasm_shapes.specs.declared.Visit.{Visit}
use Rattle.wasm_shapes.specs.declared.Visit.TheVariants.{Section, Closed}
use Rattle.wasm_shapes.specs.Drawn.{Drawn}
use Rattle.wasm_shapes.specs.Tree.{Tree, before, behind, kind, normal, visits, visits_from}
use Rattle.wasm_shapes.proofs.Drawn.{drawn_behind, drawn_front, drawn_hook, drawn_joined, drawn_none}
use Rattle.wasm_shapes.specs.Spells.{Is, Spelled, Spells}
use Rattle.wasm_shapes.specs.Place.{Begins, BeginsNone}
use Rattle.wasm_shapes.specs.CodeSize.{InvalidCodeSize}
use Rattle.wasm_shapes.specs.Module.{core_header, component_header, section, sections, frame, numbered_frame, alsos, InFrame, CoreReading, FaultAt}
use Rattle.wasm_shapes.proofs.Unique.{unique}
use Rattle.wasm_shapes.proofs.Begins.{none_at_end}
use Rattle.wasm_shapes.proofs.SectionTable.{frame_there, none_in_frame, none_section, section_there}
use Rattle.wasm_shapes.specs.SectionTable.{number}
use Rattle.wasm_read.specs.Frames.{NoCoreHeader}
use Rattle.wasm_read.specs.Payloads.{NoFrame}
use Rattle.wasm_read.proofs.CodeSize.{code_size_some, code_size_other}
use Rattle.wasm_write.specs.Sections.{AllFit, Sections, SectionRow, section_row, section_bytes, sections_bytes, framed_tree}
use Rattle.reencode_hooks.specs.declared.error.Error.{Error}
use Rattle.reencode_hooks.specs.declared.error.Error.TheVariants.{CanonicalizedHeapTypeReference, InvalidConstExpr, InvalidCodeSectionSize, UnexpectedNonCoreModuleSection, UnexpectedNonComponentSection, UnsupportedCoreTypeInComponent, ParseError, UserError, TooLarge, NoMemory}
use Rattle.reencode_hooks.specs.Errors.{error_of_fault}
use Rattle.reencode_hooks.specs.Run.{Step, accepted, refused, and_then, ask, run, NeverWants}
use Rattle.reencode_hooks.specs.Walk.{walk, walk_from, announced, followed}
use Rattle.reencode_hooks.specs.Hooks.{KeepsAdds, RepliesSection, Gains, HasTooLarge}
use Rattle.reencode_hooks.proofs.Chained.{gains_both}
use Rattle.reencode_hooks.proofs.Walks.{walk_is_run}
use Rattle.reencode_core.specs.Leaves.{CoreUpTo, EndsBy, IsFront, IsSize, Leaves, LeavesCore, MadeUpTo, TellsFault, module_in}
use Rattle.reencode_core.specs.Errors.{IfParse, IfRefused, placed_at}
use Rattle.reencode_core.specs.Holds.{FrameLeaves, HoldsSections}
use Rattle.reencode_core.specs.Rows.{Asks}
use Rattle.reencode_core.specs.Core.{closed_off, onto, AcceptsSections, RefusedIn, StopsThere, BeforeFault, IsCause}
use Rattle.reencode_core.specs.Weave.{Puts, added, kind_after, put_at, put_before, put_behind, woven_one, weave, weave_from}
use Rattle.reencode_core.specs.Woven.{AddsFit, IsOwn, IsPart, StopsHook, StopsHooked, StopsNext, WeavesSections, StopsWoven, GivesWovenModule, OwnNext, WovenFront, OwnTooLarge, IsWovenCause, AddedAt, AddedThere, FitsUpTo, GainsBefore, GivesWoven}
use Rattle.reencode_core.proofs.weave.AddsNothing.{none_own}
use Rattle.reencode_core.proofs.weave.AdditionsFit.{fits_begin, fits_end, fits_more, none_too_large, rows_none}
use Rattle.reencode_core.proofs.weave.Weaves.{alsos-append}
use Rattle.reencode_core.proofs.sections_walked.AnySection.{GivesFramed, Reached, added_followed, added_put, kind_announced, kind_followed, kind_put, told_before, told_behind}
use Rattle.reencode_core.proofs.after_error.VisitsMade.{ended_all, ended_behind, ended_placed, fault_unasked, front_all, front_first, front_none, front_same, front_then, not_wanting, one_ended, tells_placed}
use Rattle.reencode_core.proofs.after_error.SectionVisited.{before_drawn, behind_drawn, in_frame_drawn}
use Rattle.reencode_core.proofs.faults.WalkRefusals.{IfRefused-map, unless_wanting, usual_ask, stops_usual}
use Rattle.reencode_core.proofs.sections_walked.KnownKind.{some_begun, gains_none}

-- ---- lists of sections

abbrev list_of : Tree → List Tree
list_of (Tree.also t u) = t ∷ list_of u
list_of _ = []

list_of-alsos : (ts : List Tree) (others : Tree) → list_of (alsos ts others) ≡ ts ++ list_of others
list_of-alsos [] others = refl
list_of-alsos (t ∷ ts) others = ap (λ (us : List Tree). t ∷ us) (list_of-alsos ts others)

pub same_sections : (ts us : List Tree) → alsos ts Tree.finish ≡ alsos us Tree.finish → ts ≡ us
same_sections ts us e = sym (append-nil ts) ∙ sym (list_of-alsos ts Tree.finish) ∙ ap list_of e ∙ list_of-alsos us Tree.finish ∙ append-nil us

kind_after-append : (last : Option SectionId) (ts : List Tree) (t : Tree) → kind_after last (ts ++ t ∷ []) ≡ kind (kind_after last ts) t
kind_after-append last [] t = refl
kind_after-append last (u ∷ ts) t = kind_after-append (kind last u) ts t

-- sections, and others behind them
pub joined : (ts : List Tree) {u : Tree} (x y : List ℕ) → Spells sections x (alsos ts Tree.finish) → Spells sections y u → Spells sections (x ++ y) (alsos ts u)
joined [] {u = u} x y p q =
    let none : x ≡ [] = p.spelled in
    let P : List ℕ → Type 0 = λ z. Spells sections (z ++ y) u in
    subst P (sym none) q
joined (t ∷ ts) {u = u} x y p q = go p.shaped p.spelled (λ z r. joined ts {u = u} z y r q)
  where
    go : Is sections (Tree.also t (alsos ts Tree.finish)) → Spelled (Tree.also t (alsos ts Tree.finish)) x →
        ((z : List ℕ) → Spells sections z (alsos ts Tree.finish) → Spells sections (z ++ y) (alsos ts u)) → Spells sections (x ++ y) (Tree.also t (alsos ts u))
    go (Is.also d d') s again =
        let rest = again s.1 (record { shaped = d'; spelled = s.4 }) in record {
          shaped = Is.also d rest.shaped;
          spelled = (s.0, s.1 ++ y, ap (λ (z : List ℕ). z ++ y) s.2 ∙ append_assoc s.0 s.1 y, s.3, rest.spelled);
        }

pub one_section : {t : Tree} {x : List ℕ} → Spells section x t → Spells sections x (Tree.also t Tree.finish)
one_section {x = x} p = record { shaped = Is.also p.shaped Is.finish; spelled = (x, [], sym (append-nil x), p.spelled, refl) }

-- what other sections from the same start are: the same, and then those that stand behind
pub data Ahead (before : List Tree) (rest : List ℕ) (all : Tree) (rest' : List ℕ) : Type 0 where
  same : all ≡ alsos before Tree.finish → rest ≡ rest' → Ahead before rest all rest'
  more : (t u : Tree) (left : List ℕ) → all ≡ alsos before (Tree.also t u) → Begins section rest t left → Ahead before rest all rest'

ahead_cons : {ts : List Tree} {rest rest' : List ℕ} {t u : Tree} → Ahead ts rest u rest' → Ahead (t ∷ ts) rest (Tree.also t u) rest'
ahead_cons {t = t} (same e r) = same (ap (λ (v : Tree). Tree.also t v) e) r
ahead_cons {t = t} (more v w left e b) = more v w left (ap (λ (z : Tree). Tree.also t z) e) b

pub ahead : (before : List Tree) (start text rest text' rest' : List ℕ) (all : Tree) → Spells sections text (alsos before Tree.finish) → start ≡ text ++ rest →
    Spells sections text' all → start ≡ text' ++ rest' → BeginsNone section rest' → Ahead before rest all rest'
ahead [] start text rest text' rest' all p e q f none = go all q.shaped q.spelled
  where
    here : rest ≡ text' ++ rest'
    here = let empty : text ≡ [] = p.spelled in ap (λ (z : List ℕ). z ++ rest) (sym empty) ∙ sym e ∙ f

    go : (all : Tree) → Is sections all → Spelled all text' → Ahead [] rest all rest'
    go all Is.finish s = same refl (here ∙ ap (λ (z : List ℕ). z ++ rest') s)
    go all (Is.also {t = t} {u = u} d d') s =
        more t u (s.1 ++ rest') refl (record {
          text = s.0;
          spells = record { shaped = d; spelled = s.3 };
          reads = here ∙ ap (λ (z : List ℕ). z ++ rest') s.2 ∙ append_assoc s.0 s.1 rest';
        })
ahead (t ∷ ts) start text rest text' rest' all p e q f none =
    outer p.shaped p.spelled (λ start text text' u p e q f. ahead ts start text rest text' rest' u p e q f none)
  where
    outer : Is sections (Tree.also t (alsos ts Tree.finish)) → Spelled (Tree.also t (alsos ts Tree.finish)) text →
        ((start text text' : List ℕ) (u : Tree) → Spells sections text (alsos ts Tree.finish) → start ≡ text ++ rest → Spells sections text' u → start ≡ text' ++ rest' → Ahead ts rest u rest') →
        Ahead (t ∷ ts) rest all rest'
    outer (Is.also d d') s again = go all q.shaped q.spelled
      where
        parts : start ≡ s.0 ++ (s.1 ++ rest)
        parts = e ∙ ap (λ (z : List ℕ). z ++ rest) s.2 ∙ append_assoc s.0 s.1 rest

        go : (all : Tree) → Is sections all → Spelled all text' → Ahead (t ∷ ts) rest all rest'
        go all Is.finish r =
            let at : rest' ≡ s.0 ++ (s.1 ++ rest) = sym (f ∙ ap (λ (z : List ℕ). z ++ rest') r) ∙ parts in
            absurd (none.none s.0 (s.1 ++ rest) t (record { shaped = d; spelled = s.3 }) at)
        go all (Is.also {t = v} {u = u} c c') r =
            let others : start ≡ r.0 ++ (r.1 ++ rest') = f ∙ ap (λ (z : List ℕ). z ++ rest') r.2 ∙ append_assoc r.0 r.1 rest' in
            let both_ways : s.0 ++ (s.1 ++ rest) ≡ r.0 ++ (r.1 ++ rest') = sym parts ∙ others in
            let agree = unique d c s.0 r.0 (s.1 ++ rest) (r.1 ++ rest') refl (inl refl) s.3 r.3 both_ways in
            let shifted : r.0 ++ (s.1 ++ rest) ≡ r.0 ++ (r.1 ++ rest') = ap (λ (z : List ℕ). z ++ (s.1 ++ rest)) (sym agree.0) ∙ both_ways in
            let behind : s.1 ++ rest ≡ r.1 ++ rest' = append_cancel_left r.0 (s.1 ++ rest) (r.1 ++ rest') shifted in
            let next = again (s.1 ++ rest) s.1 r.1 u (record { shaped = d'; spelled = s.4 }) refl (record { shaped = c'; spelled = r.4 }) behind in
            let P : Tree → Type 0 = λ w. Ahead (t ∷ ts) rest (Tree.also w u) rest' in
            subst P agree.1 (ahead_cons next)

pub none_behind : BeginsNone section []
none_behind = none_at_end refl

-- the visits of sections, and of those behind them
pub visits_alsos : (last : Option SectionId) (ts : List Tree) (others : Tree) → visits_from last (alsos ts others) ≡ visits_from last (alsos ts Tree.empty) ++ visits_from (kind_after last ts) others
visits_alsos last [] others = refl
visits_alsos last (t ∷ ts) others =
    let front : List Visit = visits_from (kind last t) (alsos ts Tree.empty) in
    let more : List Visit = visits_from (kind_after (kind last t) ts) others in
    ap (λ (z : List Visit). before last t ++ (visits t ++ (behind t ++ z))) (visits_alsos (kind last t) ts others)
    ∙ ap (λ (z : List Visit). before last t ++ (visits t ++ z)) (sym (append_assoc (behind t) front more))
    ∙ ap (λ (z : List Visit). before last t ++ z) (sym (append_assoc (visits t) (behind t ++ front) more))
    ∙ sym (append_assoc (before last t) (visits t ++ (behind t ++ front)) more)

-- the section in a frame, and its visits, which are drawn from its text
section_here : {f t : Tree} {bytes left : List ℕ} → InFrame t f → Begins frame bytes f left → (b : Begins section bytes t left) × Drawn b.text (visits t)
section_here {f = f} {t = t} i there =
    let whole : Begins frame there.text f [] = record { text = there.text; spells = there.spells; reads = sym (append-nil there.text) } in
    let one = section_there i whole in
    let same : one.text ≡ there.text = sym (one.reads ∙ append-nil one.text) in
    let P : List ℕ → Type 0 = λ z. Spells section z t in
    (record { text = there.text; spells = subst P same one.spells; reads = there.reads }, in_frame_drawn i whole)

-- ---- the spelling of sections

abbrev normals : List Tree → List ℕ
normals [] = []
normals (u ∷ us) = normal u ++ normals us

normal-alsos : (us : List Tree) → normal (alsos us Tree.finish) ≡ normals us
normal-alsos [] = refl
normal-alsos (u ∷ us) = ap (λ (z : List ℕ). normal u ++ z) (normal-alsos us)

normals-append : (us vs : List Tree) → normals (us ++ vs) ≡ normals us ++ normals vs
normals-append [] vs = refl
normals-append (u ∷ us) vs = ap (λ (z : List ℕ). normal u ++ z) (normals-append us vs) ∙ sym (append_assoc (normal u) (normals us) (normals vs))

sections_bytes-append : (rows others : List SectionRow) → sections_bytes (rows ++ others) ≡ sections_bytes rows ++ sections_bytes others
sections_bytes-append [] others = refl
sections_bytes-append (s ∷ rows) others =
    ap (λ (z : List ℕ). section_bytes s ++ z) (sections_bytes-append rows others) ∙ sym (append_assoc (section_bytes s) (sections_bytes rows) (sections_bytes others))

spelled_added : (rows : List SectionRow) → sections_bytes rows ≡ normals (map framed_tree rows)
spelled_added [] = refl
spelled_added (r ∷ rows) = ap (λ (z : List ℕ). section_bytes r ++ z) (spelled_added rows)

spelled_both : (rows others : List SectionRow) (us vs : List Tree) → sections_bytes rows ≡ normals us → sections_bytes others ≡ normals vs → sections_bytes (rows ++ others) ≡ normals (us ++ vs)
spelled_both rows others us vs p q =
    sections_bytes-append rows others ∙ ap (λ (z : List ℕ). z ++ sections_bytes others) p ∙ ap (λ (z : List ℕ). normals us ++ z) q ∙ sym (normals-append us vs)

-- what a hook puts at a section, as trees
put_added : {S : Type 0} (adds : Puts S SectionRow) (visit : SectionId → Visit) (s : S) (t : Tree) → put_at (added adds) visit s t ≡ map framed_tree (put_at adds visit s t)
put_added adds visit s (Tree.row k t) = put_added adds visit s t
put_added adds visit s (Tree.told k t) = refl
put_added adds visit s _ = refl

-- two sections that begin the same bytes are one
pub same_there : {bytes left left' : List ℕ} {t u : Tree} → Begins section bytes t left → Begins section bytes u left' → u ≡ t
same_there {left = left} {left' = left'} b c = (unique c.spells.shaped b.spells.shaped c.text b.text left' left refl (inl refl) c.spells.spelled b.spells.spelled (sym c.reads ∙ b.reads)).1

-- ---- steps

assoc : {S E A B C : Type 0} (a : Step S E A) (f : A → S → Step S E B) (g : B → S → Step S E C) →
    and_then (and_then a f) g ≡ and_then a (λ x m. and_then (f x m) g)
assoc (accepted a s) f g = refl
assoc (refused e s) f g = refl

-- ---- the section hook

-- A front part of what it adds was added; and one of its own sections is too large, or it refused as it replies.
abbrev pub HookStops : {S E : Type 0} → Step S (Error E) ℕ → List SectionRow → S → Sections → Sections → Error E → Type 0
HookStops step own m old new e =
    (part : List SectionRow) × Gains old new part × IsPart part own × (IsOwn old.ceiling own e ⊎ ((e ≢ NoMemory → step ≡ refused e m) × IfParse e (λ at. ⊥)))

module _ {S E : Type 0} (reply : S → Visit → Result ℕ E) (next : S → Visit → S) (adds : Puts S SectionRow) (s m : S) (old new : Sections) (v : Visit) where
  -- it refused: one of its own sections is too large, or as it replies
  hook_own : (e : Error E) → RepliesSection reply next adds s m old new v (Err e) → IsOwn old.ceiling (adds s v) e ⊎ (e ≢ NoMemory → ask reply next s v ≡ refused e m)
  hook_own (TooLarge n) r = inl r.0
  hook_own NoMemory r = inr (λ other. absurd (other refl))
  hook_own (ParseError x) r = inr (λ other. r.0)
  hook_own (UserError x) r = inr (λ other. r.0)
  hook_own CanonicalizedHeapTypeReference r = inr (λ other. r.0)
  hook_own InvalidConstExpr r = inr (λ other. r.0)
  hook_own InvalidCodeSectionSize r = inr (λ other. r.0)
  hook_own UnexpectedNonCoreModuleSection r = inr (λ other. r.0)
  hook_own UnexpectedNonComponentSection r = inr (λ other. r.0)
  hook_own UnsupportedCoreTypeInComponent r = inr (λ other. r.0)

  -- its error says nothing of the bytes that are read
  pub hook_usual : (e : Error E) → (e ≢ NoMemory → ask reply next s v ≡ refused e m) → IfParse e (λ at. ⊥)
  hook_usual e h = stops_usual (λ at. ⊥) (ask reply next s v) e m (usual_ask reply next s v) h

  pub hook_stops : (e : Error E) → RepliesSection reply next adds s m old new v (Err e) → HookStops (ask reply next s v) (adds s v) m old new e
  hook_stops e r = (r.1.part, r.1.gains, record { rest = r.1.rest; parts = r.1.parts }, why (hook_own e r))
    where
      why : IsOwn old.ceiling (adds s v) e ⊎ (e ≢ NoMemory → ask reply next s v ≡ refused e m) →
          IsOwn old.ceiling (adds s v) e ⊎ ((e ≢ NoMemory → ask reply next s v ≡ refused e m) × IfParse e (λ at. ⊥))
      why (inl own) = inl own
      why (inr h) = inr (h, hook_usual e h)

  -- where a size is none of its own sections', it refused as it replies
  pub hook_told : (e : Error E) → RepliesSection reply next adds s m old new v (Err e) → (IsSize e → adds s v ≡ []) → e ≢ NoMemory → ask reply next s v ≡ refused e m
  hook_told (TooLarge n) r none other = absurd (none_own {E = E} old.ceiling (adds s v) (TooLarge n) (none tt) r.0)
  hook_told NoMemory r none other = absurd (other refl)
  hook_told (ParseError x) r none other = r.0
  hook_told (UserError x) r none other = r.0
  hook_told CanonicalizedHeapTypeReference r none other = r.0
  hook_told InvalidConstExpr r none other = r.0
  hook_told InvalidCodeSectionSize r none other = r.0
  hook_told UnexpectedNonCoreModuleSection r none other = r.0
  hook_told UnexpectedNonComponentSection r none other = r.0
  hook_told UnsupportedCoreTypeInComponent r none other = r.0

-- ---- the loop

-- Sections were read and walked, what they became was added, with what the section hook adds, and the others are read and walked
-- from here.
pub record SectionsDone {S E : Type 0} (asked : Asks S E) (adds : Puts S SectionRow) (start : List ℕ) (s0 : S) (old : Sections) (rest : List ℕ) (last : Option SectionId) (s : S) (new : Sections) : Type 0 where
  pub read : List Tree
  pub made : List Tree
  pub woven : List Tree
  pub text : List ℕ
  pub rows : List SectionRow
  pub spells : Spells sections text (alsos read Tree.finish)
  pub stands : start ≡ text ++ rest
  pub ends : last ≡ kind_after None read
  pub accepts : AcceptsSections asked old.ceiling s0 read made last s
  pub weaves : WeavesSections asked (added adds) old.ceiling s0 read woven last s
  pub gains : Gains old new rows
  pub spelled : sections_bytes rows ≡ normals woven
  pub drawn : Drawn text (visits (alsos read Tree.empty))
  pub fits : AddsFit asked adds old.ceiling s0 (visits (alsos read Tree.empty))

-- What a hook puts at the section in a frame was added, and fits.
pub record Put {S E : Type 0} (asked : Asks S E) (adds : Puts S SectionRow) (visit : SectionId → Visit) (f : Tree) (s n : S) (new mid : Sections) : Type 0 where
  pub own : List SectionRow
  pub gains : Gains new mid own
  pub there : AddedAt asked adds visit s f n own
  pub fits : AllFit new.ceiling own

-- nothing is put there
pub nothing_put : {S E : Type 0} {asked : Asks S E} {adds : Puts S SectionRow} {visit : SectionId → Visit} {f : Tree} {s n : S} {new : Sections} → AddedAt asked adds visit s f n [] →
    Put asked adds visit f s n new new
nothing_put none = record { own = []; gains = gains_none _; there = none; fits = rows_none _ }

-- what the section hook puts before it, and the closing hook behind it
abbrev pub PutBefore : {S E : Type 0} → Asks S E → Puts S SectionRow → Option SectionId → Tree → S → S → Sections → Sections → Type 0
PutBefore asked adds last f s n new mid = Put asked adds (λ k. Section last (Some k)) f s n new mid

abbrev pub PutBehind : {S E : Type 0} → Asks S E → Puts S SectionRow → Tree → S → S → Sections → Sections → Type 0
PutBehind asked adds f s n new mid = Put asked adds (λ k. Closed k) f s n new mid

module _ {S E : Type 0} (asked : Asks S E) where
  onto_nothing : (step : Step S (Error E) Tree) → step ≡ onto [] step
  onto_nothing (accepted u m) = refl
  onto_nothing (refused e m) = refl

  regrouped : (a : Step S (Error E) ℕ) (f : S → Step S (Error E) Tree) (b : S → Step S (Error E) ℕ) (g : Tree → S → Step S (Error E) Tree) →
      and_then a (λ _ m. and_then (f m) (λ u n. and_then (b n) (λ _ k. g u k)))
      ≡ and_then (and_then (and_then a (λ _ m. f m)) (λ u n. and_then (b n) (λ _ k. accepted u k))) g
  regrouped (refused e m) f b g = refl
  regrouped (accepted i m) f b g = inner (f m)
    where
      last_one : (u : Tree) (r : Step S (Error E) ℕ) → and_then r (λ _ k. g u k) ≡ and_then (and_then r (λ _ k. accepted u k)) g
      last_one u (refused e n) = refl
      last_one u (accepted j n) = refl

      inner : (r : Step S (Error E) Tree) → and_then r (λ u n. and_then (b n) (λ _ k. g u k)) ≡ and_then (and_then r (λ u n. and_then (b n) (λ _ k. accepted u k))) g
      inner (refused e n) = refl
      inner (accepted u n) = last_one u (b n)

  pub also_closed : (c : ℕ) (last : Option SectionId) (s : S) (t u : Tree) →
      walk_from asked c last s (Tree.also t u) ≡ and_then (closed_off asked c last s t) (λ t' n. and_then (walk_from asked c (kind last t) n u) (λ u' k. accepted (Tree.also t' u') k))
  also_closed c last s t u =
      regrouped (announced asked s last t) (λ m. walk asked c m t) (λ n. followed asked n t) (λ t' n. and_then (walk_from asked c (kind last t) n u) (λ u' k. accepted (Tree.also t' u') k))

  one_onto : (made : List Tree) (v : Tree) (step : Step S (Error E) Tree) →
      onto made (and_then step (λ u m. accepted (Tree.also v u) m)) ≡ onto (made ++ v ∷ []) step
  one_onto made v (accepted u m) = ap (λ (t : Tree). accepted t m) (sym (alsos-append made (v ∷ []) u))
  one_onto made v (refused e m) = refl

  -- a section between what stands before it and behind it, of which the first that is refused ends it
  told_refused : (c : ℕ) (last : Option SectionId) (s m : S) (t : Tree) (e : Error E) → announced asked s last t ≡ refused e m → closed_off asked c last s t ≡ refused e m
  told_refused c last s m t e h = rw h refl

  walk_refused : (c : ℕ) (last : Option SectionId) (s n m : S) (t : Tree) (e : Error E) → announced asked s last t ≡ accepted 0 n → walk asked c n t ≡ refused e m → closed_off asked c last s t ≡ refused e m
  walk_refused c last s n m t e told walked = rw (told, walked) refl

  followed_refused : (c : ℕ) (last : Option SectionId) (s n l m : S) (t u : Tree) (e : Error E) → announced asked s last t ≡ accepted 0 n → walk asked c n t ≡ accepted u l → followed asked l t ≡ refused e m →
      closed_off asked c last s t ≡ refused e m
  followed_refused c last s n l m t u e told walked behind = rw (told, walked, behind) refl

  all_accepted : (c : ℕ) (last : Option SectionId) (s n l m : S) (t u : Tree) → announced asked s last t ≡ accepted 0 n → walk asked c n t ≡ accepted u l → followed asked l t ≡ accepted 0 m →
      closed_off asked c last s t ≡ accepted u m
  all_accepted c last s n l m t u told walked behind = rw (told, walked, behind) refl

  -- the same where the walk weaves
  onto_both : (made us : List Tree) (step : Step S (Error E) Tree) → onto made (onto us step) ≡ onto (made ++ us) step
  onto_both made us (accepted u m) = ap (λ (t : Tree). accepted t m) (sym (alsos-append made us u))
  onto_both made us (refused e m) = refl

  one_woven : (put : Puts S Tree) (c : ℕ) (last : Option SectionId) (s n l m : S) (t u : Tree) (us vs : List Tree) → announced asked s last t ≡ accepted 0 n → walk asked c n t ≡ accepted u l →
      followed asked l t ≡ accepted 0 m → put_before put s last t ≡ us → put_behind put l t ≡ vs → woven_one asked put c last s t ≡ accepted (us ++ u ∷ vs) m
  one_woven put c last s n l m t u us vs told walked behind puts others = rw (told, walked, behind, puts, others) refl

  also_woven : (put : Puts S Tree) (c : ℕ) (last now : Option SectionId) (s m : S) (t others : Tree) (us : List Tree) → woven_one asked put c last s t ≡ accepted us m → kind last t ≡ now →
      weave_from asked put c last s (Tree.also t others) ≡ onto us (weave_from asked put c now m others)
  also_woven put c last now s m t others us step kinds = rw (step, kinds) refl

module _ {S E : Type 0} (asked : Asks S E) (adds : Puts S SectionRow) where
  pub sections_begin : (start : List ℕ) (s : S) (old : Sections) → SectionsDone asked adds start s old start None s old
  sections_begin start s old = record {
    read = [];
    made = [];
    woven = [];
    text = [];
    rows = [];
    spells = record { shaped = Is.finish; spelled = refl };
    stands = refl;
    ends = refl;
    accepts = λ others. onto_nothing asked (walk asked old.ceiling s others);
    weaves = λ others. onto_nothing asked (weave asked (added adds) old.ceiling s others);
    gains = gains_none old;
    spelled = refl;
    drawn = drawn_none;
    fits = fits_begin asked adds old.ceiling s;
  }

  pub sections_more : {Stops : ℕ → Error E → S → Type 0} {id : ℕ} {f : Tree} {start rest rest' : List ℕ} {s0 s n l s' : S} {old new mid held new' : Sections} {last now : Option SectionId} →
      SectionsDone asked adds start s0 old rest last s new → Reached asked Stops f rest rest' last now s n → PutBefore asked adds last f s n new mid →
      GivesFramed asked id f Stops (n, mid) (l, held) (Ok tt) → PutBehind asked adds f l s' held new' → SectionsDone asked adds start s0 old rest' now s' new'
  sections_more {Stops = Stops} {id = id} {f = f} {rest = rest} {rest' = rest'} {s0 = s0} {s = s} {n = n} {l = l} {s' = s'} {old = old} {new = new} {mid = mid} {held = held} {new' = new'} {last = last} {now = now} d reached put g close =
      let t : Tree = g.readable.0 in
      let in_it : InFrame t f = g.readable.1 in
      let found = section_here in_it reached.framed in
      let here = found.0 in
      let told : announced asked s last t ≡ accepted 0 n = reached.told t in_it in
      let behind_it : followed asked l t ≡ accepted 0 s' = added_followed close.there t in_it in
      let kinds : kind last t ≡ now = reached.kinds t in_it in
      let q = g.reading t in_it in
      let ceiling : mid.ceiling ≡ old.ceiling = ap Sections.ceiling put.gains ∙ ap Sections.ceiling d.gains in
      let W : ℕ → Type 0 = λ c. walk asked c n t ≡ accepted q.0 l in
      let walked : walk asked old.ceiling n t ≡ accepted q.0 l = subst W ceiling q.2 in
      let step : closed_off asked old.ceiling last s t ≡ accepted q.0 s' = all_accepted asked old.ceiling last s n l s' t q.0 told walked behind_it in
      let row : SectionRow = section_row id q.1 in
      let us : List Tree = map framed_tree put.own in
      let vs : List Tree = map framed_tree close.own in
      let puts : put_before (added adds) s last t ≡ us = put_added adds (λ k. Section last (Some k)) s t ∙ ap (λ (rows : List SectionRow). map framed_tree rows) (added_put put.there t in_it) in
      let puts_more : put_behind (added adds) l t ≡ vs = put_added adds (λ k. Closed k) l t ∙ ap (λ (rows : List SectionRow). map framed_tree rows) (added_put close.there t in_it) in
      let woven : woven_one asked (added adds) old.ceiling last s t ≡ accepted (us ++ q.0 ∷ vs) s' = one_woven asked (added adds) old.ceiling last s n l s' t q.0 us vs told walked behind_it puts puts_more in record {
        read = d.read ++ t ∷ [];
        made = d.made ++ q.0 ∷ [];
        woven = d.woven ++ (us ++ q.0 ∷ vs);
        text = d.text ++ here.text;
        rows = d.rows ++ (put.own ++ row ∷ close.own);
        spells = rw (alsos-append d.read (t ∷ []) Tree.finish) (joined d.read d.text here.text d.spells (one_section here.spells));
        stands = d.stands ∙ ap (λ (z : List ℕ). d.text ++ z) here.reads ∙ sym (append_assoc d.text here.text _);
        ends = sym kinds ∙ ap (λ (z : Option SectionId). kind z t) d.ends ∙ sym (kind_after-append None d.read t);
        accepts = λ others.
            let next : walk_from asked old.ceiling last s (Tree.also t others) ≡ and_then (walk_from asked old.ceiling now s' others) (λ u m. accepted (Tree.also q.0 u) m) =
            also_closed asked old.ceiling last s t others ∙ rw (step, kinds) refl in
            rw (alsos-append d.read (t ∷ []) others)
            (d.accepts (Tree.also t others) ∙ ap (λ (r : Step S (Error E) Tree). onto d.made r) next ∙ one_onto asked d.made q.0 (walk_from asked old.ceiling now s' others));
        weaves = λ others.
            rw (alsos-append d.read (t ∷ []) others)
            (d.weaves (Tree.also t others)
            ∙ ap (λ (r : Step S (Error E) Tree). onto d.woven r) (also_woven asked (added adds) old.ceiling last now s s' t others (us ++ q.0 ∷ vs) woven kinds)
            ∙ onto_both asked d.woven (us ++ q.0 ∷ vs) (weave_from asked (added adds) old.ceiling now s' others));
        gains =
            let own : Gains mid new' (row ∷ close.own) = gains_both mid held new' (row ∷ []) close.own q.3 close.gains in
            gains_both old new new' d.rows (put.own ++ row ∷ close.own) d.gains (gains_both new mid new' put.own (row ∷ close.own) put.gains own);
        spelled =
            let one : sections_bytes (row ∷ close.own) ≡ normals (q.0 ∷ vs) = ap (λ (z : List ℕ). z ++ sections_bytes close.own) q.4 ∙ ap (λ (z : List ℕ). normal q.0 ++ z) (spelled_added close.own) in
            let both : sections_bytes (put.own ++ row ∷ close.own) ≡ normals (us ++ q.0 ∷ vs) = spelled_both put.own (row ∷ close.own) us (q.0 ∷ vs) (spelled_added put.own) one in
            spelled_both d.rows (put.own ++ row ∷ close.own) d.woven (us ++ q.0 ∷ vs) d.spelled both;
        drawn =
            let P : Tree → Type 0 = λ z. Drawn (d.text ++ here.text) (visits z) in
            let Q : List Visit → Type 0 = λ z. Drawn (d.text ++ here.text) z in
            let own : List Visit = visits t ++ (behind t ++ []) in
            let one : Drawn here.text (before last t ++ own) =
            drawn_joined here.text (before last t) own (before_drawn last t) (drawn_joined here.text (visits t) (behind t ++ []) found.1 (drawn_joined here.text (behind t) [] (behind_drawn t) drawn_none)) in
            let both : Drawn (d.text ++ here.text) (visits (alsos d.read Tree.empty) ++ (before last t ++ own)) =
            drawn_joined (d.text ++ here.text) (visits (alsos d.read Tree.empty)) (before last t ++ own) (drawn_front d.text here.text refl d.drawn) (drawn_behind d.text here.text refl one) in
            let V : Option SectionId → Type 0 = λ z. Drawn (d.text ++ here.text) (visits (alsos d.read Tree.empty) ++ visits_from z (Tree.also t Tree.empty)) in
            subst P (sym (alsos-append d.read (t ∷ []) Tree.empty)) (subst Q (sym (visits_alsos None d.read (Tree.also t Tree.empty))) (subst V d.ends both));
        fits =
            let P : Tree → Type 0 = λ z. AddsFit asked adds old.ceiling s0 (visits z) in
            let Q : List Visit → Type 0 = λ z. AddsFit asked adds old.ceiling s0 z in
            let V : Option SectionId → Type 0 = λ z. AddsFit asked adds old.ceiling s0 (visits (alsos d.read Tree.empty) ++ visits_from z (Tree.also t Tree.empty)) in
            let A : ℕ → Type 0 = λ z. AllFit z put.own in
            let B : ℕ → Type 0 = λ z. AllFit z close.own in
            let ran = (walk_is_run asked).forth old.ceiling s0 s (alsos d.read Tree.empty) (alsos d.made Tree.empty) (d.accepts Tree.empty) in
            let inside = (walk_is_run asked).forth old.ceiling n l t q.0 walked in
            let both : AddsFit asked adds old.ceiling s0 (visits (alsos d.read Tree.empty) ++ (before last t ++ (visits t ++ (behind t ++ [])))) =
            fits_more asked adds old.ceiling ran.given (visits (alsos d.read Tree.empty)) ran.ran d.fits put.there (subst A (ap Sections.ceiling d.gains) put.fits) t here.text in_it here.spells
            inside.given inside.ran close.there (subst B (ap Sections.ceiling q.3 ∙ ceiling) close.fits) in
            subst P (sym (alsos-append d.read (t ∷ []) Tree.empty)) (subst Q (sym (visits_alsos None d.read (Tree.also t Tree.empty))) (subst V d.ends both));
      }

  -- what is read and made then
  pub sections_begin_parts : (start : List ℕ) (s : S) (old : Sections) → let d = sections_begin start s old in (d.read ≡ []) × (d.made ≡ []) × (d.text ≡ [])
  unfolding sections_begin
  sections_begin_parts start s old = (refl, refl, refl)

  pub sections_more_parts : {Stops : ℕ → Error E → S → Type 0} {id : ℕ} {f : Tree} {start rest rest' : List ℕ} {s0 s n l s' : S} {old new mid held new' : Sections} {last now : Option SectionId} →
      (d : SectionsDone asked adds start s0 old rest last s new) (reached : Reached asked Stops f rest rest' last now s n) (put : PutBefore asked adds last f s n new mid)
      (g : GivesFramed asked id f Stops (n, mid) (l, held) (Ok tt)) (close : PutBehind asked adds f l s' held new') → let e = sections_more d reached put g close in
      (e.read ≡ d.read ++ g.readable.0 ∷ []) × (e.made ≡ d.made ++ (g.reading g.readable.0 g.readable.1).0 ∷ []) × (e.text ≡ d.text ++ reached.framed.text)
  unfolding sections_more section_here
  sections_more_parts d reached put g close = (refl, refl, refl)

  -- ---- the ends of the loop

  module _ {start bytes rest : List ℕ} {s0 s : S} {old new : Sections} {last : Option SectionId} (reads : bytes ≡ core_header ++ start)
      (d : SectionsDone asked adds start s0 old rest last s new) where
    read_ahead : (t : Tree) → CoreReading bytes t → Ahead d.read rest t []
    read_ahead t r =
        let same : start ≡ r.rest = append_cancel_left core_header start r.rest (sym reads ∙ r.stands) in
        ahead d.read start d.text rest r.rest [] t d.spells d.stands r.spells (same ∙ sym (append-nil r.rest)) none_behind

    fault_ahead : (before : List Tree) (left : List ℕ) → FaultAt bytes before left → Ahead d.read rest (alsos before Tree.finish) left
    fault_ahead before left f =
        let same : start ≡ f.front.text ++ left = append_cancel_left core_header start (f.front.text ++ left) (sym reads ∙ f.front.stands) in
        ahead d.read start d.text rest f.front.text left (alsos before Tree.finish) d.spells d.stands f.front.spells same f.front.ends

    refused_at : {e : Error E} {s' : S} (t u : Tree) → closed_off asked old.ceiling last s t ≡ refused e s' → walk asked old.ceiling s0 (alsos d.read (Tree.also t u)) ≡ refused e s'
    refused_at {e = e} {s' = s'} t u h =
        let step : walk_from asked old.ceiling last s (Tree.also t u) ≡ refused e s' = also_closed asked old.ceiling last s t u ∙ rw h refl in
        d.accepts (Tree.also t u) ∙ ap (λ (r : Step S (Error E) Tree). onto d.made r) step

    more_before : (before : List Tree) (t u : Tree) → alsos before Tree.finish ≡ alsos d.read (Tree.also t u) → before ≡ d.read ++ t ∷ list_of u
    more_before before t u e = sym (append-nil before) ∙ sym (list_of-alsos before Tree.finish) ∙ ap list_of e ∙ list_of-alsos d.read (Tree.also t u)

    accepted_before : (before : List Tree) → before ≡ d.read → AcceptsSections asked old.ceiling s0 before d.made last s
    accepted_before before e = λ others. rw e (d.accepts others)

    refused_in : {e : Error E} {s' : S} (before : List Tree) (t u : Tree) → before ≡ d.read ++ t ∷ list_of u → closed_off asked old.ceiling last s t ≡ refused e s' →
        RefusedIn asked old.ceiling s0 before e s'
    refused_in before t u e h others = rw (e, alsos-append d.read (t ∷ list_of u) others) (refused_at t (alsos (list_of u) others) h)

    -- what was added when a refusal comes, and why it comes
    stopped : (e : Error E) (s' : S) (new' : Sections) (t u : Tree) (part : List SectionRow) → t ≡ alsos d.read u → Gains new new' part →
        StopsNext asked adds old.ceiling last s u part e s' → StopsWoven asked adds old.ceiling (s0, old) t (s', new') e
    stopped e s' new' t u part f gains stops = record {
      read = d.read;
      others = u;
      made = d.woven;
      rows = d.rows;
      part = part;
      last = last;
      at = s;
      parts = f;
      ends = d.ends;
      weaves = d.weaves;
      fits = d.fits;
      gains = gains_both old new new' d.rows part d.gains gains;
      spelled = d.spelled ∙ sym (normal-alsos d.woven);
      stops = stops;
    }

    -- the sections so far, as they became others
    abbrev front : WovenFront asked adds old.ceiling bytes s0
    front = record {
      read = d.read;
      text = d.text;
      rest = rest;
      made = d.woven;
      last = last;
      at = s;
      spells = d.spells;
      stands = reads ∙ ap (λ (z : List ℕ). core_header ++ z) d.stands;
      ends = d.ends;
      weaves = d.weaves;
      fits = d.fits;
    }

    -- what stands behind them of the hook's own sections
    gained : {e : Error E} {s' : S} {new' : Sections} {part : List SectionRow} → Gains new new' part → AddedThere asked adds old.ceiling last s rest e s' part →
        GainsBefore asked adds bytes (s0, old) (s', new') e
    gained {new' = new'} {part = part} gains there = inr (record {
      front = front;
      rows = d.rows;
      part = part;
      gains = gains_both old new new' d.rows part d.gains gains;
      spelled = d.spelled ∙ sym (normal-alsos d.woven);
      there = there;
    })

    -- and all that was added there fits
    fits_up_to : {e : Error E} {s' : S} {part : List SectionRow} → AddedThere asked adds old.ceiling last s rest e s' part → e ≢ NoMemory → FitsUpTo asked adds old.ceiling bytes s0 s' e
    fits_up_to {part = part} there other = inr (front, part, there)

    -- the section hook was to add one that is too large
    own_large : {e : Error E} → OwnNext asked adds old.ceiling last s rest e → OwnTooLarge asked adds old.ceiling bytes s0 e
    own_large h = record { front = front; own = h }

    own_under : (own : List SectionRow) (e : Error E) → IsOwn new.ceiling own e → IsOwn old.ceiling own e
    own_under own e h =
        let ceiling : new.ceiling ≡ old.ceiling = ap Sections.ceiling d.gains in
        let P : ℕ → Type 0 = λ c. IsOwn c own e in
        subst P ceiling h

    -- the same of a refusal of the hook
    own_or_refused : {s' : S} (own : List SectionRow) (step : Step S (Error E) ℕ) (e : Error E) → IsOwn new.ceiling own e ⊎ ((e ≢ NoMemory → step ≡ refused e s') × IfParse e (λ at. ⊥)) → e ≢ NoMemory →
        IsOwn old.ceiling own e ⊎ (step ≡ refused e s')
    own_or_refused own step e (inl x) other = inl (own_under own e x)
    own_or_refused own step e (inr q) other = inr (q.0 other)

    -- why a section, or a hook at it, is refused, where that is not of the hook's own sections
    abbrev Refuses : Tree → Error E → S → Type 0
    Refuses f e m =
        ((t : Tree) → InFrame t f → e ≢ NoMemory → closed_off asked old.ceiling last s t ≡ refused e m) × IfParse e (λ at. ⊥)
        × IfRefused e (((t : Tree) × InFrame t f) ⊎ StopsThere asked old.ceiling rest last s e m)

    -- a section, or a hook at it, is refused
    section_refused : {f : Tree} {left : List ℕ} {s' : S} {new' : Sections} {part : List SectionRow} (e : Error E) → Begins frame rest f left →
        ((t : Tree) → InFrame t f → (part : List SectionRow) × Gains new new' part × StopsHooked asked adds old.ceiling last s t part e s') →
        OwnTooLarge asked adds old.ceiling bytes s0 e ⊎ Refuses f e s' → Gains new new' part → AddedThere asked adds old.ceiling last s rest e s' part →
        GivesWoven asked adds bytes (s0, old) (s', new') (Err e)
    section_refused {f = f} {left = left_behind} {s' = s'} {new' = new'} e there stops by gains stood = record {
      reading = λ t r. go t (read_ahead t r);
      readable = tt;
      fits = tt;
      cause = why by;
      gained = gained gains stood;
    }
      where
        go : (t : Tree) → Ahead d.read rest t [] → StopsWoven asked adds old.ceiling (s0, old) t (s', new') e
        go t (same a empty) = absurd (some_begun there empty)
        go t (more u v left a b) = let h = stops u (frame_there there b) in stopped e s' new' t (Tree.also u v) h.0 a h.1 h.2

        -- where the section has a reading, the fault does not stand here
        either : (w : Error E) → ((t : Tree) → InFrame t f → closed_off asked old.ceiling last s t ≡ refused w s') →
            ((t : Tree) × InFrame t f) ⊎ StopsThere asked old.ceiling rest last s w s' → (before : List Tree) (left : List ℕ) → FaultAt bytes before left →
            Ahead d.read rest (alsos before Tree.finish) left → RefusedIn asked old.ceiling s0 before w s'
            ⊎ ((made : List Tree) × (last : Option SectionId) × (n : S) × AcceptsSections asked old.ceiling s0 before made last n × StopsThere asked old.ceiling left last n w s')
        either w h q before left fault (more t u behind a b) = inl (refused_in before t u (more_before before t u a) (h t (frame_there there b)))
        either w h (inl q) before left fault (same a r) =
            let b = section_there q.1 there in
            absurd (fault.front.ends.none b.text left_behind q.0 b.spells (sym r ∙ b.reads))
        either w h (inr q) before left fault (same a r) =
            let P : List ℕ → Type 0 = λ z. StopsThere asked old.ceiling z last s w s' in
            inr (d.made, last, s, accepted_before before (same_sections before d.read a), subst P r q)

        before_fault : (w : Error E) → ((t : Tree) → InFrame t f → closed_off asked old.ceiling last s t ≡ refused w s') →
            ((t : Tree) × InFrame t f) ⊎ StopsThere asked old.ceiling rest last s w s' → BeforeFault asked old.ceiling bytes s0 s' w
        before_fault w h q = ((start, reads), λ before left fault. either w h q before left fault (fault_ahead before left fault))

        cause : (w : Error E) → ((t : Tree) → InFrame t f → w ≢ NoMemory → closed_off asked old.ceiling last s t ≡ refused w s') → IfParse w (λ at. ⊥) →
            IfRefused w (((t : Tree) × InFrame t f) ⊎ StopsThere asked old.ceiling rest last s w s') → IsCause asked old.ceiling bytes s0 s' w
        cause NoMemory h p q = tt
        cause (UserError x) h p q = before_fault (UserError x) (λ t i. h t i (λ c. cc)) q
        cause (TooLarge x) h p q = before_fault (TooLarge x) (λ t i. h t i (λ c. cc)) q
        cause _ h p q = absurd p

        why : OwnTooLarge asked adds old.ceiling bytes s0 e ⊎ Refuses f e s' → IsWovenCause asked adds old.ceiling bytes s0 s' e
        why (inl own) = inr own
        why (inr q) = inl (cause e q.0 q.1 q.2, fits_up_to stood)

    -- no section begins, though bytes are left: there is no reading
    no_reading : BeginsNone section rest → rest ≢ [] → (t : Tree) → CoreReading bytes t → ⊥
    no_reading none some t r = go (read_ahead t r)
      where
        go : Ahead d.read rest t [] → ⊥
        go (same f empty) = some empty
        go (more u v left f b) = none.none b.text left u b.spells b.reads

    fault_here : BeginsNone section rest → rest ≢ [] → FaultAt bytes d.read rest
    fault_here none some = record {
      front = record { text = d.text; spells = d.spells; stands = reads ∙ ap (λ (z : List ℕ). core_header ++ z) d.stands; ends = none };
      some = some;
    }

    -- and so an error at the place
    fault_behind : {s' : S} {new' : Sections} {part : List SectionRow} (at : ℕ) → BeginsNone section rest → rest ≢ [] → (InvalidCodeSize rest → ⊥) → at ≡ length bytes - length rest →
        Gains new new' part → AddedThere asked adds old.ceiling last s rest (ParseError (record { at = at })) s' part →
        GivesWoven asked adds bytes (s0, old) (s', new') (Err (ParseError (record { at = at })))
    fault_behind {s' = s'} {new' = new'} at none some other place gains stood = record {
      reading = λ t r. absurd (no_reading none some t r);
      readable = tt;
      fits = tt;
      cause = inl (inr (d.read, rest, fault_here none some, other, place, d.made, last, s, d.accepts), fits_up_to stood);
      gained = gained gains stood;
    }

    -- no frame begins
    pub no_frame : (f : Fault) (at : ℕ) → NoFrame f rest at → at ≡ length bytes - length rest →
        GivesWoven asked adds bytes (s0, old) (s, new) (Err (error_of_fault f))
    no_frame (fault.Read x) at h place =
        fault_behind x.at (none_section h.1) h.2 h.3 (h.0 ∙ place) (gains_none new) (AddedThere.unframed h.1 h.2 refl)
    no_frame fault.CodeSize at h place =
        let none = none_section h.0 in
        let some = code_size_some h.1 in
        let stood : AddedThere asked adds old.ceiling last s rest InvalidCodeSectionSize s [] = AddedThere.unframed h.0 some refl in
        record {
          reading = λ t r. absurd (no_reading none some t r);
          readable = tt;
          fits = tt;
          cause = inl ((d.read, rest, fault_here none some, h.1, d.made, last, d.accepts), fits_up_to stood);
          gained = gained (gains_none new) stood;
        }
    no_frame (fault.Header k) at h place = absurd h
    no_frame fault.NoMemory at h place = absurd h

    -- the error of the hook before a section
    pub hook_refused : (k : SectionId) {left body : List ℕ} {s' : S} {new' : Sections} (e : Error E) → Begins frame rest (numbered_frame (number k) body) left →
        HookStops (asked s (Section last (Some k))) (adds s (Section last (Some k))) s' new new' e → GivesWoven asked adds bytes (s0, old) (s', new') (Err e)
    hook_refused k {left = left} {body = body} {s' = s'} {new' = new'} e there h =
        section_refused e there stops (why h.3) h.1 (AddedThere.hook k body left there (h.2, own_or_refused own (asked s (Section last (Some k))) e h.3))
      where
        own : List SectionRow
        own = adds s (Section last (Some k))

        told : {t : Tree} → InFrame t (numbered_frame (number k) body) → announced asked s last t ≡ asked s (Section last (Some k))
        told i = (kind_announced asked k s last i).0

        stops : (t : Tree) → InFrame t (numbered_frame (number k) body) → (part : List SectionRow) × Gains new new' part × StopsHooked asked adds old.ceiling last s t part e s'
        stops t i =
            let P : List SectionRow → Type 0 = λ z. StopsHook old.ceiling z h.0 (announced asked s last t) e s' in
            let Q : Step S (Error E) ℕ → Type 0 = λ z. e ≢ NoMemory → IsOwn old.ceiling own e ⊎ (z ≡ refused e s') in
            (h.0, h.1, inl (subst P (sym (kind_put adds (λ j. Section last (Some j)) k s i)) (h.2, subst Q (sym (told i)) (own_or_refused own (asked s (Section last (Some k))) e h.3))))

        why : IsOwn new.ceiling own e ⊎ ((e ≢ NoMemory → asked s (Section last (Some k)) ≡ refused e s') × IfParse e (λ at. ⊥)) →
            OwnTooLarge asked adds old.ceiling bytes s0 e ⊎ Refuses (numbered_frame (number k) body) e s'
        why (inl x) = inl (own_large {e = e} (inr (k, body, left, there, inl (own_under own e x))))
        why (inr q) = inr (
          (λ t i other. told_refused asked old.ceiling last s s' t e (told i ∙ q.0 other)),
          q.1,
          unless_wanting e (λ other. inr (inl (record { id = k; body = body; left = left; framed = there; stops = inl (q.0 other) }))),
        )

    -- a section's error, at the section's place
    pub section_err : {Stops : ℕ → Error E → S → Type 0} {id : ℕ} {f : Tree} {left : List ℕ} {now : Option SectionId} {n s' : S} {mid new' : Sections} (e : Error E) (at : ℕ) →
        Reached asked Stops f rest left last now s n → PutBefore asked adds last f s n new mid → GivesFramed asked id f Stops (n, mid) (s', new') (Err e) → at ≡ length bytes - length rest →
        GivesWoven asked adds bytes (s0, old) (s', new') (Err (placed_at e at))
    section_err {Stops = Stops} {id = id} {f = f} {left = left} {n = n} {s' = s'} {mid = mid} {new' = new'} e at reached put given place = go e given
      where
        ceiling : mid.ceiling ≡ old.ceiling
        ceiling = ap Sections.ceiling put.gains ∙ ap Sections.ceiling d.gains

        walked : (w : Error E) → GivesFramed asked id f Stops (n, mid) (s', new') (Err w) → (t : Tree) → InFrame t f → w ≢ NoMemory → walk asked old.ceiling n t ≡ refused w s'
        walked w g t i other = let W : ℕ → Type 0 = λ c. walk asked c n t ≡ refused w s' in subst W ceiling ((g.reading t i).1 other)

        own_gains : (w : Error E) → GivesFramed asked id f Stops (n, mid) (s', new') (Err w) → Gains new new' put.own
        own_gains w g = let P : Sections → Type 0 = λ z. Gains new z put.own in subst P (sym g.unchanged) put.gains

        fitting : (size : ℕ) → ¬ HasTooLarge old.ceiling put.own size
        fitting = let A : ℕ → Type 0 = λ z. AllFit z put.own in none_too_large (subst A (ap Sections.ceiling d.gains) put.fits)

        stops : (w : Error E) → GivesFramed asked id f Stops (n, mid) (s', new') (Err w) → (t : Tree) → InFrame t f →
            (part : List SectionRow) × Gains new new' part × StopsHooked asked adds old.ceiling last s t part w s'
        stops w g t i =
            let own = added_put put.there t i in
            let F : List SectionRow → Type 0 = λ z. (size : ℕ) → ¬ HasTooLarge old.ceiling z size in
            (put.own, own_gains w g, inr (n, reached.told t i, inl (sym own, subst F (sym own) fitting, walked w g t i)))

        -- all that the hook added stands
        added_there : (v : Error E) → ((t : Tree) → InFrame t f → v ≢ NoMemory → walk asked old.ceiling n t ≡ refused v s') → AddedThere asked adds old.ceiling last s rest v s' put.own
        added_there v refuses = AddedThere.section f left n reached.framed put.there fitting refuses

        -- what was refused inside it
        inside : (w : Error E) → GivesFramed asked id f Stops (n, mid) (s', new') (Err w) → IfRefused w (((t : Tree) × InFrame t f) ⊎ StopsThere asked old.ceiling rest last s w s')
        inside w g = IfRefused-map w behind g.refusal
          where
            behind : ((t : Tree) × InFrame t f) ⊎ Stops mid.ceiling w s' → ((t : Tree) × InFrame t f) ⊎ StopsThere asked old.ceiling rest last s w s'
            behind (inl q) = inl q
            behind (inr q) = let Q : ℕ → Type 0 = λ c. Stops c w s' in inr (reached.stops old.ceiling w s' (subst Q ceiling q))

        refuses : (w : Error E) → IfParse w (λ at. ⊥) → GivesFramed asked id f Stops (n, mid) (s', new') (Err w) → GivesWoven asked adds bytes (s0, old) (s', new') (Err w)
        refuses w usual g =
            section_refused w reached.framed (stops w g) (inr ((λ t i other. walk_refused asked old.ceiling last s n s' t w (reached.told t i) (walked w g t i other)), usual, inside w g))
            (own_gains w g) (added_there w (walked w g))

        go : (w : Error E) → GivesFramed asked id f Stops (n, mid) (s', new') (Err w) → GivesWoven asked adds bytes (s0, old) (s', new') (Err (placed_at w at))
        go (ParseError x) g =
            fault_behind at (none_in_frame reached.framed g.unreadable) (some_begun reached.framed) (code_size_other reached.framed) place
            (own_gains (ParseError x) g) (added_there (ParseError (record { at = at })) (λ t i. absurd (g.unreadable t i)))
        go (UserError x) g = refuses (UserError x) tt g
        go (TooLarge x) g = refuses (TooLarge x) tt g
        go NoMemory g = refuses NoMemory tt g
        go _ g = absurd g.unreadable

    -- the error of the closing hook behind a section, which stands then
    pub closing_refused : {Stops : ℕ → Error E → S → Type 0} (k : SectionId) {left body : List ℕ} {n l s' : S} {mid held new' : Sections} (e : Error E) → Begins frame rest (numbered_frame (number k) body) left →
        (asked s (Section last (Some k)) ≡ accepted 0 n) × Gains new mid (adds s (Section last (Some k))) → AllFit new.ceiling (adds s (Section last (Some k))) →
        GivesFramed asked (number k) (numbered_frame (number k) body) Stops (n, mid) (l, held) (Ok tt) → HookStops (asked l (Closed k)) (adds l (Closed k)) s' held new' e →
        GivesWoven asked adds bytes (s0, old) (s', new') (Err e)
    closing_refused k {left = left} {body = body} {n = n} {l = l} {s' = s'} {mid = mid} {held = held} {new' = new'} e there told fit g h =
        section_refused e there stops (why h.3)
        (part_gains t in_it) (AddedThere.closing k body left n t (g.reading t in_it).0 l (row t in_it) h.0 there told.0 fitting in_it (walked t in_it) (g.reading t in_it).4 (h.2, by) refl)
      where
        t : Tree
        t = g.readable.0

        in_it : InFrame t (numbered_frame (number k) body)
        in_it = g.readable.1

        own : List SectionRow
        own = adds s (Section last (Some k))

        closing : List SectionRow
        closing = adds l (Closed k)

        row : (u : Tree) → InFrame u (numbered_frame (number k) body) → SectionRow
        row u i = section_row (number k) (g.reading u i).1

        to_held : mid.ceiling ≡ old.ceiling
        to_held = ap Sections.ceiling told.1 ∙ ap Sections.ceiling d.gains

        of_held : held.ceiling ≡ old.ceiling
        of_held = ap Sections.ceiling (g.reading t in_it).3 ∙ to_held

        walked : (u : Tree) (i : InFrame u (numbered_frame (number k) body)) → walk asked old.ceiling n u ≡ accepted (g.reading u i).0 l
        walked u i = let W : ℕ → Type 0 = λ c. walk asked c n u ≡ accepted (g.reading u i).0 l in subst W to_held (g.reading u i).2

        part_gains : (u : Tree) (i : InFrame u (numbered_frame (number k) body)) → Gains new new' (own ++ row u i ∷ h.0)
        part_gains u i = gains_both new mid new' own (row u i ∷ h.0) told.1 (gains_both mid held new' (row u i ∷ []) h.0 (g.reading u i).3 h.1)

        announced_is : (u : Tree) → InFrame u (numbered_frame (number k) body) → announced asked s last u ≡ accepted 0 n
        announced_is u i = (kind_announced asked k s last i).0 ∙ told.0

        fitting : (size : ℕ) → ¬ HasTooLarge old.ceiling own size
        fitting = let A : ℕ → Type 0 = λ z. AllFit z own in none_too_large (subst A (ap Sections.ceiling d.gains) fit)

        own_there : (w : Error E) → IsOwn held.ceiling closing w → IsOwn old.ceiling closing w
        own_there w x = let P : ℕ → Type 0 = λ c. IsOwn c closing w in subst P of_held x

        either : IsOwn held.ceiling closing e ⊎ ((e ≢ NoMemory → asked l (Closed k) ≡ refused e s') × IfParse e (λ at. ⊥)) → e ≢ NoMemory → IsOwn old.ceiling closing e ⊎ (asked l (Closed k) ≡ refused e s')
        either (inl x) other = inl (own_there e x)
        either (inr r) other = inr (r.0 other)

        by : e ≢ NoMemory → IsOwn old.ceiling closing e ⊎ (asked l (Closed k) ≡ refused e s')
        by = either h.3

        stops : (u : Tree) → InFrame u (numbered_frame (number k) body) → (part : List SectionRow) × Gains new new' part × StopsHooked asked adds old.ceiling last s u part e s'
        stops u i =
            let P : List SectionRow → Type 0 = λ z. StopsHook old.ceiling z h.0 (followed asked l u) e s' in
            let Q : Step S (Error E) ℕ → Type 0 = λ z. e ≢ NoMemory → IsOwn old.ceiling closing e ⊎ (z ≡ refused e s') in
            let F : List SectionRow → Type 0 = λ z. (size : ℕ) → ¬ HasTooLarge old.ceiling z size in
            let puts : own ≡ put_before adds s last u = sym (kind_put adds (λ j. Section last (Some j)) k s i) in (
              own ++ row u i ∷ h.0,
              part_gains u i,
              inr (
                n,
                announced_is u i,
                inr (
                  (g.reading u i).0,
                  l,
                  row u i,
                  h.0,
                  walked u i,
                  (g.reading u i).4,
                  ap (λ (z : List SectionRow). z ++ row u i ∷ h.0) puts,
                  subst F puts fitting,
                  subst P (sym (kind_put adds (λ j. Closed j) k l i)) (h.2, subst Q (sym (kind_followed asked k l i)) by),
                ),
              ),
            )

        why : IsOwn held.ceiling closing e ⊎ ((e ≢ NoMemory → asked l (Closed k) ≡ refused e s') × IfParse e (λ at. ⊥)) →
            OwnTooLarge asked adds old.ceiling bytes s0 e ⊎ Refuses (numbered_frame (number k) body) e s'
        why (inl x) =
            inl (own_large {e = e} (inr (
              k,
              body,
              left,
              there,
              inr (record {
                from = n;
                told = told.0;
                fits = fitting;
                tree = t;
                there = in_it;
                made = (g.reading t in_it).0;
                at = l;
                walked = walked t in_it;
                own = own_there e x;
              }),
            )))
        why (inr r) = inr (
          (λ u i other. followed_refused asked old.ceiling last s n l s' u (g.reading u i).0 e (announced_is u i) (walked u i) (kind_followed asked k l i ∙ r.0 other)),
          r.1,
          unless_wanting e (λ other. inl (t, in_it)),
        )

    -- where memory runs out in a section, all that the hook added before it stands, and nothing of the section
    pub section_held : {f : Tree} {left : List ℕ} {n s' : S} {mid new' : Sections} (framed : Begins frame rest f left) → PutBefore asked adds last f s n new mid → new' ≡ mid →
        FrameLeaves asked framed.text f n NoMemory s' → HoldsSections asked adds old.ceiling bytes (s0, old) (s', new')
    section_held {f = f} {left = left} {n = n} {new' = new'} framed put unchanged inside = record {
      front = front;
      parts = λ t r. go t (read_ahead t r);
      rows = d.rows;
      own = put.own;
      next = f;
      left = left;
      state = n;
      framed = framed;
      hooked = put.there;
      spelled = d.spelled ∙ sym (normal-alsos d.woven);
      gains = let P : Sections → Type 0 = λ z. Gains new z put.own in gains_both old new new' d.rows put.own d.gains (subst P (sym unchanged) put.gains);
      inside = inside;
    }
      where
        go : (t : Tree) → Ahead d.read rest t [] → (others : Tree) × (t ≡ alsos d.read others)
        go t (same e empty) = (Tree.finish, e)
        go t (more u v left e b) = (Tree.also u v, e)

    abbrev read_visits : List Visit
    read_visits = visits (alsos d.read Tree.empty)

    -- the visits of the sections so far, and of those behind them
    visits_are : (others : Tree) → visits (alsos d.read others) ≡ read_visits ++ visits_from last others
    visits_are others = visits_alsos None d.read others ∙ ap (λ (z : Option SectionId). read_visits ++ visits_from z others) (sym d.ends)

    -- the end
    pub sections_end : {s' : S} {new' : Sections} → rest ≡ [] → (asked s (Section last None) ≡ accepted 0 s') × Gains new new' (adds s (Section last None)) →
        AllFit new.ceiling (adds s (Section last None)) → GivesWoven asked adds bytes (s0, old) (s', new') (Ok tt)
    sections_end {s' = s'} {new' = new'} empty h fit = record {
      reading = λ t r. go t (read_ahead t r);
      readable = (alsos d.read Tree.finish, record { rest = start; stands = reads; spells = all });
      fits = λ t r. all_fit t (read_ahead t r);
      cause = tt;
      gained = tt;
    }
      where
        all : Spells sections start (alsos d.read Tree.finish)
        all =
            let whole : d.text ≡ start = sym (append-nil d.text) ∙ ap (λ (z : List ℕ). d.text ++ z) (sym empty) ∙ sym d.stands in
            let P : List ℕ → Type 0 = λ z. Spells sections z (alsos d.read Tree.finish) in
            subst P whole d.spells

        own : List Tree
        own = added adds s (Section last None)

        all_fit : (t : Tree) → Ahead d.read rest t [] → AddsFit asked adds old.ceiling s0 (visits t)
        all_fit t (same f _) =
            let P : List Visit → Type 0 = λ z. AddsFit asked adds old.ceiling s0 z in
            let A : ℕ → Type 0 = λ z. AllFit z (adds s (Section last None)) in
            let ran = (walk_is_run asked).forth old.ceiling s0 s (alsos d.read Tree.empty) (alsos d.made Tree.empty) (d.accepts Tree.empty) in
            subst P (sym (ap visits f ∙ visits_are Tree.finish))
            (fits_end asked adds old.ceiling ran.given read_visits (Section last None) ran.ran d.fits (subst A (ap Sections.ceiling d.gains) fit))
        all_fit t (more u v left f b) = absurd (none_behind.none b.text left u b.spells (sym empty ∙ b.reads))

        go : (t : Tree) → Ahead d.read rest t [] → GivesWovenModule asked adds (s0, old) t (s', new') (Ok tt)
        go t (same f _) =
            let last_step : weave_from asked (added adds) old.ceiling last s Tree.finish ≡ accepted (alsos own Tree.finish) s' = rw h.0 refl in
            let woven : weave asked (added adds) old.ceiling s0 t ≡ accepted (alsos d.woven (alsos own Tree.finish)) s' =
            rw f (d.weaves Tree.finish ∙ ap (λ (r : Step S (Error E) Tree). onto d.woven r) last_step) in
            let spelled : sections_bytes (d.rows ++ adds s (Section last None)) ≡ normals (d.woven ++ own) = spelled_both d.rows (adds s (Section last None)) d.woven own d.spelled (spelled_added (adds s (Section last None))) in (
              alsos d.woven (alsos own Tree.finish),
              d.rows ++ adds s (Section last None),
              woven,
              gains_both old new new' d.rows (adds s (Section last None)) d.gains h.1,
              spelled ∙ sym (normal-alsos (d.woven ++ own)) ∙ ap normal (alsos-append d.woven own Tree.finish),
            )
        go t (more u v left f b) = absurd (none_behind.none b.text left u b.spells (sym empty ∙ b.reads))

    pub end_refused : {s' : S} {new' : Sections} (e : Error E) → rest ≡ [] → HookStops (asked s (Section last None)) (adds s (Section last None)) s' new new' e →
        GivesWoven asked adds bytes (s0, old) (s', new') (Err e)
    end_refused {s' = s'} {new' = new'} e empty h = record {
      reading = λ t r. go t (read_ahead t r);
      readable = tt;
      fits = tt;
      cause = why h.3;
      gained = gained h.1 there;
    }
      where
        own : List SectionRow
        own = adds s (Section last None)

        by : e ≢ NoMemory → IsOwn old.ceiling own e ⊎ (asked s (Section last None) ≡ refused e s')
        by = own_or_refused own (asked s (Section last None)) e h.3

        there : AddedThere asked adds old.ceiling last s rest e s' h.0
        there = AddedThere.at_end empty (h.2, by)

        go : (t : Tree) → Ahead d.read rest t [] → StopsWoven asked adds old.ceiling (s0, old) t (s', new') e
        go t (same f _) = stopped e s' new' t Tree.finish h.0 f h.1 (h.2, by)
        go t (more u v left f b) = absurd (none_behind.none b.text left u b.spells (sym empty ∙ b.reads))

        no_fault : (before : List Tree) (left : List ℕ) → FaultAt bytes before left → Ahead d.read rest (alsos before Tree.finish) left → ⊥
        no_fault before left fault (same f r) = fault.some (sym r ∙ empty)
        no_fault before left fault (more t u behind f b) = none_behind.none b.text behind t b.spells (sym empty ∙ b.reads)

        before_fault : (w : Error E) → BeforeFault asked old.ceiling bytes s0 s' w
        before_fault w = ((start, reads), λ before left fault. absurd (no_fault before left fault (fault_ahead before left fault)))

        cause : (w : Error E) → IfParse w (λ at. ⊥) → IsCause asked old.ceiling bytes s0 s' w
        cause NoMemory q = tt
        cause (UserError x) q = before_fault (UserError x)
        cause (TooLarge x) q = before_fault (TooLarge x)
        cause _ q = absurd q

        why : IsOwn new.ceiling own e ⊎ ((e ≢ NoMemory → asked s (Section last None) ≡ refused e s') × IfParse e (λ at. ⊥)) → IsWovenCause asked adds old.ceiling bytes s0 s' e
        why (inl x) = inr (own_large {e = e} (inl (empty, own_under own e x)))
        why (inr q) = inl (cause e q.1, fits_up_to there)

    -- ---- the visits that were made

    -- these visits were made behind them
    pub core_leaves : {m : S} (e : Error E) (mid : List Visit) → EndsBy asked s mid e m → Drawn rest mid → (rest ≡ [] → IsFront mid (Section last None ∷ [])) →
        ((t : Tree) (left : List ℕ) → Begins section rest t left → (¬ TellsFault e) × IsFront mid (before last t ++ (visits t ++ behind t))) → Leaves asked (module_in bytes) s0 e m
    core_leaves {m = m} e mid ended drawn at_end next = record {
      made = read_visits ++ mid;
      ended = ended_behind asked e read_visits mid ((walk_is_run asked).forth old.ceiling s0 s (alsos d.read Tree.empty) (alsos d.made Tree.empty) (d.accepts Tree.empty)).ran ended;
      drawn = drawn_behind core_header start reads (drawn_joined start read_visits mid (drawn_front d.text rest d.stands d.drawn) (drawn_behind d.text rest d.stands drawn));
      reading = λ t r. whole t (read_ahead t r);
      fault = λ none t left f. up_to t left f;
    }
      where
        -- of the next section
        section_front : (u v : Tree) → IsFront mid (before last u ++ (visits u ++ behind u)) → IsFront (read_visits ++ mid) (visits (alsos d.read (Tree.also u v)))
        section_front u v f =
            let others : List Visit = visits_from (kind last u) v in
            let own : List Visit = visits u ++ behind u in
            let parts : visits (alsos d.read (Tree.also u v)) ≡ read_visits ++ ((before last u ++ own) ++ others) =
            visits_are (Tree.also u v)
            ∙ ap (λ (z : List Visit). read_visits ++ (before last u ++ z)) (sym (append_assoc (visits u) (behind u) others))
            ∙ ap (λ (z : List Visit). read_visits ++ z) (sym (append_assoc (before last u) own others)) in
            front_same (sym parts) (front_then read_visits (front_first others f))

        whole : (t : Tree) → Ahead d.read rest t [] → IsFront (read_visits ++ mid) (visits t)
        whole t (same f empty) = front_same (sym (ap visits f ∙ visits_are Tree.finish)) (front_then read_visits (at_end empty))
        whole t (more u v left f b) = front_same (sym (ap visits f)) (section_front u v (next u left b).1)

        up_to : (t : Tree) (left : List ℕ) → CoreUpTo bytes t left → MadeUpTo e (read_visits ++ mid) (visits t) left
        up_to t left (CoreUpTo.sections before left' fault) = go (fault_ahead before left' fault)
          where
            go : Ahead d.read rest (alsos before Tree.finish) left' → MadeUpTo e (read_visits ++ mid) (visits (alsos before Tree.empty)) left'
            go (same a r) =
                let P : List ℕ → Type 0 = λ z. Drawn z mid in
                let are : before ≡ d.read = same_sections before d.read a in
                inr (mid, ap (λ (z : List Tree). visits (alsos z Tree.empty) ++ mid) (sym are), subst P r drawn)
            go (more u v behind a b) =
                let n = next u behind b in
                let are : alsos before Tree.empty ≡ alsos d.read (Tree.also u (alsos (list_of v) Tree.empty)) =
                ap (λ (z : List Tree). alsos z Tree.empty) (more_before before u v a) ∙ alsos-append d.read (u ∷ list_of v) Tree.empty in
                inl (n.0, front_same (sym (ap visits are)) (section_front u (alsos (list_of v) Tree.empty) n.1))

    -- no frame begins
    pub core_leaves_none : (f : Fault) (at : ℕ) → NoFrame f rest at → Leaves asked (module_in bytes) s0 (error_of_fault f) s
    core_leaves_none f at h =
        core_leaves (error_of_fault f) [] (ended_all {a = []} (error_of_fault f) (fault_unasked E f) refl) drawn_none (λ empty. front_none (Section last None ∷ []))
        (λ t left b. absurd ((none f h).none b.text left t b.spells b.reads))
      where
        none : (f : Fault) → NoFrame f rest at → BeginsNone section rest
        none (fault.Read x) h = none_section h.1
        none fault.CodeSize h = none_section h.0
        none (fault.Header k) h = absurd h
        none fault.NoMemory h = absurd h

    -- the hook before a section was refused
    pub core_leaves_hook : {m : S} (k : SectionId) (e : Error E) {left body : List ℕ} → Begins frame rest (numbered_frame (number k) body) left → EndsBy asked s (Section last (Some k) ∷ []) e m →
        ¬ TellsFault e → Leaves asked (module_in bytes) s0 e m
    core_leaves_hook k e there ended tells =
        core_leaves e (Section last (Some k) ∷ []) ended drawn_hook (λ empty. absurd (some_begun there empty))
        (λ t left b. (tells, front_first (visits t ++ behind t) (front_same (sym ((told_before last).kind k (frame_there there b))) (front_all (Section last (Some k) ∷ [])))))

    -- a section was asked in part
    pub core_leaves_inside : {Stops : ℕ → Error E → S → Type 0} {f : Tree} {left : List ℕ} {now : Option SectionId} {m n : S} → Reached asked Stops f rest left last now s n → (framed : Begins frame rest f left) (e : Error E) (at : ℕ) →
        ((t : Tree) → InFrame t f → ¬ TellsFault e) → FrameLeaves asked framed.text f n e m → Leaves asked (module_in bytes) s0 (placed_at e at) m
    core_leaves_inside {left = left} reached framed e at tells l =
        core_leaves (placed_at e at) (reached.hook ++ l.made) (ended_placed e at (ended_behind asked e reached.hook l.made reached.ran l.ended)) (drawn_joined rest reached.hook l.made (reached.drawn rest) (drawn_front framed.text left framed.reads l.drawn))
        (λ empty. absurd (some_begun reached.framed empty))
        (λ t left b.
        let i = frame_there reached.framed b in
        let P : List Visit → Type 0 = λ z. IsFront (reached.hook ++ l.made) (z ++ (visits t ++ behind t)) in
        ((λ h. tells t i (tells_placed e at h)), subst P (sym (reached.visited t i)) (front_then reached.hook (front_first (behind t) (l.reading t i)))))

    -- behind a section that was accepted these visits were made, a front part of that of the closing hook
    pub core_leaves_closing : {Stops : ℕ → Error E → S → Type 0} {id : ℕ} (k : SectionId) {body left : List ℕ} {now : Option SectionId} {n l m : S} {mid held : Sections} (e : Error E) →
        Reached asked Stops (numbered_frame (number k) body) rest left last now s n → GivesFramed asked id (numbered_frame (number k) body) Stops (n, mid) (l, held) (Ok tt) →
        (made : List Visit) → IsFront made (Closed k ∷ []) → EndsBy asked l made e m → ((x : List ℕ) → Drawn x made) → ¬ TellsFault e → Leaves asked (module_in bytes) s0 e m
    core_leaves_closing k {left = left} {n = n} {l = l} {m = m} {mid = mid} e reached g made part ended drawn tells =
        core_leaves e (reached.hook ++ (visits t ++ made)) (ended_behind asked e reached.hook (visits t ++ made) reached.ran (ended_behind asked e (visits t) made inside.1 ended))
        (drawn_joined rest reached.hook (visits t ++ made) (reached.drawn rest) (drawn_joined rest (visits t) made (drawn_front found.0.text left found.0.reads found.1) (drawn rest)))
        (λ empty. absurd (some_begun reached.framed empty)) next
      where
        t : Tree
        t = g.readable.0

        found : (b : Begins section rest t left) × Drawn b.text (visits t)
        found = section_here g.readable.1 reached.framed

        inside : (given : List ℕ) × (run asked n (visits t) ≡ accepted given l)
        inside = let w = (walk_is_run asked).forth mid.ceiling n l t (g.reading t g.readable.1).0 (g.reading t g.readable.1).2 in (w.given, w.ran)

        next : (u : Tree) (left' : List ℕ) → Begins section rest u left' → (¬ TellsFault e) × IsFront (reached.hook ++ (visits t ++ made)) (before last u ++ (visits u ++ behind u))
        next u left' b =
            let i = frame_there reached.framed b in
            let same : u ≡ t = same_there found.0 b in
            let P : List Visit → Type 0 = λ z. IsFront (reached.hook ++ (visits t ++ made)) (z ++ (visits u ++ behind u)) in
            let Q : Tree → Type 0 = λ z. IsFront (reached.hook ++ (visits t ++ made)) (reached.hook ++ (visits z ++ behind u)) in
            let R : List Visit → Type 0 = λ z. IsFront (reached.hook ++ (visits t ++ made)) (reached.hook ++ (visits t ++ z)) in
            (tells, subst P (sym (reached.visited u i)) (subst Q (sym same) (subst R (sym (told_behind.kind k i)) (front_then reached.hook (front_then (visits t) part)))))

    -- the hook at the end was refused
    pub core_leaves_end : {m : S} (e : Error E) → rest ≡ [] → EndsBy asked s (Section last None ∷ []) e m → Leaves asked (module_in bytes) s0 e m
    core_leaves_end e empty ended =
        core_leaves e (Section last None ∷ []) ended drawn_hook (λ same. front_all (Section last None ∷ [])) (λ t left b. absurd (none_behind.none b.text left t b.spells (sym empty ∙ b.reads)))

  -- ---- no module

  -- the header is missing
  pub header_wrong : {bytes : List ℕ} (s : S) (old : Sections) (f : Fault) → NoCoreHeader f bytes → GivesWoven asked adds bytes (s, old) (s, old) (Err (error_of_fault f))
  header_wrong {bytes = bytes} s old (fault.Header kinds.Component) there = record {
    reading = λ t r. absurd (let e : core_header ++ r.rest ≡ component_header ++ there.0 = sym r.stands ∙ there.1 in cc);
    readable = tt;
    fits = tt;
    cause = inl ((there.0, there.1, refl), λ other. inl never);
    gained = inl (never, refl);
  }
    where
      never : (rest : List ℕ) → bytes ≡ core_header ++ rest → ⊥
      never rest stands = let e : core_header ++ rest ≡ component_header ++ there.0 = sym stands ∙ there.1 in cc
  header_wrong s old (fault.Read x) none = record {
    reading = λ t r. absurd ((none.1 r.rest).0 r.stands);
    readable = tt;
    fits = tt;
    cause = inl (inl (none.1, none.0, refl), λ other. inl (λ rest. (none.1 rest).0));
    gained = inl ((λ rest. (none.1 rest).0), refl);
  }
  header_wrong s old (fault.Header kinds.Module) none = absurd none
  header_wrong s old fault.CodeSize none = absurd none
  header_wrong s old fault.NoMemory none = absurd none

-- no header of a core module stands there
pub no_header : (f : Fault) {bytes : List ℕ} → NoCoreHeader f bytes → (rest : List ℕ) → bytes ≡ core_header ++ rest → ⊥
no_header (fault.Header kinds.Component) there rest stands = let e : core_header ++ rest ≡ component_header ++ there.0 = sym stands ∙ there.1 in cc
no_header (fault.Read x) none rest stands = (none.1 rest).0 stands
no_header (fault.Header kinds.Module) none rest stands = none
no_header fault.CodeSize none rest stands = none
no_header fault.NoMemory none rest stands = none

-- the section hook at the end
pub end_given : {S E : Type 0} (reply : S → Visit → Result ℕ E) (next : S → Visit → S) (adds : Puts S SectionRow) {start bytes rest : List ℕ} {s0 s : S} {old new : Sections} {last : Option SectionId} →
    bytes ≡ core_header ++ start → SectionsDone (ask reply next) adds start s0 old rest last s new → rest ≡ [] → (s' : S) (new' : Sections) (r : Result (Unit {0}) (Error E)) →
    RepliesSection reply next adds s s' new new' (Section last None) r → OnOk r (AllFit new.ceiling (adds s (Section last None))) → GivesWoven (ask reply next) adds bytes (s0, old) (s', new') r
end_given reply next adds {s = s} {new = new} {last = last} reads d empty s' new' (Ok u) h fit = sections_end (ask reply next) adds reads d empty h fit
end_given reply next adds {s = s} {new = new} {last = last} reads d empty s' new' (Err e) h fit =
    end_refused (ask reply next) adds reads d e empty (hook_stops reply next adds s s' new new' (Section last None) e h)

pub end_left : {S E : Type 0} (reply : S → Visit → Result ℕ E) (next : S → Visit → S) (adds : Puts S SectionRow) {sure nothing : Bool} → KeepsAdds adds nothing →
    {start bytes rest : List ℕ} {s0 s : S} {old new : Sections} {last : Option SectionId} → bytes ≡ core_header ++ start →
    SectionsDone (ask reply next) adds start s0 old rest last s new → rest ≡ [] → (s' : S) (new' : Sections) (r : Result (Unit {0}) (Error E)) →
    RepliesSection reply next adds s s' new new' (Section last None) r → NeverWants sure r → LeavesCore sure nothing (ask reply next) (module_in bytes) s0 s' r
end_left reply next adds keeps reads d empty s' new' (Ok u) h never = tt
end_left reply next adds keeps {s = s} {new = new} {last = last} reads d empty s' new' (Err e) h never =
    λ told size. core_leaves_end (ask reply next) adds reads d e empty
    (one_ended reply next e (Section last None) (hook_told reply next adds s s' new new' (Section last None) e h (λ q. keeps s (Section last None) (λ _. size q)) (not_wanting e never told)))
