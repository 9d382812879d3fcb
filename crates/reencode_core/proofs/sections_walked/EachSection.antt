-- The loop over the sections of a module, and what the call gives at each of its ends.
use Rattle.std.proofs.Common.{◌≡◌, ◌≢◌, ◌-◌, ◌≤◌, ℕ, List, [], ◌∷◌, ◌++◌, append-nil, length, Bool, Option, Some, None, Result, Ok, Err, IfErr, IsErrAnd, OnOk, IsTrue, refl, sym, ap, ◌∙◌, subst}
use Rattle.wasm_leb.specs.declared.fault.Fault.{Fault}
use Rattle.wasm_leb.specs.declared.fault.Fault.TheVariants as fault
use Rattle.wasm_leb.specs.declared.fault.Kind.TheVariants as kinds
use Rattle.wasm_shapes.specs.declared.SectionId.{SectionId}
use Rattle.wasm_shapes.specs.declared.Visit.{Visit}
use Rattle.wasm_shapes.specs.declared.Visit.TheVariants.{Section, Closed}
use Rattle.wasm_shapes.proofs.Drawn.{drawn_closing, drawn_none}
use Rattle.wasm_shapes.specs.Tree.{Tree, visits}
use Rattle.wasm_shapes.specs.Place.{Begins}
use Rattle.wasm_shapes.specs.Shape.{Shape}
use Rattle.wasm_shapes.specs.Module.{frame, numbered_frame, custom_frame, unknown_tree_of}
use Rattle.wasm_shapes.specs.SectionTable.{number}
use Rattle.wasm_shapes.proofs.SectionTable.{kind_in_frame, custom_in_frame, unknown_in_frame}
use Rattle.wasm_read.specs.Frames.{sections_place, HeaderRead, NoCoreHeader}
use Rattle.wasm_read.specs.Frames as read
use Rattle.wasm_read.specs.Payloads.{NoFrame}
use Rattle.wasm_write.specs.Sections.{AllFit, Sections}
use Rattle.reencode_hooks.specs.declared.error.Error.{Error}
use Rattle.reencode_hooks.specs.declared.error.Error.TheVariants.{NoMemory}
use Rattle.reencode_core.specs.Rows.{Asks}
use Rattle.reencode_hooks.specs.declared.indices.ReencodeIndices.{Ghosts}
use Rattle.reencode_hooks.specs.Errors.{error_of_fault}
use Rattle.reencode_hooks.specs.Hooks.{RepliesSection, KeepsAdds}
use Rattle.reencode_hooks.specs.Run.{NeverWants, LeavesVisited, ask}
use Rattle.reencode_core.proofs.after_error.VisitsMade.{drawn_made, either_made, ended_all, fault_unasked, front_none, front_same, not_wanting, one_ended, placed_wants, front_all, tells_if, tells_none, wants_placed}
use Rattle.reencode_core.proofs.after_error.SectionVisited.{custom_drawn, numbered_drawn}
use Rattle.reencode_core.specs.Errors.{placed_at}
use Rattle.reencode_core.specs.Sections.{KeepsModule, GivesAdded, StopsSection}
use Rattle.reencode_core.specs.Names.{StopsCustom}
use Rattle.reencode_core.specs.Woven.{AddedAt, GivesWoven}
use Rattle.reencode_core.specs.Holds.{FrameLeaves, HoldsCore}
use Rattle.reencode_core.specs.Leaves.{CoreUpTo, EndsBy, Leaves, TellsFault, LeavesCore, NoCoreHeading, LeavesMade, custom_in, module_in, section_in}
use Rattle.reencode_core.specs.Clauses.{CoreClauses, CustomClauses, ModuleClauses, SectionClauses, UnknownClauses, asks}
use Rattle.reencode_core.proofs.weave.AddsNothing.{added_none, core_given}
use Rattle.reencode_core.proofs.sections_walked.CoreLoop.{SectionsDone, PutBefore, nothing_put, closing_refused, core_leaves_closing, core_leaves_hook, core_leaves_inside, core_leaves_none, end_given, end_left, header_wrong, hook_refused, hook_told, hook_usual, no_header, hook_stops, no_frame, section_err, section_held, sections_begin, sections_more}
use Rattle.reencode_core.proofs.sections_walked.AnySection.{GivesFramed, Reached, kind_gives, kind_reached, custom_gives, custom_reached, unknown_gives, unknown_reached}
use Rattle.reencode_core.proofs.sections_walked.KnownKind.{keeps_same, keeps_more, hook_keeps}
use Rattle.reencode_core.proofs.rows_walked.OneRow.{answers}

-- the sections so far are walked and added
pub record SectionsKept {S E : Type 0} (i : Ghosts S E) (start : read.Sections) (s0 : S) (old : Sections) (reader : read.Sections) (last : Option SectionId) (s : S) (new : Sections) : Type 0 where
  pub kept : KeepsModule old new
  pub len : reader.len ≡ start.len
  pub done : IsTrue i.keeps_defaults → SectionsDone (asks i) i.adds start.rest s0 old reader.rest last s new

-- the clauses of a section hook
abbrev pub HookClauses : {S E : Type 0} → Ghosts S E → S → S → Sections → Sections → Visit → Result (Unit {0}) (Error E) → Type 0
HookClauses i s m old new v result =
    record {
      answer : RepliesSection i.reply i.next i.adds s m old new v result;
      sure : NeverWants i.sure result;
      fits : OnOk result (AllFit old.ceiling (i.adds s v));
    }

-- ---- what an error of a section leaves

-- what begins there fills its own text
in_text : {shape : Shape} {bytes left : List ℕ} {t : Tree} (there : Begins shape bytes t left) → Begins shape there.text t []
in_text there = record { text = there.text; spells = there.spells; reads = sym (append-nil there.text) }

module _ {S E : Type 0} (asked : Asks S E) {bytes left : List ℕ} (n m : S) (sure : Bool) where
  kind_leaves : (k : SectionId) {body : List ℕ} (framed : Begins frame bytes (numbered_frame (number k) body) left) (r : Result (Unit {0}) (Error E)) →
      LeavesMade sure asked (section_in k body) n m r → IfErr r (λ e. (e ≡ NoMemory → IsTrue sure) → FrameLeaves asked framed.text (numbered_frame (number k) body) n e m)
  kind_leaves k framed (Ok u) given = tt
  kind_leaves k {body = body} framed (Err e) given = λ told.
      let l = given told in
      record { made = l.made; ended = l.ended; drawn = numbered_drawn (in_text framed) l.drawn; reading = λ t there. l.reading t (kind_in_frame k body t there) }

  custom_leaves : {name contents : List ℕ} (framed : Begins frame bytes (custom_frame name contents) left) (r : Result (Unit {0}) (Error E)) →
      LeavesMade sure asked (custom_in name contents) n m r → IfErr r (λ e. (e ≡ NoMemory → IsTrue sure) → FrameLeaves asked framed.text (custom_frame name contents) n e m)
  custom_leaves framed (Ok u) given = tt
  custom_leaves {name = name} {contents = contents} framed (Err e) given = λ told.
      let l = given told in
      record { made = l.made; ended = l.ended; drawn = custom_drawn (in_text framed) l.drawn; reading = λ t there. l.reading t (custom_in_frame name contents t there) }

unknown_leaves : {S E : Type 0} (reply : S → Visit → Result ℕ E) (next : S → Visit → S) {id : ℕ} (bytes contents : List ℕ) (s m : S) (old new : Sections) (sure : Bool) → 14 ≤ id → (r : Result (Unit {0}) (Error E)) →
    GivesAdded (ask reply next) id (s, old) (unknown_tree_of id contents) (m, new) r → (IsTrue sure → LeavesVisited (ask reply next) s [] m r) →
    IfErr r (λ e. (e ≡ NoMemory → IsTrue sure) → FrameLeaves (ask reply next) bytes (numbered_frame id contents) s e m)
unknown_leaves reply next bytes contents s m old new sure low (Ok u) gives given = tt
unknown_leaves reply next {id = id} bytes contents s m old new sure low (Err e) gives given = λ told.
    let p = either_made reply next old.ceiling (unknown_tree_of id contents) e gives.1 (λ h. given (told h)) in
    record {
      made = p.part;
      ended = p.ended;
      drawn = drawn_made p.front drawn_none;
      reading = λ t there. front_same (sym (ap visits (unknown_in_frame id contents t low there))) p.front;
    }

-- no header stands there
headless_leaves : {S E : Type 0} (asked : Asks S E) {bytes : List ℕ} (s : S) (f : Fault) → NoCoreHeader f bytes → Leaves asked (module_in bytes) s (error_of_fault f) s
headless_leaves {E = E} asked {bytes = bytes} s f wrong = record {
  made = [];
  ended = ended_all {a = []} (error_of_fault f) (fault_unasked E f) refl;
  drawn = drawn_none;
  reading = λ t r. front_none (visits t);
  fault = λ none t rest up. absurd (by t rest up);
}
  where
    by : (t : Tree) (rest : List ℕ) → CoreUpTo bytes t rest → ⊥
    by t rest (CoreUpTo.sections before left fault) = no_header f wrong (fault.front.text ++ left) fault.front.stands

module _ {S E : Type 0} (i : Ghosts S E) where
  -- what holds where sections are added says what holds where none is
  core_clauses : KeepsAdds i.adds i.adds_nothing → {bytes : List ℕ} {s m : S} {old new : Sections} (r : Result (Unit {0}) (Error E)) → KeepsModule old new →
      (IsTrue i.keeps_defaults → GivesWoven (asks i) i.adds bytes (s, old) (m, new) r) →
      (IsTrue i.keeps_defaults → LeavesCore i.sure i.adds_nothing (asks i) (module_in bytes) s m r) → (NoCoreHeading bytes → m ≡ s) → CoreClauses i bytes s old m new r
  core_clauses keeps {bytes = bytes} {s = s} {m = m} {old = old} {new = new} r kept woven leaves headless = record {
    kept = kept;
    default = λ k none. core_given (asks i) i.adds (added_none keeps none) bytes (s, old) (m, new) r (woven k);
    woven = woven;
    after_error = leaves;
    headless = λ k. headless;
  }

  pub core_headless : KeepsAdds i.adds i.adds_nothing → {bytes : List ℕ} {s : S} {old : Sections} (f : Fault) → NoCoreHeader f bytes → (r : Result (Unit {0}) (Error E)) → IsErrAnd r (λ y. y ≡ error_of_fault f) →
      CoreClauses i bytes s old s old r
  core_headless keeps {bytes = bytes} {s = s} {old = old} f wrong r q =
      let P : Result (Unit {0}) (Error E) → Type 0 = λ z. CoreClauses i bytes s old s old z in
      subst P (answers r q) (core_clauses keeps (Err (error_of_fault f)) (keeps_same old) (λ k. header_wrong (asks i) i.adds s old f wrong) (λ k told size. headless_leaves (asks i) s f wrong) (λ none. refl))

  pub sections_begun : (start : read.Sections) (s : S) (old : Sections) → SectionsKept i start s old start None s old
  sections_begun start s old = record { kept = keeps_same old; len = refl; done = λ k. sections_begin (asks i) i.adds start.rest s old }

  module _ (keeps : KeepsAdds i.adds i.adds_nothing) {bytes : List ℕ} {start : read.Sections} (header : HeaderRead bytes start) {s0 : S} {old : Sections}
      {reader : read.Sections} {last : Option SectionId} {s : S} {new : Sections} (inv : SectionsKept i start s0 old reader last s new) where
    headed : {m : S} → NoCoreHeading bytes → m ≡ s0
    headed none = absurd (none start.rest header.stands)

    -- a place, counted from the first byte
    counted : {at : ℕ} → at ≡ sections_place reader → at ≡ length bytes - length reader.rest
    counted e = e ∙ ap (λ (n : ℕ). n - length reader.rest) (inv.len ∙ header.len)

    -- no frame begins
    pub core_unframed : (f : Fault) → NoFrame f reader.rest (sections_place reader) → (r : Result (Unit {0}) (Error E)) → IsErrAnd r (λ y. y ≡ error_of_fault f) → CoreClauses i bytes s0 old s new r
    core_unframed f none r q =
        let P : Result (Unit {0}) (Error E) → Type 0 = λ z. CoreClauses i bytes s0 old s new z in
        subst P (answers r q)
        (core_clauses keeps (Err (error_of_fault f)) inv.kept (λ k. no_frame (asks i) i.adds header.stands (inv.done k) f _ none (counted refl))
        (λ k told size. core_leaves_none (asks i) i.adds header.stands (inv.done k) f _ none) headed)

    -- the hook before a section is refused
    pub core_hook_refused : (k : SectionId) {body left : List ℕ} {n : S} {mid : Sections} (e : Error E) → Begins frame reader.rest (numbered_frame (number k) body) left →
        HookClauses i s n new mid (Section last (Some k)) (Err e) → (r : Result (Unit {0}) (Error E)) → IsErrAnd r (λ y. y ≡ e) → CoreClauses i bytes s0 old n mid r
    core_hook_refused k {n = n} {mid = mid} e framed hook r q =
        let P : Result (Unit {0}) (Error E) → Type 0 = λ z. CoreClauses i bytes s0 old n mid z in
        subst P (answers r q)
        (core_clauses keeps (Err e) (keeps_more old new mid inv.kept (hook_keeps i.reply i.next i.adds s n new mid (Section last (Some k)) (Err e) hook.answer))
        (λ d. hook_refused (asks i) i.adds header.stands (inv.done d) k e framed (hook_stops i.reply i.next i.adds s n new mid (Section last (Some k)) e hook.answer))
        (λ d told size.
        let stops = hook_told i.reply i.next i.adds s n new mid (Section last (Some k)) e hook.answer (λ h. keeps s (Section last (Some k)) (λ _. size h)) in
        core_leaves_hook (asks i) i.adds header.stands (inv.done d) k e framed (one_ended i.reply i.next e (Section last (Some k)) (stops (not_wanting e hook.sure told)))
        (tells_none e (hook_usual i.reply i.next i.adds s n new mid (Section last (Some k)) e stops))) headed)

    -- the section in a frame is reached, and the call that maps it gave this
    abbrev pub Called : (ℕ → Error E → S → Type 0) → ℕ → Tree → List ℕ → Option SectionId → S → Sections → S → Sections → Result (Unit {0}) (Error E) → Type 0
    Called Stops id f left now n mid m new' r =
        record {
          framed : Begins frame reader.rest f left;
          kept : KeepsModule old new';
          reached : IsTrue i.keeps_defaults → Reached (asks i) Stops f reader.rest left last now s n;
          put : PutBefore (asks i) i.adds last f s n new mid;
          gives : IsTrue i.keeps_defaults → GivesFramed (asks i) id f Stops (n, mid) (m, new') r;
          leaves : IsTrue i.keeps_defaults → IfErr r (λ e. (e ≡ NoMemory → IsTrue i.sure) → FrameLeaves (asks i) framed.text f n e m);
        }

    -- one of a known kind, behind the section hook
    pub kind_called : (k : SectionId) {body left : List ℕ} {n : S} {mid : Sections} {u : Unit {0}} {m : S} {new' : Sections} {r : Result (Unit {0}) (Error E)} →
        Begins frame reader.rest (numbered_frame (number k) body) left → HookClauses i s n new mid (Section last (Some k)) (Ok u) → SectionClauses i k body n mid m new' r →
        Called (λ c e m. StopsSection (asks i) c k body n e m) (number k) (numbered_frame (number k) body) left (Some k) n mid m new' r
    kind_called k {body = body} {n = n} {mid = mid} {u = u} {new' = new'} {r = r} framed hook given = record {
      framed = framed;
      kept = keeps_more old mid new' (keeps_more old new mid inv.kept (hook_keeps i.reply i.next i.adds s n new mid (Section last (Some k)) (Ok u) hook.answer)) given.kept;
      reached = λ d. kind_reached (asks i) k framed hook.answer.0;
      put = record { own = i.adds s (Section last (Some k)); gains = hook.answer.1; there = AddedAt.known k body n hook.answer.0; fits = hook.fits };
      gives = λ d. kind_gives r k framed (given.default d);
      leaves = λ d. kind_leaves (asks i) _ _ i.sure k framed r (given.after_error d);
    }

    -- a custom one
    pub custom_called : {name contents left : List ℕ} {m : S} {new' : Sections} {r : Result (Unit {0}) (Error E)} → Begins frame reader.rest (custom_frame name contents) left →
        CustomClauses i name contents s new m new' r →
        Called (λ c e m. StopsCustom (asks i) c name contents s e m) 0 (custom_frame name contents) left last s new m new' r
    custom_called {name = name} {contents = contents} {new' = new'} {r = r} framed given = record {
      framed = framed;
      kept = keeps_more old new new' inv.kept given.kept;
      reached = λ d. custom_reached (asks i) framed;
      put = nothing_put (AddedAt.custom name contents);
      gives = λ d. custom_gives r (given.default d);
      leaves = λ d. custom_leaves (asks i) _ _ i.sure framed r (given.after_error d);
    }

    -- one of another id
    pub unknown_called : {id : ℕ} {contents left : List ℕ} {m : S} {new' : Sections} {r : Result (Unit {0}) (Error E)} → 14 ≤ id →
        Begins frame reader.rest (numbered_frame id contents) left → UnknownClauses i id contents s new m new' r →
        Called (λ c e m. ⊥) id (numbered_frame id contents) left last s new m new' r
    unknown_called {id = id} {contents = contents} {m = m} {new' = new'} {r = r} low framed given = record {
      framed = framed;
      kept = keeps_more old new new' inv.kept given.kept;
      reached = λ d. unknown_reached (asks i) low framed;
      put = nothing_put (AddedAt.unknown id contents low);
      gives = λ d. unknown_gives r low framed (given.default d) (given.usual d);
      leaves = λ d. unknown_leaves i.reply i.next _ _ _ _ _ _ i.sure low r (given.default d) (given.after_error d);
    }

    module _ {Stops : ℕ → Error E → S → Type 0} {id : ℕ} {f : Tree} {left : List ℕ} {now : Option SectionId} {n m : S} {mid new' : Sections} where
      -- it was mapped, and no hook is asked behind it
      pub core_more : {reader' : read.Sections} → reader'.rest ≡ left → reader'.len ≡ reader.len → Called Stops id f left now n mid m new' (Ok tt) → AddedAt (asks i) i.adds (λ k. Closed k) m f m [] →
          SectionsKept i start s0 old reader' now m new'
      core_more behind len call none =
          let P : List ℕ → Type 0 = λ z. SectionsDone (asks i) i.adds start.rest s0 old z now m new' in record {
            kept = call.kept;
            len = len ∙ inv.len;
            done = λ d. subst P (sym behind) (sections_more (asks i) i.adds (inv.done d) (call.reached d) call.put (call.gives d) (nothing_put none));
          }

      -- it is refused, or has no reading
      pub core_section_refused : (e : Error E) (at : ℕ) → Called Stops id f left now n mid m new' (Err e) → at ≡ sections_place reader → (r : Error E) → r ≡ placed_at e at →
          CoreClauses i bytes s0 old m new' (Err r)
      core_section_refused e at call place r q =
          let P : Error E → Type 0 = λ z. CoreClauses i bytes s0 old m new' (Err z) in
          subst P (sym q)
          (core_clauses keeps (Err (placed_at e at)) call.kept (λ d. section_err (asks i) i.adds header.stands (inv.done d) e at (call.reached d) call.put (call.gives d) (counted place))
          (λ d told size. core_leaves_inside (asks i) i.adds header.stands (inv.done d) (call.reached d) call.framed e at (λ t i. tells_if e (λ at h. h t i) (call.gives d).unreadable) (call.leaves d (λ h. told (wants_placed e at h)))) headed)

    -- it was mapped, and the closing hook accepted
    pub core_closed : {Stops : ℕ → Error E → S → Type 0} {id : ℕ} (k : SectionId) {body left : List ℕ} {now : Option SectionId} {n l m : S} {mid held new' : Sections} {reader' : read.Sections} {u : Unit {0}} →
        reader'.rest ≡ left → reader'.len ≡ reader.len → Called Stops id (numbered_frame (number k) body) left now n mid l held (Ok tt) → HookClauses i l m held new' (Closed k) (Ok u) →
        SectionsKept i start s0 old reader' now m new'
    core_closed k {body = body} {now = now} {l = l} {m = m} {held = held} {new' = new'} behind len call hook =
        let P : List ℕ → Type 0 = λ z. SectionsDone (asks i) i.adds start.rest s0 old z now m new' in record {
          kept = keeps_more old held new' call.kept (hook_keeps i.reply i.next i.adds l m held new' (Closed k) (Ok tt) hook.answer);
          len = len ∙ inv.len;
          done = λ d.
              subst P (sym behind)
              (sections_more (asks i) i.adds (inv.done d) (call.reached d) call.put (call.gives d) (record { own = i.adds l (Closed k); gains = hook.answer.1; there = AddedAt.known k body m hook.answer.0; fits = hook.fits }));
        }

    -- what holds where the closing hook refused, beside the visits that were made
    module _ {Stops : ℕ → Error E → S → Type 0} (k : SectionId) {body left : List ℕ} {now : Option SectionId} {n : S} (l m : S) {mid : Sections} (held new' : Sections) {u : Unit {0}} (e : Error E)
        (call : Called Stops (number k) (numbered_frame (number k) body) left now n mid l held (Ok tt)) (before : HookClauses i s n new mid (Section last (Some k)) (Ok u))
        (answer : RepliesSection i.reply i.next i.adds l m held new' (Closed k) (Err e)) where
      pub closing_kept : KeepsModule old new'
      closing_kept = keeps_more old held new' call.kept (hook_keeps i.reply i.next i.adds l m held new' (Closed k) (Err e) answer)

      pub closing_woven : IsTrue i.keeps_defaults → GivesWoven (asks i) i.adds bytes (s0, old) (m, new') (Err e)
      closing_woven d =
          closing_refused (asks i) i.adds header.stands (inv.done d) k e call.framed before.answer before.fits (call.gives d) (hook_stops i.reply i.next i.adds l m held new' (Closed k) e answer)

      -- where the visit of the hook ended them
      pub closing_left : IsTrue i.keeps_defaults → EndsBy (asks i) l (Closed k ∷ []) e m → ¬ TellsFault e → Leaves (asks i) (module_in bytes) s0 e m
      closing_left d ended tells =
          core_leaves_closing (asks i) i.adds header.stands (inv.done d) k e (call.reached d) (call.gives d) (Closed k ∷ []) (front_all (Closed k ∷ [])) ended (λ x. drawn_closing) tells

    -- the closing hook is refused
    pub core_closing_refused : {Stops : ℕ → Error E → S → Type 0} (k : SectionId) {body left : List ℕ} {now : Option SectionId} {n l m : S} {mid held new' : Sections} {u : Unit {0}} (e : Error E) →
        Called Stops (number k) (numbered_frame (number k) body) left now n mid l held (Ok tt) → HookClauses i s n new mid (Section last (Some k)) (Ok u) →
        HookClauses i l m held new' (Closed k) (Err e) → (r : Result (Unit {0}) (Error E)) → IsErrAnd r (λ y. y ≡ e) → CoreClauses i bytes s0 old m new' r
    core_closing_refused k {l = l} {m = m} {held = held} {new' = new'} e call before hook r q =
        let P : Result (Unit {0}) (Error E) → Type 0 = λ z. CoreClauses i bytes s0 old m new' z in
        subst P (answers r q)
        (core_clauses keeps (Err e) (closing_kept k l m held new' e call before hook.answer) (closing_woven k l m held new' e call before hook.answer)
        (λ d told size.
        let stops = hook_told i.reply i.next i.adds l m held new' (Closed k) e hook.answer (λ h. keeps l (Closed k) (λ _. size h)) in
        closing_left k l m held new' e call before hook.answer d (one_ended i.reply i.next e (Closed k) (stops (not_wanting e hook.sure told)))
        (tells_none e (hook_usual i.reply i.next i.adds l m held new' (Closed k) e stops))) headed)

    -- the hook at the end
    pub core_ended : {n : S} {mid : Sections} → reader.rest ≡ [] → (r : Result (Unit {0}) (Error E)) → HookClauses i s n new mid (Section last None) r → CoreClauses i bytes s0 old n mid r
    core_ended {n = n} {mid = mid} empty r hook =
        core_clauses keeps r (keeps_more old new mid inv.kept (hook_keeps i.reply i.next i.adds s n new mid (Section last None) r hook.answer))
        (λ d. end_given i.reply i.next i.adds header.stands (inv.done d) empty n mid r hook.answer hook.fits)
        (λ d. end_left i.reply i.next i.adds keeps header.stands (inv.done d) empty n mid r hook.answer hook.sure) headed

-- ---- the same with what the module holds

module _ {S E : Type 0} (i : Ghosts S E) (keeps : KeepsAdds i.adds i.adds_nothing) where
  both : {bytes : List ℕ} {s m : S} {old new : Sections} {r : Result (Unit {0}) (Error E)} → CoreClauses i bytes s old m new r →
      (IsTrue i.keeps_defaults → IsTrue i.sure → HoldsCore (asks i) i.adds bytes (s, old) (m, new) r) → ModuleClauses i bytes s old m new r
  both given wants = record { kept = given.kept; default = given.default; woven = given.woven; after_error = given.after_error; headless = given.headless; wants = wants }

  -- memory did not run out
  unwanted : {bytes : List ℕ} {s m : S} {old new : Sections} (e : Error E) (r : Result (Unit {0}) (Error E)) → IsErrAnd r (λ y. y ≡ e) → CoreClauses i bytes s old m new r →
      (IsTrue i.sure → e ≢ NoMemory) → ModuleClauses i bytes s old m new r
  unwanted {bytes = bytes} {s = s} {m = m} {old = old} {new = new} e r q given other =
      let P : Result (Unit {0}) (Error E) → Type 0 = λ z. HoldsCore (asks i) i.adds bytes (s, old) (m, new) z in
      both given (λ k sure. subst P (answers r q) (λ h. absurd (other sure h)))

  pub module_headless : {bytes : List ℕ} {s : S} {old : Sections} (f : Fault) → NoCoreHeader f bytes → (r : Result (Unit {0}) (Error E)) → IsErrAnd r (λ y. y ≡ error_of_fault f) →
      ModuleClauses i bytes s old s old r
  module_headless {bytes = bytes} f wrong r q = unwanted (error_of_fault f) r q (core_headless i keeps f wrong r q) (λ sure. known f wrong)
    where
      known : (f : Fault) → NoCoreHeader f bytes → error_of_fault {E = E} f ≢ NoMemory
      known (fault.Read x) h = λ q. cc
      known (fault.Header kinds.Component) h = λ q. cc
      known (fault.Header kinds.Module) h = absurd h
      known fault.CodeSize h = absurd h
      known fault.NoMemory h = absurd h

  module _ {bytes : List ℕ} {start : read.Sections} (header : HeaderRead bytes start) {s0 : S} {old : Sections} {reader : read.Sections} {last : Option SectionId} {s : S} {new : Sections}
      (inv : SectionsKept i start s0 old reader last s new) where
    pub module_unframed : (f : Fault) → NoFrame f reader.rest (sections_place reader) → (r : Result (Unit {0}) (Error E)) → IsErrAnd r (λ y. y ≡ error_of_fault f) → ModuleClauses i bytes s0 old s new r
    module_unframed f none r q = unwanted (error_of_fault f) r q (core_unframed i keeps header inv f none r q) (λ sure. known f none)
      where
        known : (f : Fault) → NoFrame f reader.rest (sections_place reader) → error_of_fault {E = E} f ≢ NoMemory
        known (fault.Read x) h = λ q. cc
        known fault.CodeSize h = λ q. cc
        known (fault.Header k) h = absurd h
        known fault.NoMemory h = absurd h

    pub module_hook_refused : (k : SectionId) {body left : List ℕ} {n : S} {mid : Sections} (e : Error E) → Begins frame reader.rest (numbered_frame (number k) body) left →
        HookClauses i s n new mid (Section last (Some k)) (Err e) → (r : Result (Unit {0}) (Error E)) → IsErrAnd r (λ y. y ≡ e) → ModuleClauses i bytes s0 old n mid r
    module_hook_refused k e framed hook r q = unwanted e r q (core_hook_refused i keeps header inv k e framed hook r q) (λ sure. not_wanting e hook.sure (λ h. sure))

    pub module_closing_refused : {Stops : ℕ → Error E → S → Type 0} (k : SectionId) {body left : List ℕ} {now : Option SectionId} {n l m : S} {mid held new' : Sections} {u : Unit {0}} (e : Error E) →
        Called i keeps header inv Stops (number k) (numbered_frame (number k) body) left now n mid l held (Ok tt) → HookClauses i s n new mid (Section last (Some k)) (Ok u) →
        HookClauses i l m held new' (Closed k) (Err e) → (r : Result (Unit {0}) (Error E)) → IsErrAnd r (λ y. y ≡ e) → ModuleClauses i bytes s0 old m new' r
    module_closing_refused k e call before hook r q = unwanted e r q (core_closing_refused i keeps header inv k e call before hook r q) (λ sure. not_wanting e hook.sure (λ h. sure))

    pub module_section_refused : {Stops : ℕ → Error E → S → Type 0} {id : ℕ} {f : Tree} {left : List ℕ} {now : Option SectionId} {n m : S} {mid new' : Sections} (e : Error E) (at : ℕ) →
        Called i keeps header inv Stops id f left now n mid m new' (Err e) → at ≡ sections_place reader → (r : Error E) → r ≡ placed_at e at → ModuleClauses i bytes s0 old m new' (Err r)
    module_section_refused {f = f} {n = n} {m = m} e at call place r q =
        both (core_section_refused i keeps header inv e at call place r q)
        (λ k sure h.
        let P : Error E → Type 0 = λ z. FrameLeaves (asks i) call.framed.text f n z m in
        let wants : e ≡ NoMemory = placed_wants e at (sym q ∙ h) in
        section_held (asks i) i.adds header.stands (inv.done k) call.framed call.put (call.gives k).unchanged (subst P wants (call.leaves k (λ h. sure))))

    pub module_ended : {n : S} {mid : Sections} → reader.rest ≡ [] → (r : Result (Unit {0}) (Error E)) → HookClauses i s n new mid (Section last None) r → ModuleClauses i bytes s0 old n mid r
    module_ended {n = n} {mid = mid} empty r hook = both (core_ended i keeps header inv empty r hook) (λ k sure. never r hook.sure sure)
      where
        never : (r : Result (Unit {0}) (Error E)) → NeverWants i.sure r → IsTrue i.sure → HoldsCore (asks i) i.adds bytes (s0, old) (n, mid) r
        never (Ok u) wants sure = tt
        never (Err e) wants sure = λ h. absurd (not_wanting e wants (λ h. sure) h)
