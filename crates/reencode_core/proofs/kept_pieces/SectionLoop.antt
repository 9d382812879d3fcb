-- The loop over the sections of a module in pieces, where the section hooks are called with a module of their own.
use Rattle.std.proofs.Common.{◌≡◌, inl, inr, ℕ, List, [], ◌∷◌, ◌++◌, Option, Some, None, Result, Ok, Err, IsErrAnd, OnOk, IsTrue, refl, sym, subst}
use Rattle.wasm_shapes.specs.declared.SectionId.{SectionId}
use Rattle.wasm_shapes.specs.declared.Visit.{Visit}
use Rattle.wasm_shapes.specs.declared.Visit.TheVariants.{Section, Closed}
use Rattle.wasm_shapes.specs.Tree.{before, behind, visits}
use Rattle.wasm_shapes.specs.Place.{Begins}
use Rattle.wasm_shapes.specs.Module.{frame, numbered_frame}
use Rattle.wasm_shapes.specs.SectionTable.{number}
use Rattle.wasm_read.specs.Frames.{HeaderRead}
use Rattle.wasm_read.specs.Frames as read
use Rattle.wasm_write.specs.Sections.{AllFit, Sections}
use Rattle.reencode_hooks.specs.declared.error.Error.{Error}
use Rattle.reencode_hooks.specs.declared.error.Error.TheVariants.{NoMemory}
use Rattle.reencode_hooks.specs.declared.indices.ReencodeIndices.{Ghosts}
use Rattle.reencode_hooks.specs.Hooks.{RepliesSection, KeepsAdds}
use Rattle.wasm_shapes.proofs.Drawn.{drawn_none}
use Rattle.reencode_core.specs.Leaves.{Leaves, LeavesCore, module_in}
use Rattle.reencode_core.proofs.weave.AddsNothing.{added_none, core_given}
use Rattle.reencode_core.proofs.sections_walked.CoreLoop.{core_leaves, core_leaves_closing, core_leaves_end, core_leaves_hook, end_given, hook_refused, hook_stops, hook_told, hook_usual}
use Rattle.reencode_core.specs.Clauses.{CoreClauses}
use Rattle.reencode_core.proofs.sections_walked.EachSection.{Called, HookClauses, SectionsKept, closing_kept, closing_left, closing_woven}
use Rattle.reencode_core.proofs.sections_walked.KnownKind.{keeps_more, hook_keeps}
use Rattle.reencode_core.proofs.after_error.VisitsMade.{ended_all, front_none, not_wanting, one_ended, tells_none, wants_tells_none}
use Rattle.reencode_core.proofs.rows_walked.OneRow.{answers, asks}
use Rattle.reencode_core.specs.Sinks.{HookLeaves, LeavesHook}

module _ {S E : Type 0} (i : Ghosts S E) where
  -- a hook that answered did not want memory
  pub hook_answered : (s m : S) (old new : Sections) (v : Visit) → RepliesSection i.reply i.next i.adds s m old new v (Ok tt) → AllFit old.ceiling (i.adds s v) → HookClauses i s m old new v (Ok tt)
  hook_answered s m old new v answer fits = record { answer = answer; sure = λ sure wants. absurd cc; fits = fits }

  -- it refused
  pub hook_left : KeepsAdds i.adds i.adds_nothing → {s m : S} {old new : Sections} {v : Visit} (e : Error E) → HookClauses i s m old new v (Err e) →
      LeavesHook {A = Unit {0}} i.sure i.adds_nothing (asks i) s m v (Err e)
  hook_left keeps {s = s} {m = m} {old = old} {new = new} {v = v} e hook told size =
      let stops = hook_told i.reply i.next i.adds s m old new v e hook.answer (λ h. keeps s v (λ _. size h)) in
      inr (one_ended i.reply i.next e v (stops (not_wanting e hook.sure told)), tells_none e (hook_usual i.reply i.next i.adds s m old new v e stops))

  module _ (keeps : KeepsAdds i.adds i.adds_nothing) {bytes : List ℕ} {start : read.Sections} (header : HeaderRead bytes start) {s0 : S} {old : Sections}
      {reader : read.Sections} {last : Option SectionId} {s : S} {new : Sections} (inv : SectionsKept i start s0 old reader last s new) where
    -- memory ran out before the hook was asked
    unasked : IsTrue i.keeps_defaults → Leaves (asks i) (module_in bytes) s0 NoMemory s
    unasked d =
        core_leaves (asks i) i.adds header.stands (inv.done d) NoMemory [] (ended_all {a = []} NoMemory tt refl) drawn_none (λ empty. front_none (Section last None ∷ []))
        (λ t left b. (wants_tells_none E, front_none (before last t ++ (visits t ++ behind t))))

    wanted : {l n : S} {e : Error E} → e ≡ NoMemory → n ≡ l → Leaves (asks i) (module_in bytes) s0 NoMemory l → Leaves (asks i) (module_in bytes) s0 e n
    wanted {n = n} wants same leaves =
        let P : S → Type 0 = λ z. Leaves (asks i) (module_in bytes) s0 NoMemory z in
        let Q : Error E → Type 0 = λ z. Leaves (asks i) (module_in bytes) s0 z n in
        subst Q (sym wants) (subst P (sym same) leaves)

    -- the hook before a section is refused
    pub between_refused : (k : SectionId) {body left : List ℕ} {n : S} {mid : Sections} (e : Error E) → Begins frame reader.rest (numbered_frame (number k) body) left →
        RepliesSection i.reply i.next i.adds s n new mid (Section last (Some k)) (Err e) → LeavesHook {A = Unit {0}} i.sure i.adds_nothing (asks i) s n (Section last (Some k)) (Err e) →
        (r : Result (Unit {0}) (Error E)) → IsErrAnd r (λ y. y ≡ e) → CoreClauses i bytes s0 old n mid r
    between_refused k {n = n} {mid = mid} e framed answer leaves r q =
        let P : Result (Unit {0}) (Error E) → Type 0 = λ z. CoreClauses i bytes s0 old n mid z in
        let woven = λ (d : IsTrue i.keeps_defaults). hook_refused (asks i) i.adds header.stands (inv.done d) k e framed (hook_stops i.reply i.next i.adds s n new mid (Section last (Some k)) e answer) in
        subst P (answers r q) (record {
          kept = keeps_more old new mid inv.kept (hook_keeps i.reply i.next i.adds s n new mid (Section last (Some k)) (Err e) answer);
          default = λ d none. core_given (asks i) i.adds (added_none keeps none) bytes (s0, old) (n, mid) (Err e) (woven d);
          woven = woven;
          after_error = λ d told size. go d (leaves told size);
          headless = λ d none. absurd (none start.rest header.stands);
        })
      where
        go : IsTrue i.keeps_defaults → HookLeaves (asks i) s n (Section last (Some k)) e → Leaves (asks i) (module_in bytes) s0 e n
        go d (inl none) = wanted none.0 none.1 (unasked d)
        go d (inr h) = core_leaves_hook (asks i) i.adds header.stands (inv.done d) k e framed h.0 h.1

    -- the closing hook is refused
    pub behind_refused : {Stops : ℕ → Error E → S → Type 0} (k : SectionId) {body left : List ℕ} {now : Option SectionId} {n l m : S} {mid held new' : Sections} {u : Unit {0}} (e : Error E) →
        Called i keeps header inv Stops (number k) (numbered_frame (number k) body) left now n mid l held (Ok tt) → HookClauses i s n new mid (Section last (Some k)) (Ok u) →
        RepliesSection i.reply i.next i.adds l m held new' (Closed k) (Err e) → LeavesHook {A = Unit {0}} i.sure i.adds_nothing (asks i) l m (Closed k) (Err e) →
        (r : Result (Unit {0}) (Error E)) → IsErrAnd r (λ y. y ≡ e) → CoreClauses i bytes s0 old m new' r
    behind_refused k {l = l} {m = m} {held = held} {new' = new'} e call before answer leaves r q =
        let P : Result (Unit {0}) (Error E) → Type 0 = λ z. CoreClauses i bytes s0 old m new' z in
        let woven = closing_woven i keeps header inv k l m held new' e call before answer in
        subst P (answers r q) (record {
          kept = closing_kept i keeps header inv k l m held new' e call before answer;
          default = λ d none. core_given (asks i) i.adds (added_none keeps none) bytes (s0, old) (m, new') (Err e) (woven d);
          woven = woven;
          after_error = λ d told size. go d (leaves told size);
          headless = λ d none. absurd (none start.rest header.stands);
        })
      where
        -- memory ran out before it was asked
        unfollowed : IsTrue i.keeps_defaults → Leaves (asks i) (module_in bytes) s0 NoMemory l
        unfollowed d =
            core_leaves_closing (asks i) i.adds header.stands (inv.done d) k NoMemory (call.reached d) (call.gives d) [] (front_none (Closed k ∷ [])) (ended_all {a = []} NoMemory tt refl) (λ x. drawn_none) (wants_tells_none E)

        go : IsTrue i.keeps_defaults → HookLeaves (asks i) l m (Closed k) e → Leaves (asks i) (module_in bytes) s0 e m
        go d (inl none) = wanted none.0 none.1 (unfollowed d)
        go d (inr h) = closing_left i keeps header inv k l m held new' e call before answer d h.0 h.1

    -- the hook at the end
    pub between_ended : {n : S} {mid : Sections} → reader.rest ≡ [] → (r : Result (Unit {0}) (Error E)) → RepliesSection i.reply i.next i.adds s n new mid (Section last None) r →
        LeavesHook i.sure i.adds_nothing (asks i) s n (Section last None) r → OnOk r (AllFit new.ceiling (i.adds s (Section last None))) → CoreClauses i bytes s0 old n mid r
    between_ended {n = n} {mid = mid} empty r answer leaves fits =
        let woven = λ (d : IsTrue i.keeps_defaults). end_given i.reply i.next i.adds header.stands (inv.done d) empty n mid r answer fits in record {
          kept = keeps_more old new mid inv.kept (hook_keeps i.reply i.next i.adds s n new mid (Section last None) r answer);
          default = λ d none. core_given (asks i) i.adds (added_none keeps none) bytes (s0, old) (n, mid) r (woven d);
          woven = woven;
          after_error = λ d. left d r leaves;
          headless = λ d none. absurd (none start.rest header.stands);
        }
      where
        go : {e : Error E} → IsTrue i.keeps_defaults → HookLeaves (asks i) s n (Section last None) e → Leaves (asks i) (module_in bytes) s0 e n
        go d (inl none) = wanted none.0 none.1 (unasked d)
        go {e = e} d (inr h) = core_leaves_end (asks i) i.adds header.stands (inv.done d) e empty h.0

        left : IsTrue i.keeps_defaults → (r : Result (Unit {0}) (Error E)) → LeavesHook i.sure i.adds_nothing (asks i) s n (Section last None) r →
            LeavesCore i.sure i.adds_nothing (asks i) (module_in bytes) s0 n r
        left d (Ok u) h = tt
        left d (Err e) h = λ told size. go d (h told size)
