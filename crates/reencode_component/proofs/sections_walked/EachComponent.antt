-- The loop over the sections of a component, and what the call gives at each of its ends.
use Rattle.std.proofs.Common.{◌≡◌, ◌≢◌, ◌-◌, ◌≤◌, ℕ, List, [], length, Result, Ok, Err, IsErrAnd, IsTrue, refl, sym, ap, ◌∙◌, subst}
use Rattle.wasm_leb.specs.declared.fault.Fault.{Fault}
use Rattle.wasm_leb.specs.declared.fault.Fault.TheVariants as fault
use Rattle.wasm_leb.specs.declared.fault.Kind.TheVariants as kinds
use Rattle.wasm_shapes.specs.Module.{frame}
use Rattle.wasm_shapes.specs.Place.{Begins}
use Rattle.wasm_shapes.specs.Tree.{Tree, visits}
use Rattle.wasm_shapes.proofs.Drawn.{drawn_none}
use Rattle.wasm_read.specs.Frames as read
use Rattle.wasm_read.specs.Frames.{sections_place}
use Rattle.wasm_read_component.specs.declared.types.ComponentPayload.{ComponentPayload}
use Rattle.wasm_read_component.specs.declared.types.ComponentPayload.TheVariants as payload
use Rattle.wasm_read_component.specs.ComponentPayloads.{component_frame_tree, component_payload_at, ComponentHeaderRead, IsGiven, NoComponentFrame, NoComponentHeader}
use Rattle.wasm_write.specs.Sections.{Sections}
use Rattle.reencode_hooks.specs.declared.error.Error.{Error}
use Rattle.reencode_hooks.specs.declared.error.Error.TheVariants.{InvalidCodeSectionSize, UnexpectedNonCoreModuleSection, UnexpectedNonComponentSection, ParseError, NoMemory}
use Rattle.reencode_hooks.specs.declared.indices.ReencodeIndices.{Ghosts}
use Rattle.reencode_hooks.specs.Errors.{error_of_fault}
use Rattle.reencode_core.specs.Clauses.{asks}
use Rattle.reencode_core.specs.Leaves.{IsSize, TellsFault}
use Rattle.reencode_core.specs.Sections.{KeepsModule}
use Rattle.reencode_core.proofs.sections_walked.KnownKind.{keeps_more, keeps_same}
use Rattle.reencode_core.proofs.after_error.VisitsMade.{ended_all, fault_unasked, front_none}
use Rattle.reencode_core.proofs.rows_walked.OneRow.{answers}
use Rattle.reencode_component.specs.Causes.{IfFault, fits_inside, inside, own_inside}
use Rattle.reencode_component.specs.Gives.{GivesSectionBy}
use Rattle.reencode_component.specs.ComponentLeaves.{ComponentUpTo, LeavesSection, NoComponentHeading}
use Rattle.reencode_component.specs.ComponentClauses.{ComponentClauses, FrameClauses}
use Rattle.reencode_component.specs.NestedClauses.{PayloadClauses}
use Rattle.reencode_component.proofs.sections_walked.CustomFrames.{custom_framed}
use Rattle.reencode_component.proofs.sections_walked.ComponentLoop.{ComponentDone, component_begin, component_end, component_held, component_more, component_refused, component_refused_leaves, component_unframed, component_unframed_leaves, header_wrong, no_header}
use Rattle.reencode_component.proofs.after_error.SectionsDrawn.{section_drawn}

-- ---- the loop

-- the sections so far are walked and added
pub record ComponentKept {S E : Type 0} (i : Ghosts S E) (depth : ℕ) (bytes : List ℕ) (start : read.Sections) (s0 : S) (old : Sections) (reader : read.Sections) (s : S) (new : Sections) : Type 0 where
  pub kept : KeepsModule old new
  pub len : reader.len ≡ start.len
  pub done : IsTrue i.keeps_defaults → ComponentDone (asks i) i.adds depth bytes s0 old reader.rest s new

-- a payload that the reader gives is a section in its frame
given_framed : {S E : Type 0} (i : Ghosts S E) (depth : ℕ) → depth ≤ 200 → (p : ComponentPayload) {s m : S} {old new : Sections} {r : Result (Unit {0}) (Error E)} → IsGiven p → PayloadClauses i depth p s old m new r →
    FrameClauses i depth (component_frame_tree p) (component_payload_at p) s old m new r
given_framed i depth deep (payload.Section id at body) g c = c
given_framed i depth deep (payload.Unknown at id contents) g c = c
given_framed i depth deep (payload.Core id) g c = absurd g
given_framed i depth deep (payload.Module at bytes) g c = rw c.placed (c.call.framed at)
given_framed i depth deep (payload.Component at bytes) g c = rw c.placed (c.call.framed at)
given_framed i depth deep (payload.Custom at section) g c = rw c.placed (custom_framed i depth deep section.name.now section.contents.now at c.mapped c.call)

-- an error of the bytes leaves no reading of the section
tells_none_read : {E : Type 0} (P : Fault → Type 0) {none : Type 0} (e : Error E) → IfFault e (λ x. none × P x) → TellsFault e → none
tells_none_read P (ParseError x) h q = h.0
tells_none_read P InvalidCodeSectionSize h q = h.0
tells_none_read P UnexpectedNonCoreModuleSection h q = h.0
tells_none_read P UnexpectedNonComponentSection h q = h.0
tells_none_read P _ h q = absurd q

module _ {S E : Type 0} (i : Ghosts S E) (depth : ℕ) where
  pub component_headless : {bytes : List ℕ} {s : S} {old : Sections} (x : Fault) → NoComponentHeader x bytes → (r : Result (Unit {0}) (Error E)) → IsErrAnd r (λ y. y ≡ error_of_fault x) →
      ComponentClauses i depth bytes s old s old r
  component_headless {bytes = bytes} {s = s} {old = old} x wrong r q =
      let P : Result (Unit {0}) (Error E) → Type 0 = λ z. ComponentClauses i depth bytes s old s old z in
      subst P (answers r q) (record {
        kept = keeps_same old;
        default = λ k. header_wrong (asks i) i.adds depth s old x wrong;
        after_error = λ k told size. record {
          leaves = record {
            made = [];
            ended = ended_all {a = []} (error_of_fault x) (fault_unasked E x) refl;
            drawn = drawn_none;
            reading = λ t r. front_none (visits t);
            fault = λ none t rest up. absurd (by t rest up);
          };
          unread = λ none before left f. absurd (no_header x wrong f.front.start f.front.stands);
        };
        headless = λ k none. refl;
        wants = λ k sure h. absurd (known x wrong h);
      })
    where
      by : (t : Tree) (rest : List ℕ) → ComponentUpTo depth bytes t rest → ⊥
      by t rest (ComponentUpTo.sections before left f) = no_header x wrong f.front.start f.front.stands

      known : (x : Fault) → NoComponentHeader x bytes → error_of_fault {E = E} x ≢ NoMemory
      known (fault.Read x) h = λ q. cc
      known (fault.Header kinds.Module) h = λ q. cc
      known (fault.Header kinds.Component) h = absurd h
      known fault.CodeSize h = absurd h
      known fault.NoMemory h = absurd h

  pub component_begun : (bytes : List ℕ) (start : read.Sections) → ComponentHeaderRead bytes start → depth ≤ 200 → (s : S) (old : Sections) → ComponentKept i depth bytes start s old start s old
  component_begun bytes start header deep s old = record { kept = keeps_same old; len = refl; done = λ k. component_begin (asks i) i.adds depth bytes start.rest header.stands deep s old }

  module _ {bytes : List ℕ} {start : read.Sections} (header : ComponentHeaderRead bytes start) {s0 : S} {old : Sections} {reader : read.Sections} {s : S} {new : Sections}
      (inv : ComponentKept i depth bytes start s0 old reader s new) where
    headed : {m : S} → NoComponentHeading bytes → m ≡ s0
    headed none = absurd (none start.rest header.stands)

    counted : {at : ℕ} → at ≡ sections_place reader → at ≡ length bytes - length reader.rest
    counted e = e ∙ ap (λ (n : ℕ). n - length reader.rest) (inv.len ∙ header.len)

    -- no frame begins
    pub kept_unframed : (x : Fault) → NoComponentFrame x reader.rest (sections_place reader) → (r : Result (Unit {0}) (Error E)) → IsErrAnd r (λ y. y ≡ error_of_fault x) →
        ComponentClauses i depth bytes s0 old s new r
    kept_unframed x none r q =
        let P : Result (Unit {0}) (Error E) → Type 0 = λ z. ComponentClauses i depth bytes s0 old s new z in
        subst P (answers r q) (record {
          kept = inv.kept;
          default = λ k. component_unframed (asks i) i.adds depth (inv.done k) x (sections_place reader) none (counted refl);
          after_error = λ k told size. component_unframed_leaves (asks i) i.adds depth (inv.done k) x (sections_place reader) none;
          headless = λ k. headed;
          wants = λ k sure h. absurd (known x none h);
        })
      where
        known : (x : Fault) → NoComponentFrame x reader.rest (sections_place reader) → error_of_fault {E = E} x ≢ NoMemory
        known (fault.Read x) h = λ q. cc
        known fault.CodeSize h = absurd h
        known (fault.Header k) h = absurd h
        known fault.NoMemory h = absurd h

    module _ (deep : depth ≤ 200) (p : ComponentPayload) (given : IsGiven p) {left : List ℕ} (there : Begins frame reader.rest (component_frame_tree p) left) {m : S} {new' : Sections} where
      -- the section was mapped
      pub kept_more : {reader' : read.Sections} → reader'.rest ≡ left → reader'.len ≡ reader.len → PayloadClauses i depth p s new m new' (Ok tt) → ComponentKept i depth bytes start s0 old reader' m new'
      kept_more behind len clauses =
          let call = given_framed i depth deep p given clauses in
          let P : List ℕ → Type 0 = λ z. ComponentDone (asks i) i.adds depth bytes s0 old z m new' in record {
            kept = keeps_more old new new' inv.kept call.kept;
            len = len ∙ inv.len;
            done = λ k. subst P (sym behind) (component_more (asks i) i.adds depth (inv.done k) there (λ t r. section_drawn there r) (call.default k));
          }

      -- it is refused, or has no reading
      pub kept_refused : (e : Error E) → component_payload_at p ≡ sections_place reader → PayloadClauses i depth p s new m new' (Err e) → ComponentClauses i depth bytes s0 old m new' (Err e)
      kept_refused e place clauses = record {
        kept = keeps_more old new new' inv.kept call.kept;
        default = λ k.
            let d = inv.done k in
            let ceiling : new.ceiling ≡ old.ceiling = ap Sections.ceiling d.gains in
            let Q : ℕ → Type 0 = λ c.
            GivesSectionBy (asks i) i.adds depth (inside (asks i) i.adds c depth) (own_inside (asks i) i.adds c depth) (fits_inside (asks i) i.adds c depth) (component_frame_tree p) (component_payload_at p) (s, new) (m, new') (Err e) in
            component_refused (asks i) i.adds depth d (inside (asks i) i.adds old.ceiling depth) (own_inside (asks i) i.adds old.ceiling depth) (fits_inside (asks i) i.adds old.ceiling depth) (component_frame_tree p) (component_payload_at p) left there m new' e
            (subst Q ceiling (call.default k)) (counted place);
        after_error = λ k told size.
            component_refused_leaves (asks i) i.adds depth (inv.done k) e there (λ t r q. tells_none_read _ e (call.default k).unreadable q t r) (call.after_error k told size);
        headless = λ k. headed;
        wants = λ k sure h.
            let L : Error E → Type 0 = λ z. LeavesSection (asks i) depth (component_frame_tree p) s z m in
            component_held (asks i) i.adds depth (inv.done k) there (call.default k).unchanged (subst L h (call.after_error k (λ q. sure) (λ z. absurd (not_size h z))));
      }
        where
          call : FrameClauses i depth (component_frame_tree p) (component_payload_at p) s new m new' (Err e)
          call = given_framed i depth deep p given clauses

          not_size : e ≡ NoMemory → IsSize e → ⊥
          not_size h z = let P : Error E → Type 0 = λ w. IsSize w in subst P h z

    -- the end
    pub kept_ended : reader.rest ≡ [] → ComponentClauses i depth bytes s0 old s new (Ok tt)
    kept_ended empty = record {
      kept = inv.kept;
      default = λ k. component_end (asks i) i.adds depth (inv.done k) empty;
      after_error = λ k. tt;
      headless = λ k. headed;
      wants = λ k sure. tt;
    }
